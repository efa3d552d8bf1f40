-- The definitions that the contracts cite: the window, listings and commands.
pub mod Text
pub mod Addresses
pub mod DecoderLaws
pub mod Listings
pub mod Sentences
pub mod Headline
pub mod Functions
pub mod Consequences
pub mod Worked
pub mod Commands
