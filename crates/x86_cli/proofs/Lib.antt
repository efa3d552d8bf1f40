-- The lemmas on addresses, on worked sentences, on the window, on listings and on commands.
pub mod AddressLemmas
pub mod HeadlineLemmas
pub mod WorkedLemmas
pub mod TextLemmas
pub mod ListingLemmas
pub mod CommandLemmas
