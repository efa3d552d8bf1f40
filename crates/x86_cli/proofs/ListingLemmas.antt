-- Lemmas on listings.
pub mod Vocabulary
pub mod Listing
pub mod Grammar
pub mod NextEntry
pub mod Sweep
pub mod Target
pub mod Live
pub mod Closes
pub mod Whole
pub mod Certain
