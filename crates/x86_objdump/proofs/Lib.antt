-- The lemmas on the listing.
pub mod Blanks
pub mod Columns
pub mod Heads
pub mod Letters
pub mod VectorLemmas
pub mod ListingLemmas
pub mod PieceLemmas
pub mod Certain
pub mod CutText
