-- The lemmas on the rows of groups, and on what is read of a group.
pub mod ChoiceLemmas
pub mod GroupLemmas
pub mod HeadLemmas
pub mod CellLemmas
pub mod ByteLemmas
pub mod KnownLemmas
pub mod AddressLemmas
