-- The definitions that the contracts cite: the rows of the groups, what is read of a group, and a row that is read at once.
pub mod Vocabulary
pub mod Rows
pub mod Groups
pub mod Bytes
pub mod Heads
