-- Lemmas on runs of commands.
pub mod Causes
pub mod Ends
pub mod Known
pub mod Says
pub mod Leaves
pub mod Lent
