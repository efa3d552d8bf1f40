-- Lemmas on readers and writers.
pub mod Calls
pub mod Record
