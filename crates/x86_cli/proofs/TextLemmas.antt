-- Lemmas on what the window shows.
pub mod Decoded
pub mod More
