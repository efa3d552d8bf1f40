-- Lemmas on the cuts of a sweep and their marks.
pub mod Place
pub mod Pieces
