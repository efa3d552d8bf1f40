-- The definitions that the contracts cite: the text of instructions, vectors, lines, listings, and words.
pub mod Text
pub mod Vectors
pub mod Lines
pub mod Listing
pub mod Pieces
pub mod Certain
pub mod Program
