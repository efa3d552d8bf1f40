-- Lemmas on texts and the window over them.
pub mod Text
pub mod Pair
pub mod Spells
pub mod Cells
