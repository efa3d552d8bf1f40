-- Lemmas on the parts of an encoding.
pub mod Part
pub mod Places
pub mod OfBytes
pub mod Spell
pub mod Emit
