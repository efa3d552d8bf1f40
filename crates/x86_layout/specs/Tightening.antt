-- The shortest encoding of an address, and its length.
pub mod Registers
pub mod Shortest
pub mod Tighten
pub mod Least
pub mod Same
