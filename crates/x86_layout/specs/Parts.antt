-- The parts of an encoding: where they are, fields that hold them, and which fields are permitted.
pub mod Heads
pub mod Split
pub mod OfBytes
pub mod Fields
pub mod Permitted
