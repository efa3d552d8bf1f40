-- The definitions that the contracts cite: texts of operands, instructions, refusals and parts.
pub mod Widths
pub mod Operands
pub mod Lines
pub mod Parts
pub mod Names
