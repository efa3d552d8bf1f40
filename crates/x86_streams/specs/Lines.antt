-- Numbers and bytes as text.
pub mod Hexadecimal
pub mod Address
