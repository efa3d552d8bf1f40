-- Places, and digits in hexadecimal.
pub mod Place
pub mod Hexadecimal
pub mod Address
