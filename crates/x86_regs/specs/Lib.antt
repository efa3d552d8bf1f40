-- The definitions that the contracts cite: classes and names of registers.
pub mod Class
pub mod Names
pub mod Register
