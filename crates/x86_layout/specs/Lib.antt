-- The definitions that the contracts cite.
pub mod Parts
pub mod Tightening
pub mod Sweeps
