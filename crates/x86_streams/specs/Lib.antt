-- The definitions that the contracts cite: sources and sinks, hex text, and numbers in hexadecimal.
pub mod Lines
pub mod Outside
pub mod Text
