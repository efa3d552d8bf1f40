-- The text of an instruction, from the parts of its encoding and the decoder's answer.
pub mod Numbers
pub mod Context
pub mod Letters
pub mod Entries
pub mod Names
pub mod Words
pub mod Sizes
pub mod Memory
pub mod Immediates
pub mod Operands
pub mod Shown
pub mod Instructions
