-- The lemmas on texts of operands and on names.
pub mod OperandLemmas
pub mod NameLemmas
