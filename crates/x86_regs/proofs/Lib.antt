-- The lemmas on names of registers, on the order of classes, and on what is hashed.
mod NameLemmas
mod OrderLemmas
mod HashLemmas
