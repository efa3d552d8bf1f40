-- The lemmas on sentences in one record, on the fields of the headline, and on what follows of it.
pub mod Sentences
pub mod Fields
pub mod Consequences
