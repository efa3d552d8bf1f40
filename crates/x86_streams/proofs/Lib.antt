-- The lemmas on sources and sinks, on hex text, and on lines.
pub mod LineLemmas
pub mod OutsideLemmas
pub mod TextLemmas
