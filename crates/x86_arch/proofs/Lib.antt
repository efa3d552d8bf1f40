-- The lemmas on reader states.
mod StateLemmas
