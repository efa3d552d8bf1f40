-- The lemmas on parts, on shortest encodings and on sweeps.
mod PartLemmas
mod TightenLemmas
pub mod SweepLemmas
