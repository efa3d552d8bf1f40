-- What several answers share.
mod NameLemmas
mod HashLemmas
