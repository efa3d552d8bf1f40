-- The addresses of places in an image.
use Rattle.std.specs.Prelude.{ℕ, ◌+◌, ◌%◌, ◌^◌}

-- a place in an image that begins at an address
pub record ImagePlace : Type 0 where
  pub base : ℕ
  pub place : ℕ

-- the address of a place, where the image begins at a base
abbrev pub address_of : ℕ → ℕ → ℕ
address_of base place = (base + place) % 2 ^ 64

-- the address of such a place
abbrev pub address_number : ImagePlace → ℕ
address_number p = address_of p.base p.place
