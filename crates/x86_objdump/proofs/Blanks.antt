-- The first of blanks.
use Rattle.std.proofs.Common.{◌≡◌, ◌≤◌, ℕ, take, refl, ap, ◌∙◌}
use Rattle.std.specs.Prelude.{codes, replicate}
use Rattle.std.proofs.lemmas.List.{take-replicate}

blanks : codes "                                " ≡ replicate 32 32
blanks = refl

eight : codes "        " ≡ replicate 8 32
eight = refl

pub first_blanks : (count : ℕ) → count ≤ 32 → take count (codes "                                ") ≡ replicate count 32
first_blanks count few = ap (take count) blanks ∙ take-replicate count 32 32 few

pub first_of_eight : (count : ℕ) → count ≤ 8 → take count (codes "        ") ≡ replicate count 32
first_of_eight count few = ap (take count) eight ∙ take-replicate count 8 32 few
