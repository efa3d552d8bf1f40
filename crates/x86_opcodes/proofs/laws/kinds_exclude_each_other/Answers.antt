use Rattle.std.proofs.Common.{◌≡◌, ℕ, Bool, true, false, not, eqb, ◌&&◌, List, [], ◌∷◌, refl, sym, ap, inl, inr, ◌∙◌}
use Rattle.std.proofs.lemmas.Bool.{and_parts, or_cases, eqb-true, not-true}
use Rattle.x86_opcodes.specs.Kinds.{is_among, jumps, moves, settings}
use Rattle.x86_opcodes.proofs.laws.kinds_exclude_each_other.Goals as goal

-- none of these is one of those
abbrev apart : List ℕ → List ℕ → Bool
apart [] ps = true
apart (x ∷ os) ps = not (is_among ps x) && apart os ps

not_among : (os ps : List ℕ) (o : ℕ) → apart os ps ≡ true → is_among os o ≡ true → is_among ps o ≡ false
not_among [] ps o e h = absurd cc
not_among (x ∷ os) ps o e h =
    let parts = and_parts (not (is_among ps x)) (apart os ps) e in
    elim (or_cases (eqb x o) (is_among os o) h) [
      | inl same ↦ ap (is_among ps) (sym (eqb-true x o same)) ∙ not-true (is_among ps x) parts.0
      | inr later ↦ not_among os ps o parts.1 later
    ]

not_both : (os ps : List ℕ) (o : ℕ) → apart os ps ≡ true → (is_among os o && is_among ps o) ≡ false
not_both os ps o e =
    elim (is_among os o) as (λ b. (is_among os o ≡ b) → (b && is_among ps o) ≡ false) [ true ↦ λ h. not_among os ps o e h | false ↦ λ h. refl ] refl

pub returns-clause-jump_or_move : goal.returns-clause-jump_or_move
returns-clause-jump_or_move c o = not_both jumps moves o refl

pub returns-clause-jump_or_setting : goal.returns-clause-jump_or_setting
returns-clause-jump_or_setting c o = not_both jumps settings o refl

pub returns-clause-move_or_setting : goal.returns-clause-move_or_setting
returns-clause-move_or_setting c o = not_both moves settings o refl
