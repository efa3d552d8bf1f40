use Rattle.std.proofs.Common.{◌≡◌, ℕ, true, false, cond, eqb, ◌||◌, List, [], ◌∷◌, ◌++◌, map, is_some, Some, refl, ap, ◌∙◌}
use Rattle.x86_opcodes.specs.Kinds.{Conditional, conditional, condition_in, is_among, jumps, moves, settings}
use Rattle.x86_opcodes.proofs.laws.condition_is_of_the_three_kinds.Goals as goal

some_in : (cs : List Conditional) (o : ℕ) → is_some (condition_in cs o) ≡ is_among (map (λ c. c.opcode) cs) o
some_in [] o = refl
some_in (c ∷ cs) o =
    elim (eqb c.opcode o) as (λ b. is_some (cond b (Some c.code) (condition_in cs o)) ≡ (b || is_among (map (λ c. c.opcode) cs) o)) [
      | true ↦
          refl
      | false ↦ some_in cs o
    ]

among_append : (os ps : List ℕ) (o : ℕ) → is_among (os ++ ps) o ≡ (is_among os o || is_among ps o)
among_append [] ps o = refl
among_append (x ∷ os) ps o =
    elim (eqb x o) as (λ b. (b || is_among (os ++ ps) o) ≡ ((b || is_among os o) || is_among ps o)) [ true ↦ refl | false ↦ among_append os ps o ]

pub returns : goal.returns
returns c o =
    some_in conditional o ∙ (among_append jumps (moves ++ settings) o ∙ ap (λ b. is_among jumps o || b) (among_append moves settings o))
