use Rattle.std.proofs.Common.{arith, rules, suc, ◌-◌, ◌<◌, ◌≡◌, refl, length, ℕ, List, ◌∷◌, drop, subst, sym, None, slice_index_or}
use Rattle.std.proofs.lemmas.List.{drop_all}
use Rattle.std.proofs.lemmas.Grind.{common_steps}
use Rattle.x86_streams.specs.declared.text.beginning.Beginning.TheVariants.{Blank, Pair, Bad, Large, Open}
use Rattle.x86_streams.specs.Text.{value_of, text_at, image_of, bad_of, ends_in_half}
use Rattle.x86_streams.proofs.TextLemmas.Text.{open-none, open-half, text-blank, text-pair}
use Rattle.std.proofs.Math.Seq.{drop-cons}
use Rattle.x86_streams.specs.declared.text.beginning.Beginning.{Beginning}
use Rattle.x86_streams.specs.Text.Beginning.{IsBeginning}
use Rattle.x86_streams.proofs.text.beginning.beginning_of.Goals as goal

-- by the first byte, and by the first two
module _ (b : Beginning) (text : List ℕ) (room r : ℕ) (some : 0 < length text) (same : room ≡ r) where
  by_first : IsBeginning b (slice_index_or text 0 0 ∷ drop 1 text) r → IsBeginning b text room
  by_first h = subst (λ t. IsBeginning b t room) (sym (drop-cons text 0 0 some)) (rw same h)

  by_second : 1 < length text → IsBeginning b (slice_index_or text 0 0 ∷ slice_index_or text 1 0 ∷ drop 2 text) r → IsBeginning b text room
  by_second two h = by_first (subst (λ t. IsBeginning b (slice_index_or text 0 0 ∷ t) r) (sym (drop-cons text 1 0 two)) h)

pub returns-then-is_empty : goal.returns-then-is_empty
returns-then-is_empty c = rw (drop_all 0 c.args.text.now (search rules)) (open-none _)

pub returns-then-room-eq0 : goal.returns-then-room-eq0
unfolding text_at image_of bad_of ends_in_half
returns-then-room-eq0 c = by_first Large _ _ 0 (search rules) c.if-room-eq0.true (λ p xs s. refl)

pub returns-in-Blank : goal.returns-in-Blank
returns-in-Blank c =
    by_first Blank _ _ (suc (c.args.room - 1)) (search rules) (omega arith) (omega arith, omega arith, λ p xs s. grind (arith, text-blank))

pub returns-in-Other : goal.returns-in-Other
unfolding text_at image_of bad_of ends_in_half
returns-in-Other c =
    by_first (Bad 0) _ _ (suc (c.args.room - 1)) (search rules) (omega arith) (omega arith, omega arith, λ p xs s. grind (arith, common_steps))

pub returns-then-text-eq1 : goal.returns-then-text-eq1
returns-then-text-eq1 c =
    by_first Open _ _ (suc (c.args.room - 1)) (search rules) (omega arith)
    (rw (drop_all 1 c.args.text.now (omega arith)) (open-half _ _ c.in-Digit.high c.in-Digit.ensures.0 c.in-Digit.ensures.1))

pub returns-then-room-eq1 : goal.returns-then-room-eq1
unfolding text_at image_of bad_of ends_in_half
returns-then-room-eq1 c =
    let some : 0 < length c.args.text.now = search rules in
    by_second Large _ _ 1 some c.if-room-eq1.true (omega arith) (λ p xs s. rw (c.in-Digit.ensures.0, c.in-Digit.ensures.1) refl)

pub returns-in-Digit-kind_of : goal.returns-in-Digit-kind_of
returns-in-Digit-kind_of c =
    let some : 0 < length c.args.text.now = search rules in
    by_second (Pair _) _ _ (suc (suc (c.args.room - 2))) some (omega arith) (omega arith) (omega arith, omega arith, λ p xs s. grind (arith, text-pair))

pub returns-in-Blank-kind_of : goal.returns-in-Blank-kind_of
unfolding text_at image_of bad_of ends_in_half
returns-in-Blank-kind_of c =
    let some : 0 < length c.args.text.now = search rules in
    let none : value_of (slice_index_or c.args.text.now 1 0) ≡ None = grind (arith, c.kind_of-2.ensures, c.in-Blank-kind_of.is) in
    by_second (Bad 1) _ _ (suc (suc (c.args.room - 2))) some (omega arith) (omega arith)
    (omega arith, omega arith, λ p xs s. rw (c.in-Digit.ensures.0, c.in-Digit.ensures.1, none) refl)
