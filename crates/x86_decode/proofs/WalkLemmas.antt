-- What the true reader has taken where the bounded one has ended.
use Rattle.std.proofs.Common.{◌≡◌, ℕ, List, [], ◌∷◌, get_or, ◌+◌, ◌-◌, ◌≤◌, Bool, true, false, length, drop, Result, Ok, Err, is_ok, refl}
use Rattle.std.proofs.Common.{sym, ap, ◌∙◌, arith, length-take, length-drop, nat_le}
use Rattle.std.proofs.lemmas.Bool.Decides.{nat_tests}
use Rattle.x86_arch.specs.Reader.{State, advanced}
use Rattle.x86_fields.specs.declared.errors.DecodeError.{DecodeError}
use Rattle.x86_fields.specs.declared.errors.DecodeError.TheVariants.{ExhaustedInput, TooLong}
use Rattle.x86_fields.specs.Steps.{Outcome, outcome}
use Rattle.x86_fields.proofs.StepLemmas.{advanced_twice}
use Rattle.x86_operands.specs.Places.{Placed}
use Rattle.x86_decode.specs.declared.instructions.Instruction.{Instruction}
use Rattle.x86_decode.specs.Head.{Rows}
use Rattle.x86_decode.specs.Instruction.{holding, reading_in}
use Rattle.x86_decode.specs.Bound.{bounded, HasAdvanced}
use Rattle.x86_fields.specs.Errors.{is_exhausted}
use Rattle.x86_operands.specs.declared.operands.Slot.{Slot}
use Rattle.x86_operands.specs.declared.operands.Slot.TheVariants.{Nothing}
use Rattle.x86_decode.specs.Grammar.{allows_lock, first_slot}
use Rattle.x86_decode.specs.Walk.{placed_in, walk_placed, bounded_outcome, judgement, limit_step, takes_lock, walk_bounded}
use Rattle.x86_fields.specs.Prefixes.{lock}
use Rattle.x86_decode.proofs.BoundLemmas.{same_state}
use Rattle.x86_decode.proofs.PlaceLemmas.{Moves, walk_moves}

module _ (rows : Rows) (strict : Bool) (m t : State ℕ) (a : ℕ) (r : Result Placed DecodeError) where
  -- the reader's state after the reading, and the outcome of the walk
  pub record Walked : Type 0 where
    pub count : t.since_mark ≡ 15 - a
    pub room : 15 - a ≤ length m.left
    pub at : t ≡ advanced t.since_mark m
    pub is : walk_bounded rows strict m ≡ bounded_outcome r t.since_mark m

  pub walked : (u start : State ℕ) → outcome r u ≡ walk_placed rows strict (bounded 15 m) → bounded a t ≡ u → a ≤ 15 →
      HasAdvanced (15 - a) start t → m ≡ start → m.since_mark ≡ 0 → Walked
  walked u start e b few following same zero =
      let o : Outcome Placed = walk_placed rows strict (bounded 15 m) in
      let v : Moves rows strict (bounded 15 m) o = walk_moves rows strict (bounded 15 m) in
      let after : bounded a t ≡ o.after = b ∙ ap (λ x. x.after) e in
      let mark : t.since_mark ≡ m.since_mark + v.count = ap (λ x. x.since_mark) after ∙ ap (λ x. x.since_mark) v.after in
      let made : t.since_made ≡ m.since_made + v.count = ap (λ x. x.since_made) after ∙ ap (λ x. x.since_made) v.after in
      let here : t.since_made ≡ m.since_made + (15 - a) = following.made ∙ ap (λ x. x.since_made + (15 - a)) (sym same) in
      let count : t.since_mark ≡ 15 - a = omega arith in
      let within : 15 - a ≤ length m.left = omega (arith, v.within, length-take 15 m.left) in
      record {
        count = count;
        room = within;
        at = same_state (following.left ∙ ap (λ x. drop (15 - a) x.left) (sym same) ∙ ap (λ n. drop n m.left) (sym count))
            (let h : t.since_mark ≡ m.since_mark + t.since_mark = omega arith in h) (here ∙ ap (λ n. m.since_made + n) (sym count));
        is = ap (λ x. bounded_outcome x.answer x.after.since_mark m) (sym e) ∙ ap (λ n. bounded_outcome r n m) (sym (ap (λ x. x.since_mark) b));
      }

-- slots have a first one
pub first_is : (slots : List Slot) → get_or slots 0 Nothing ≡ first_slot slots
first_is [] = refl
first_is (slot ∷ rest) = refl

pub is_judged : (allowed : Bool) → is_ok (judgement allowed) ≡ allowed
is_judged true = refl
is_judged false = refl

pub judged_first : (i : Instruction) (j : Result (Unit {0}) DecodeError) →
    j ≡ judgement (takes_lock i.prefixes i.opcode (get_or i.operand_list.slots 0 Nothing)) → j ≡ judgement (allows_lock (reading_in i))
judged_first i j e = e ∙ ap (λ slot. judgement (takes_lock i.prefixes i.opcode slot)) (first_is i.operand_list.slots)

-- no judgement where F0 is absent
pub unlocked : (i : Instruction) → lock i.prefixes ≡ false → ◌≡◌ {A = Result (Unit {0}) DecodeError} (Ok tt) (judgement (allows_lock (reading_in i)))
unlocked i absent = rw absent refl

pub ends_judged : (rows : Rows) (strict : Bool) (m t : State ℕ) (a n : ℕ) (i : Instruction) (j : Result (Unit {0}) DecodeError) →
    Walked rows strict m t a (Ok (placed_in i)) → n ≡ t.since_mark → j ≡ judgement (allows_lock (reading_in i)) →
    outcome (holding (record i { length = n }) j) t ≡ walk_bounded rows strict m
ends_judged rows strict m t a n i j w e h = ap (λ k. outcome (holding (record i { length = n }) k) t) h ∙ same
    ∙ ap (λ k. bounded_outcome (Ok (placed_in i)) k m) e ∙ sym w.is
  where
    same : outcome (holding (record i { length = n }) (judgement (allows_lock (reading_in i)))) t ≡ bounded_outcome (Ok (placed_in i)) n m
    same = let at : t ≡ advanced n m = w.at ∙ ap (λ k. advanced k m) (sym e) in grind arith

-- the items still allowed are there exactly where there were fifteen
there : (rows : Rows) (strict : Bool) (m t : State ℕ) (a : ℕ) (r : Result Placed DecodeError) → Walked rows strict m t a r → a ≤ 15 →
    nat_le a (length t.left) ≡ nat_le 15 (length m.left)
there rows strict m t a r w few =
    let room = w.room in
    let left : length t.left ≡ length m.left - (15 - a) = ap (λ s. length s.left) w.at ∙ length-drop t.since_mark m.left
    ∙ ap (λ n. length m.left - n) w.count in
    grind (arith, nat_tests)

pub ends_refused : (rows : Rows) (strict : Bool) (m t : State ℕ) (a : ℕ) (e : DecodeError) → Walked rows strict m t a (Err e) → a ≤ 15 →
    limit_step e a t ≡ walk_bounded rows strict m
ends_refused rows strict m t a e w few = by (is_exhausted e) (nat_le 15 (length m.left)) refl refl
  where
    by : (exhausted full : Bool) → is_exhausted e ≡ exhausted → nat_le 15 (length m.left) ≡ full → limit_step e a t ≡ walk_bounded rows strict m
    by false full k h = rw k (ap (λ s. outcome (Err e) s) w.at ∙ sym (w.is ∙ rw k refl))
    by true true k h =
        let all : t.since_mark + a ≡ 15 = let c = w.count in omega arith in
        rw (k, there rows strict m t a (Err e) w few ∙ h)
        (ap (λ s. outcome (Err TooLong) s) (ap (advanced a) w.at ∙ advanced_twice t.since_mark a m ∙ ap (λ n. advanced n m) all)
        ∙ sym (w.is ∙ rw (k, h) refl))
    by true false k h =
        let same : is_exhausted e ≡ true → e ≡ ExhaustedInput = grind arith in
        rw (k, there rows strict m t a (Err e) w few ∙ h)
        (ap (λ s. outcome (Err e) s) w.at ∙ ap (λ x. outcome (Err x) (advanced t.since_mark m)) (same k) ∙ sym (w.is ∙ rw (k, h) refl))
