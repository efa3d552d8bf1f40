-- The operands of an instance, read twice: at each place they are alike, where the parts of the instance are.
use Rattle.std.proofs.Common.{◌≡◌, ℕ, zero, suc, List, [], ◌∷◌, take, drop, Option, None, slice_index_or, refl, ap}
use Rattle.x86_fields.specs.declared.prefixes.Prefixes.{Prefixes}
use Rattle.x86_fields.specs.declared.raw.Raw.{Raw}
use Rattle.x86_operands.specs.declared.operand_list.Operands.{Operands}
use Rattle.x86_operands.specs.declared.operands.Operand.{Operand}
use Rattle.x86_operands.specs.declared.operands.Operand.TheVariants as operands
use Rattle.x86_operands.specs.declared.operands.Slot.{Slot}
use Rattle.x86_operands.specs.declared.operands.Slot.TheVariants as slots
use Rattle.x86_operands.specs.declared.order.Position.{Position}
use Rattle.x86_operands.specs.declared.order.Position.TheVariants.{First, Second, Third, Fourth, Nowhere}
use Rattle.x86_operands.specs.Asks.{part_width}
use Rattle.x86_operands.specs.Pieces.{operand_from, operands_from}
use Rattle.x86_operands.specs.RowSteps.{known_operand, put_in}
use Rattle.x86_operands.specs.Records.{Instance, order_of}

abbrev Pair : Type 0
Pair = Slot × Operand

-- what is at an index, where no count is looked at
abbrev pub pair_read : Operands → ℕ → Pair
pair_read l k = (slice_index_or l.slots k slots.Nothing, slice_index_or l.operands k operands.Nothing)

abbrev four : ℕ → ℕ → Pair → Pair → Pair → Pair → Operands
four count size a b c d = record {
  count = count;
  slots = a.0 ∷ b.0 ∷ c.0 ∷ d.0 ∷ [];
  operands = a.1 ∷ b.1 ∷ c.1 ∷ d.1 ∷ [];
  mem_size = size;
}

module _ (R : Pair → Pair → Type 0) (none : R (slots.Nothing, operands.Nothing) (slots.Nothing, operands.Nothing)) where
  pub data Alike (l m : Operands) : Type 0 where
    alike : (count size : ℕ) (a b c d a' b' c' d' : Pair) → R a a' → R b b' → R c c' → R d d' →
        l ≡ four count size a b c d → m ≡ four count size a' b' c' d' → Alike l m

  put_alike : (at : Position) (x y : Pair) {l m : Operands} → R x y → Alike l m → Alike (put_in at x l) (put_in at y m)
  put_alike First x y r (alike k s a b c d a' b' c' d' ra rb rc rd hl hm) =
      alike k s x b c d y b' c' d' r rb rc rd (ap (put_in First x) hl) (ap (put_in First y) hm)
  put_alike Second x y r (alike k s a b c d a' b' c' d' ra rb rc rd hl hm) =
      alike k s a x c d a' y c' d' ra r rc rd (ap (put_in Second x) hl) (ap (put_in Second y) hm)
  put_alike Third x y r (alike k s a b c d a' b' c' d' ra rb rc rd hl hm) =
      alike k s a b x d a' b' y d' ra rb r rd (ap (put_in Third x) hl) (ap (put_in Third y) hm)
  put_alike Fourth x y r (alike k s a b c d a' b' c' d' ra rb rc rd hl hm) =
      alike k s a b c x a' b' c' y ra rb rc r (ap (put_in Fourth x) hl) (ap (put_in Fourth y) hm)
  put_alike Nowhere x y r h = h

  -- the parts are alike, so the operands are
  pub record PartsAlike (instance : Instance) (p q : Prefixes) (m n : ℕ) (old new : Option Raw) : Type 0 where
    pub rm : R (known_operand instance.rm p m old) (known_operand instance.rm q n new)
    pub reg : R (known_operand instance.reg p m None) (known_operand instance.reg q n None)
    pub last : (bytes : List ℕ) → R (operand_from instance.last p m bytes) (operand_from instance.last q n bytes)
    pub extra : (bytes : List ℕ) → R (operand_from instance.extra p m bytes) (operand_from instance.extra q n bytes)

  pub operands_alike : (instance : Instance) (p q : Prefixes) (m n : ℕ) (old new : Option Raw) (bytes : List ℕ) → PartsAlike instance p q m n old new →
      Alike (operands_from instance p m old bytes) (operands_from instance q n new bytes)
  operands_alike instance p q m n old new bytes h =
      put_alike (order_of instance).extra _ _ (h.extra (drop (part_width (order_of instance).last instance.last) bytes))
      (put_alike (order_of instance).last _ _ (h.last (take (part_width (order_of instance).last instance.last) bytes))
      (put_alike (order_of instance).reg _ _ h.reg (put_alike (order_of instance).rm _ _ h.rm
      (alike (order_of instance).count instance.size _ _ _ _ _ _ _ _ none none none none refl refl))))

  pub each_alike : {l m : Operands} → Alike l m → (k : ℕ) → R (pair_read l k) (pair_read m k)
  each_alike (alike n s a b c d a' b' c' d' ra rb rc rd hl hm) zero = rw (hl, hm) ra
  each_alike (alike n s a b c d a' b' c' d' ra rb rc rd hl hm) (suc zero) = rw (hl, hm) rb
  each_alike (alike n s a b c d a' b' c' d' ra rb rc rd hl hm) (suc (suc zero)) = rw (hl, hm) rc
  each_alike (alike n s a b c d a' b' c' d' ra rb rc rd hl hm) (suc (suc (suc zero))) = rw (hl, hm) rd
  each_alike (alike n s a b c d a' b' c' d' ra rb rc rd hl hm) (suc (suc (suc (suc k)))) = rw (hl, hm) none
