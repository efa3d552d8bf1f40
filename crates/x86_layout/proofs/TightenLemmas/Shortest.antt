-- The shortest raw fields have the same address, and no others of that address have fewer bytes.
use Rattle.std.proofs.Common.{◌≡◌, ℕ, ◌+◌, ◌<◌, ◌≤◌, ◌⊎◌, Option, Some, None, ℤ, arith, Bool, true, false, if◌then◌else◌, refl, sym, ◌∙◌}
use Rattle.std.proofs.Common.{FitsSigned, w32, w64, to_z-of_z}
use Rattle.std.proofs.lemmas.Bool.Decides.{nat_tests}
use Rattle.x86_layout.specs.declared.tightening.registers.Scale.{Scale}
use Rattle.x86_layout.specs.declared.tightening.registers.Scale.TheVariants.{One}
use Rattle.x86_layout.specs.Tightening.Registers.{is_ip_relative, registers_of, IsByteOption}
use Rattle.x86_layout.specs.Tightening.Shortest.{arranged, shortest_registers, address_length, fourth_bit, scale_bits, field_or, rm_alone, rm_by, sib_by}
use Rattle.x86_layout.specs.Tightening.Shortest.{spelled, shortest, IsOfBytes}
use Rattle.x86_fields.specs.declared.raw.Raw.{Raw}
use Rattle.x86_fields.specs.ModRM.{reg_field, packed_byte}
use Rattle.x86_fields.specs.Linear.{constant_by, modulus_by, raw_form, IsSameAddress}
use Rattle.x86_layout.specs.declared.tightening.registers.AddressRegisters.{AddressRegisters}
use Rattle.x86_layout.proofs.TightenLemmas.Raw.{times, part_weight, weight, IsBelow16, IsIndex, width_with_base, bytes_by, bytes_at}
use Rattle.x86_layout.proofs.TightenLemmas.Raw.{middle_is, middle_small, rm_small, spelled_length, spelled_fits, spelled_base}
use Rattle.x86_layout.proofs.TightenLemmas.Raw.{spelled_index, spelled_scale, least, base_number, index_number, base_counts, index_counts}

-- ---- no arrangement of the same registers has fewer bytes: how often a register counts

some_times : (s : Scale) → 0 < times s
some_times s = grind arith

-- ---- bytes

pub at_most_five : (d : ℤ) (b i : Option ℕ) → bytes_by d b i ≤ 5
at_most_five d b i = grind arith

-- ---- what is known from equal counts

abbrev pub Weigh : Option ℕ → Option ℕ → Scale → ℕ → ℕ
Weigh b i s r = part_weight b 1 r + part_weight i (times s) r

-- the base of two registers is the same, or the index that counts once
which : (b i : ℕ) (s : Scale) (b' i' : ℕ) (s' : Scale) → Weigh (Some b) (Some i) s b ≡ Weigh (Some b') (Some i') s' b →
    Weigh (Some b) (Some i) s i ≡ Weigh (Some b') (Some i') s' i → Weigh (Some b) (Some i) s b' ≡ Weigh (Some b') (Some i') s' b' → (b ≡ b')
    ⊎ ((i ≡ b') × (s ≡ One))
which b i s b' i' s' e f g = let some = some_times s in let some' = some_times s' in grind (arith, nat_tests)

-- a base alone
one_base : (d : ℤ) (r b' : ℕ) (i' : Option ℕ) (s' : Scale) → r < 16 → b' < 16 → IsIndex i' →
    ((k : ℕ) → k < 16 → part_weight (Some r) 1 k + 0 ≡ Weigh (Some b') i' s' k) → bytes_by d (Some r) None ≤ bytes_by d (Some b') i'
one_base d r b' None s' hr hb hi e = let f = e b' hb in grind (arith, nat_tests)
one_base d r b' (Some i') s' hr hb hi e = let some = some_times s' in let f = e b' hb in let g = e i' hi.0 in grind (arith, nat_tests)

one_index : (d : ℤ) (r b' : ℕ) (i' : Option ℕ) (s s' : Scale) → r < 16 → b' < 16 → IsIndex i' →
    ((k : ℕ) → k < 16 → 0 + part_weight (Some r) (times s) k ≡ Weigh (Some b') i' s' k) → bytes_at d (arranged d None (Some r) s) ≤ bytes_by d (Some b') i'
one_index d r b' i' One s' hr hb hi e = one_base d r b' i' s' hr hb hi (λ k h. let f = e k h in omega (arith, f))
one_index d r b' None s s' hr hb hi e = let some = some_times s in let f = e b' hb in grind (arith, nat_tests)
one_index d r b' (Some i') s s' hr hb hi e =
    let f = e b' hb in
    let g = e i' hi.0 in
    let some = some_times s' in
    grind (arith, nat_tests)

-- two registers
by_base : (d : ℤ) (b i : ℕ) (s : Scale) (b' : ℕ) → (b ≡ b') ⊎ ((i ≡ b') × (s ≡ One)) → bytes_at d (arranged d (Some b) (Some i) s) ≤ 1 + width_with_base d b'
by_base d b i s b' e = grind arith

pub fewest : (d : ℤ) (b i : Option ℕ) (s : Scale) (b' i' : Option ℕ) (s' : Scale) → IsBelow16 b → IsIndex i → IsBelow16 b' → IsIndex i' →
    ((k : ℕ) → k < 16 → Weigh b i s k ≡ Weigh b' i' s' k) → bytes_at d (arranged d b i s) ≤ bytes_by d b' i'
fewest d b i s None i' s' hb hi hb' hi' e = let at = arranged d b i s in at_most_five d at.base at.index
fewest d None None s (Some b') i' s' hb hi hb' hi' e = let f = e b' hb' in absurd (grind (arith, nat_tests))
fewest d (Some r) None s (Some b') i' s' hb hi hb' hi' e = one_base d r b' i' s' hb hb' hi' e
fewest d None (Some r) s (Some b') i' s' hb hi hb' hi' e = one_index d r b' i' s s' hi.0 hb' hi' e
fewest d (Some b) (Some i) s (Some b') None s' hb hi hb' hi' e = let some = some_times s in let f = e b hb in let g = e i hi.0 in
    absurd (grind (arith, nat_tests))
fewest d (Some b) (Some i) s (Some b') (Some i') s' hb hi hb' hi' e = by_base d b i s b' (which b i s b' i' s' (e b hb) (e i hi.0) (e b' hb'))

-- ---- where registers are arranged

abbrev HaveNumbers : AddressRegisters → Type 0
HaveNumbers at = IsBelow16 at.base × IsIndex at.index

arranged_numbers : (d : ℤ) (b i : Option ℕ) (s : Scale) → IsBelow16 b → IsIndex i → HaveNumbers (arranged d b i s)
arranged_numbers d b i s hb hi = (grind (arith, nat_tests), grind (arith, nat_tests))

-- the registers count as before
arranged_weighs : (d : ℤ) (b i : Option ℕ) (s : Scale) (r : ℕ) → weight (arranged d b i s) r ≡ Weigh b i s r
arranged_weighs d b i s r = grind (arith, nat_tests)

-- ---- spelled fields

-- how often an index counts goes by its scale
same_index : (i j : Option ℕ) (s t : Scale) (r : ℕ) → i ≡ j → ((n : ℕ) → j ≡ Some n → s ≡ t) → part_weight i (times s) r ≡ part_weight j (times t) r
same_index i j s t r e f = grind arith

spelled_weighs : (raw : Raw) (at : AddressRegisters) (r : ℕ) → HaveNumbers at → weight (registers_of (spelled raw at)) r ≡ weight at r
spelled_weighs raw at r h =
    let d = raw.disp in
    let m : ℕ = reg_field raw.modrm in
    let below : m < 8 = middle_small raw.modrm in
    let base = spelled_base d m below (spelled raw at) at.base at.index at.scale refl refl h.0 in
    let index = spelled_index d m below (spelled raw at) at.base at.index at.scale refl h.1 in
    let to = registers_of (spelled raw at) in
    let second : part_weight to.index (times to.scale) r ≡ part_weight at.index (times at.scale) r =
    same_index to.index at.index to.scale at.scale r index (λ n e. rw e (spelled_scale d m below at.base n at.scale)) in
    cc (base, second)

-- a spelled form is never relative to the next instruction
spelled_ip : (raw : Raw) (at : AddressRegisters) → is_ip_relative (spelled raw at) ≡ false
spelled_ip raw at = let below = middle_small raw.modrm in grind (arith, nat_tests)

-- the SIB byte is a byte
spelled_sib : (at : AddressRegisters) (rm : Option ℕ) → IsByteOption (sib_by rm (packed_byte (scale_bits at.scale) (field_or 4 at.index) (field_or 5 at.base)))
spelled_sib at rm = grind (arith, nat_tests)

pub shortest_is_of_bytes : (raw : Raw) → IsOfBytes raw → IsOfBytes (shortest raw)
unfolding shortest
shortest_is_of_bytes raw h = record {
  fit = spelled_fits raw.disp (reg_field raw.modrm) (middle_small raw.modrm) (shortest_registers raw).base (shortest_registers raw).index
      (shortest_registers raw).scale;
  sib = spelled_sib (shortest_registers raw) (rm_alone (shortest_registers raw).base (shortest_registers raw).index);
  disp = h.disp;
}

pub shortest_keeps_reg : (raw : Raw) → reg_field (shortest raw).modrm ≡ reg_field raw.modrm
unfolding shortest
shortest_keeps_reg raw = let at = shortest_registers raw in
    middle_is _ (reg_field raw.modrm) (rm_by (rm_alone at.base at.index)) (middle_small raw.modrm)
    (rm_small raw.disp (reg_field raw.modrm) (middle_small raw.modrm) at.base at.index)

-- ---- the address form

form_weighs : (raw : Raw) (r : ℕ) → IsByteOption raw.sib → is_ip_relative raw ≡ false → (raw_form raw).registers r ≡ weight (registers_of raw) r
form_weighs raw r h e = let base = base_counts raw raw.sib r e in let index = index_counts raw raw.sib r h in omega (arith, base, index)

form_next : (raw : Raw) → (raw_form raw).next ≡ (if is_ip_relative raw then 1 else 0)
form_next raw = grind (arith, nat_tests)

shortest_numbers : (raw : Raw) → HaveNumbers (shortest_registers raw)
shortest_numbers raw = arranged_numbers raw.disp _ _ _ (base_number raw raw.sib) (index_number raw raw.sib)

pub shortest_has_the_address : (raw : Raw) → IsOfBytes raw → is_ip_relative raw ≡ false → IsSameAddress (raw_form (shortest raw)) (raw_form raw)
unfolding shortest
shortest_has_the_address raw h e =
    let at = shortest_registers raw in
    let to = spelled raw at in
    let from = registers_of raw in
    record {
      modulus = refl;
      registers = λ r small.
          form_weighs to r (spelled_sib at (rm_alone at.base at.index)) (spelled_ip raw at)
          ∙ spelled_weighs raw at r (shortest_numbers raw)
          ∙ arranged_weighs raw.disp from.base from.index from.scale r
          ∙ sym (form_weighs raw r h.sib e);
      next = cc (form_next to, spelled_ip raw at, form_next raw, e);
      constant = refl;
    }

-- ---- the lower bound

-- the displacement is known from the constant
disp_known : (short : Bool) (d e : ℤ) → FitsSigned w32 d → FitsSigned w32 e → constant_by short d ≡ constant_by short e → d ≡ e
disp_known true d e fd fe h = cc (to_z-of_z fd, h, to_z-of_z fe)
disp_known false d e fd fe h = cc (to_z-of_z (wide d fd), h, to_z-of_z (wide e fe))
  where
    wide : (d : ℤ) → FitsSigned w32 d → FitsSigned w64 d
    wide d f = let g = f.sfits in record { sfits = omega (arith, g) }

shortest_length : (raw : Raw) → address_length (shortest raw) ≡ bytes_at raw.disp (shortest_registers raw)
unfolding shortest
shortest_length raw = let at = shortest_registers raw in spelled_length raw.disp (reg_field raw.modrm) (middle_small raw.modrm) at.base at.index at.scale

pub none_is_shorter : (raw other : Raw) → IsOfBytes raw → IsOfBytes other → is_ip_relative raw ≡ false →
    IsSameAddress (raw_form other) (raw_form raw) → address_length (shortest raw) ≤ address_length other
none_is_shorter raw other h k e same =
    let from = registers_of raw in
    let to = registers_of other in
    let ip : is_ip_relative other ≡ false = let f = form_next other in let g : (raw_form other).next ≡ 0 = cc (same.next, form_next raw, e) in grind arith in
    let disp : other.disp ≡ raw.disp = disp_known raw.address_size other.disp raw.disp k.disp h.disp
    (cc (short_known other.address_size raw.address_size same.modulus, same.constant)) in
    let counts_so : (r : ℕ) → r < 16 → weight from r ≡ weight to r = λ r small. sym (form_weighs raw r h.sib e)
    ∙ sym (same.registers r small) ∙ form_weighs other r k.sib ip in
    let fewer = fewest raw.disp from.base from.index from.scale to.base to.index to.scale (base_number raw raw.sib)
    (index_number raw raw.sib) (base_number other other.sib) (index_number other other.sib) counts_so in
    let all : bytes_by raw.disp to.base to.index ≤ address_length other = rw (← disp) (least other.disp other other.sib k.fit ip) in
    let long = shortest_length raw in
    omega (arith, long, fewer, all)
  where
    short_known : (a b : Bool) → modulus_by a ≡ modulus_by b → a ≡ b
    short_known a b e = grind arith

-- ---- without a live REX

-- no bit is named by registers below 8
arranged_low : (d : ℤ) (b i : Option ℕ) (s : Scale) → fourth_bit b ≡ false → fourth_bit i ≡ false →
    (fourth_bit (arranged d b i s).base ≡ false) × (fourth_bit (arranged d b i s).index ≡ false)
arranged_low d b i s hb hi = (grind (arith, nat_tests), grind (arith, nat_tests))

pub shortest_keeps_bits : (raw : Raw) → raw.rex_b ≡ false → raw.rex_x ≡ false → ((shortest raw).rex_b ≡ false) × ((shortest raw).rex_x ≡ false)
unfolding shortest
shortest_keeps_bits raw e f =
    let at = registers_of raw in
    arranged_low raw.disp at.base at.index at.scale (grind (arith, nat_tests)) (grind (arith, nat_tests))

pub shortest_keeps_67 : (raw : Raw) → (shortest raw).address_size ≡ raw.address_size
unfolding shortest
shortest_keeps_67 raw = refl

-- what the law of the shortest raw fields says
pub ruleset shortest_laws = (shortest_has_the_address, shortest_keeps_reg, shortest_keeps_bits, none_is_shorter)
