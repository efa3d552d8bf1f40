-- The bytes of raw fields, and the raw fields of bytes.
use Rattle.std.proofs.Common.{◌≡◌, ℕ, suc, ◌-◌, ◌%◌, ◌^◌, ◌<◌, ◌==◌, Bool, true, false, if◌then◌else◌, Option, Some, None, List, [], ◌∷◌}
use Rattle.std.proofs.Common.{◌++◌, length, take, ℤ, pos, negsuc, refl, sym, ap, subst, ◌∙◌, arith, length-append, FitsSigned}
use Rattle.std.specs.Int.{w8, w32, cast_signed, cast_unsigned, from_le_bytes, to_le_bytes}
use Rattle.std.proofs.lemmas.Bool.{and_parts}
use Rattle.std.proofs.lemmas.Bool.Decides.{nat_tests}
use Rattle.std.proofs.lemmas.Int.{to_z-of_z, to_z_pos}
use Rattle.std.proofs.lemmas.Nat.{from_le_bytes-to_le_bytes_4}
use Rattle.x86_fields.specs.declared.prefixes.Prefixes.{Prefixes}
use Rattle.x86_fields.specs.declared.rex.PrefixRex.{PrefixRex}
use Rattle.x86_fields.specs.declared.raw.Raw.{Raw}
use Rattle.x86_fields.specs.ModRM.{mod_field, is_memory}
use Rattle.x86_fields.specs.Raw.{live_bit, displacement_width, names_no_base, sib_fits, is_byte, disp_fits, has_b, has_x}
use Rattle.x86_fields.specs.Pieces.{option_bytes, signed_by}
use Rattle.x86_operands.specs.Pieces.{SpellsMemory}
use Rattle.x86_operands.specs.declared.order.Position.TheVariants.{First}
use Rattle.x86_decode.proofs.ByteLemmas.{Bytes, bytes_after, memory_fits}
use Rattle.x86_layout.specs.Tightening.Registers.{IsByteOption}
use Rattle.x86_layout.specs.Tightening.Shortest.{address_length, IsOfBytes}
use Rattle.x86_layout.specs.Tightening.Tighten.{bits_in, spelled_displacement}
use Rattle.x86_layout.proofs.PartLemmas.OfBytes.{option_count}

abbrev pub address_bytes : Raw → List ℕ
address_bytes raw = option_bytes raw.sib ++ spelled_displacement raw

-- ---- the displacement that bytes spell fits its width

beginning_small : (l : List ℕ) → Bytes l → from_le_bytes w8 l < 256
beginning_small [] h = omega arith
beginning_small (b ∷ l) h = h.0

spelled_disp_fits : (width : ℕ) (l : List ℕ) → Bytes l → disp_fits width (signed_by width l) ≡ true
spelled_disp_fits width l h = let small = beginning_small l h in grind (arith, nat_tests)

beginning_byte : (sib : Option ℕ) (disp : List ℕ) → Bytes (option_bytes sib ++ disp) → IsByteOption sib
beginning_byte sib disp h = grind arith

-- raw fields that bytes spell are raw fields of bytes
pub of_bytes : (p : Prefixes) (m : ℕ) (address : List ℕ) (raw : Raw) → SpellsMemory First p m address (Some raw) → Bytes address → IsOfBytes raw
of_bytes p m address raw h b =
    let s = h.1 in
    let both : Bytes (option_bytes s.sib ++ s.disp) = subst Bytes s.spelled b in
    let fits : sib_fits m s.sib ≡ true = let e = s.sib_present in grind arith in
    let disp : Bytes s.disp = bytes_after (option_bytes s.sib) s.disp both in
    record {
      fit = cc (s.fields, h.0, fits, spelled_disp_fits (displacement_width m s.sib) s.disp disp);
      sib = subst (λ r. IsByteOption r.sib) (sym s.fields) (beginning_byte s.sib s.disp both);
      disp = memory_fits First p m address (Some raw) raw h refl b;
    }

-- and have as many bytes

pub address_long : (p : Prefixes) (m : ℕ) (address : List ℕ) (raw : Raw) → SpellsMemory First p m address (Some raw) → length address ≡ address_length raw
address_long p m address raw h =
    let s = h.1 in
    let long = length-append (option_bytes s.sib) s.disp in
    cc (s.spelled, long, option_count s.sib, s.disp_length, s.fields)

-- ---- the bytes of raw fields spell them

byte_back : (d : ℤ) → is_byte d ≡ true → cast_signed w8 (cast_unsigned w32 d % 256) ≡ d
byte_back (pos n) e = let small : n < 128 = grind (arith, nat_tests) in
    ap (cast_signed w8) (let f : n % 256 ≡ n = omega (arith, small) in f) ∙ to_z_pos w8 n small
byte_back (negsuc n) e =
    let small : n < 128 = grind (arith, nat_tests) in
    ap (cast_signed w8) (let f : (2 ^ 32 - suc n) % 256 ≡ 256 - suc n = omega (arith, small) in f)
    ∙ to_z-of_z w8 (negsuc n) (record { sfits = omega (arith, small) })

unsigned_small : (d : ℤ) → FitsSigned w32 d → cast_unsigned w32 d < 2 ^ 32
unsigned_small (pos n) f = let g = f.sfits in omega (arith, g)
unsigned_small (negsuc n) f = omega arith

abbrev Width : Bool → Bool → Bool → ℕ
Width one two none = if one then 1 else (if two then 4 else (if none then 4 else 0))

abbrev Lowest : ℕ → ℤ → List ℕ
Lowest width d = take width (to_le_bytes w32 (cast_unsigned w32 d))

four_back : (d : ℤ) → FitsSigned w32 d → cast_signed w32 (from_le_bytes w32 (to_le_bytes w32 (cast_unsigned w32 d))) ≡ d
four_back d f = ap (cast_signed w32) (from_le_bytes-to_le_bytes_4 (cast_unsigned w32 d) (unsigned_small d f)) ∙ to_z-of_z w32 d f

signed_back : (one two none : Bool) (d : ℤ) → disp_fits (Width one two none) d ≡ true → FitsSigned w32 d →
    signed_by (Width one two none) (Lowest (Width one two none) d) ≡ d
signed_back one two none d e f = let byte = byte_back d in let four = four_back d f in grind (arith, nat_tests)

lowest_long_by : (one two none : Bool) (d : ℤ) → length (Lowest (Width one two none) d) ≡ Width one two none
lowest_long_by one two none d = grind arith

displacement_long : (raw : Raw) → length (spelled_displacement raw) ≡ displacement_width raw.modrm raw.sib
displacement_long raw = lowest_long_by (mod_field raw.modrm == 1) (mod_field raw.modrm == 2) (names_no_base raw.modrm raw.sib) raw.disp

-- the bytes of raw fields spell them, under prefixes with their bits
pub respells : (q : Prefixes) (raw : Raw) → IsOfBytes raw → has_b q ≡ raw.rex_b → has_x q ≡ raw.rex_x → q.address_size ≡ raw.address_size →
    SpellsMemory First q raw.modrm (address_bytes raw) (Some raw)
respells q raw h b x short =
    let memory = and_parts (is_memory raw.modrm) _ h.fit in
    let fit = and_parts (sib_fits raw.modrm raw.sib) _ memory.1 in
    let m = mod_field raw.modrm in
    let value = signed_back (m == 1) (m == 2) (names_no_base raw.modrm raw.sib) raw.disp fit.1 h.disp in (
      memory.0,
      record {
        sib = raw.sib;
        disp = spelled_displacement raw;
        spelled = refl;
        sib_present = grind (arith, fit.0);
        disp_length = displacement_long raw;
        fields = rw (b, x, short, value) refl;
      },
    )

pub address_bytes_long : (raw : Raw) → length (address_bytes raw) ≡ address_length raw
address_bytes_long raw = let long = length-append (option_bytes raw.sib) (spelled_displacement raw) in cc (long, option_count raw.sib, displacement_long raw)

-- ---- the bits of a REX

pub bits_with : (x b : Bool) (rex : Option PrefixRex) → (rex ≡ None → (b ≡ false) × (x ≡ false)) →
    (live_bit (λ r. r.b) (bits_in x b rex) ≡ b) × (live_bit (λ r. r.x) (bits_in x b rex) ≡ x)
bits_with x b rex h = (grind arith, grind arith)
