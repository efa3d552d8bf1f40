-- The pieces that the primitives take, SIB and displacement among them.
use Rattle.std.proofs.Common.{rules, ◌≡◌, ◌==◌, subst, pos, ℤ, ℕ, ◌+◌, Bool, true, false, cond, if◌then◌else◌, List, [], ◌∷◌, ◌++◌, length}
use Rattle.std.proofs.Common.{take, drop, Option, Some, None, Result, Ok, Err, refl, sym, ap, ◌∙◌, arith, length-append, append_assoc}
use Rattle.std.proofs.Common.{length-take}
use Rattle.std.proofs.lemmas.List.{append-nil, take-append-drop, nil_from_length}
use Rattle.std.specs.Option.{is_some}
use Rattle.std.specs.Int.{Width, w8, w32, byte_len, from_le_bytes, cast_signed}
use Rattle.x86_fields.specs.declared.errors.DecodeError.{DecodeError}
use Rattle.x86_fields.specs.declared.prefixes.Prefixes.{Prefixes}
use Rattle.x86_fields.specs.declared.raw.Raw.{Raw}
use Rattle.x86_fields.specs.Steps.{Step, then_from, pure, ◌>>=◌, next_byte, next_bytes, number_step}
use Rattle.x86_fields.specs.ModRM.{mod_field, rm_field}
use Rattle.x86_fields.specs.Raw.{read_raw, read_sib, read_displacement, displacement_width, names_no_base, has_b, has_x}
use Rattle.x86_fields.specs.Pieces.{option_bytes, first_byte, signed_by, SpellsRaw, total, EndsBetween, raw_widths}
use Rattle.x86_fields.proofs.StepLemmas.{Takes, takes_pure, takes_bind, takes_err, takes_bytes, takes_byte}
use Rattle.x86_fields.proofs.EndLemmas.{final_other, no_beginning, out_bind, halts_empty, bind_assoc, EndsWell, IsEmpty, Only, ends_pure}
use Rattle.x86_fields.proofs.EndLemmas.{ends_byte, IsByte, ends_bytes, AreBytes, ends_then, ends_map, Halts, out, over, halts_bind}
use Rattle.x86_fields.proofs.EndLemmas.{halts_same}

pub takes_map : {X Y : Type 0} (m : Step X) (g : X → Y) (q : List ℕ) (x : X) → Takes m q (Ok x) → Takes (m >>= λ z. pure (g z)) q (Ok (g x))
takes_map m g q x t = record { takes = λ rest s h. ap (λ o. then_from o.answer o.after (λ z. pure (g z))) (t.takes rest s h) }

-- ---- pieces by their widths

-- one more piece at the beginning
pub one_there : (w : ℕ) (ws p q : List ℕ) → length p ≡ w → EndsBetween ws q → EndsBetween (w ∷ ws) (p ++ q)
one_there w ws p q e b = record {
  there = w ∷ b.there;
  missing = b.missing;
  pieces = ap (λ l. w ∷ l) b.pieces;
  long = length-append p q ∙ ap (λ n. n + length q) e ∙ ap (λ n. w + n) b.long;
}

pub none_there : (ws q : List ℕ) → q ≡ [] → EndsBetween ws q
none_there ws q e = record { there = []; missing = ws; pieces = refl; long = ap length e }

pub more_missing : (ws vs q : List ℕ) → EndsBetween ws q → EndsBetween (ws ++ vs) q
more_missing ws vs q b = record {
  there = b.there;
  missing = b.missing ++ vs;
  pieces = ap (λ l. l ++ vs) b.pieces ∙ append_assoc b.there b.missing vs;
  long = b.long;
}

total_append : (a b : List ℕ) → total (a ++ b) ≡ total a + total b
total_append [] b = omega arith
total_append (x ∷ a) b = let e : total (a ++ b) ≡ total a + total b = total_append a b in omega arith

pub more_there : (ws vs p q : List ℕ) → length p ≡ total ws → EndsBetween vs q → EndsBetween (ws ++ vs) (p ++ q)
more_there ws vs p q e b = record {
  there = ws ++ b.there;
  missing = b.missing;
  pieces = ap (λ l. ws ++ l) b.pieces ∙ sym (append_assoc ws b.there b.missing);
  long = length-append p q ∙ ap (λ n. n + length q) e ∙ ap (λ n. total ws + n) b.long ∙ sym (total_append ws b.there);
}

-- Nothing is there, or the first piece and some of the others.
pub data FirstPiece (w : ℕ) (ws q : List ℕ) : Type 0 where
  nothing : q ≡ [] → FirstPiece w ws q
  piece : (p rest : List ℕ) → q ≡ p ++ rest → length p ≡ w → EndsBetween ws rest → FirstPiece w ws q

pub between_nil : (q : List ℕ) → EndsBetween [] q → q ≡ []
between_nil q b = nil_from_length q (b.long ∙ ap total (no_beginning b.there b.missing b.pieces))

pub first_piece : (w : ℕ) (ws q : List ℕ) → EndsBetween (w ∷ ws) q → FirstPiece w ws q
first_piece w ws q b = by b.there b.missing b.pieces b.long
  where
    by : (there missing : List ℕ) → w ∷ ws ≡ there ++ missing → length q ≡ total there → FirstPiece w ws q
    by [] missing e long = nothing (nil_from_length q long)
    by (v ∷ there) missing e long =
        let same : w ≡ v = cc in
        let enough : length (take w q) ≡ w = length-take w q ∙ omega arith in
        let split : take w q ++ drop w q ≡ q = take-append-drop w q in
        let sizes : length (take w q) + length (drop w q) ≡ length q = sym (length-append (take w q) (drop w q)) ∙ ap length split in
        piece (take w q) (drop w q) (sym split) enough (record { there = there; missing = missing; pieces = cc; long = omega arith })

-- ---- numbers

abbrev pub IsNumber : Width → List ℕ → ℕ → Type 0
IsNumber w q n = (n ≡ from_le_bytes w q) × (length q ≡ byte_len w)

pub ends_number : (w : Width) → EndsWell (Only (IsNumber w)) IsEmpty (number_step w)
unfolding number_step
ends_number w = ends_map (AreBytes (byte_len w)) IsEmpty (IsNumber w) (next_bytes (byte_len w)) (from_le_bytes w) (ends_bytes (byte_len w))
    (λ q bytes h. (ap (from_le_bytes w) h.0, h.1))

pub takes_number : (w : Width) (q : List ℕ) → length q ≡ byte_len w → Takes (number_step w) q (Ok (from_le_bytes w q))
unfolding number_step
takes_number w q long = takes_map (next_bytes (byte_len w)) (from_le_bytes w) q q (subst (λ n. Takes (next_bytes n) q (Ok q)) long (takes_bytes q))

-- ---- SIB

abbrev pub IsSib : ℕ → List ℕ → Option ℕ → Type 0
IsSib modrm q sib = (q ≡ option_bytes sib) × (is_some sib ≡ (rm_field modrm == 4))

sib_by : (test : Bool) → EndsWell (Only (λ q sib. (q ≡ option_bytes sib) × (is_some sib ≡ test))) IsEmpty
    (if test then (next_byte >>= λ b. pure (Some b)) else pure None)
sib_by true = ends_map IsByte IsEmpty (λ q sib. (q ≡ option_bytes sib) × (is_some sib ≡ true)) next_byte Some ends_byte (λ q b h. (h, refl))
sib_by false = ends_pure (Only (λ q sib. (q ≡ option_bytes sib) × (is_some sib ≡ false))) IsEmpty None (refl, refl)

ends_sib : (modrm : ℕ) → EndsWell (Only (IsSib modrm)) IsEmpty (read_sib modrm)
ends_sib modrm = sib_by (rm_field modrm == 4)

takes_sib_by : (test : Bool) (sib : Option ℕ) → is_some sib ≡ test →
    Takes (if test then (next_byte >>= λ b. pure (Some b)) else pure None) (option_bytes sib) (Ok sib)
takes_sib_by true (Some b) e = takes_map next_byte Some (b ∷ []) b (takes_byte b)
takes_sib_by false None e = takes_pure (Ok None)
takes_sib_by _ _ e = absurd cc

takes_sib : (modrm : ℕ) (sib : Option ℕ) → is_some sib ≡ (rm_field modrm == 4) → Takes (read_sib modrm) (option_bytes sib) (Ok sib)
takes_sib modrm sib e = takes_sib_by (rm_field modrm == 4) sib e

-- ---- the displacement

abbrev pub width_read : ℕ → ℕ
width_read width = if width == 1 then 1 else (if width == 4 then 4 else 0)

abbrev pub IsDisp : ℕ → List ℕ → ℤ → Type 0
IsDisp width q d = (length q ≡ width_read width) × (d ≡ signed_by width q)

disp_by : (one four : Bool) → EndsWell (Only (λ q d. (length q ≡ (if one then 1 else (if four then 4 else 0)))
    × (d ≡ (if one then cast_signed w8 (from_le_bytes w8 q) else (if four then cast_signed w32 (from_le_bytes w32 q) else pos 0))))) IsEmpty
    (if one then (number_step w8 >>= λ n. pure (cast_signed w8 n)) else (if four then (number_step w32 >>= λ n. pure (cast_signed w32 n)) else pure (pos 0)))
disp_by true four = ends_map (IsNumber w8) IsEmpty (λ q d. (length q ≡ 1) × (d ≡ cast_signed w8 (from_le_bytes w8 q))) (number_step w8)
    (cast_signed w8) (ends_number w8) (λ q n h. (h.1, ap (cast_signed w8) h.0))
disp_by false true = ends_map (IsNumber w32) IsEmpty (λ q d. (length q ≡ 4) × (d ≡ cast_signed w32 (from_le_bytes w32 q))) (number_step w32)
    (cast_signed w32) (ends_number w32) (λ q n h. (h.1, ap (cast_signed w32) h.0))
disp_by false false = ends_pure (Only (λ q d. (length q ≡ 0) × (d ≡ pos 0))) IsEmpty (pos 0) (refl, refl)

ends_disp : (width : ℕ) → EndsWell (Only (IsDisp width)) IsEmpty (read_displacement width)
ends_disp width = disp_by (width == 1) (width == 4)

takes_disp_by : (one four : Bool) (q : List ℕ) → length q ≡ (if one then 1 else (if four then 4 else 0)) →
    Takes (if one then (number_step w8 >>= λ n. pure (cast_signed w8 n))
    else (if four then (number_step w32 >>= λ n. pure (cast_signed w32 n)) else pure (pos 0))) q
    (Ok (if one then cast_signed w8 (from_le_bytes w8 q) else (if four then cast_signed w32 (from_le_bytes w32 q) else pos 0)))
takes_disp_by true four q e = takes_map (number_step w8) (cast_signed w8) q (from_le_bytes w8 q) (takes_number w8 q e)
takes_disp_by false true q e = takes_map (number_step w32) (cast_signed w32) q (from_le_bytes w32 q) (takes_number w32 q e)
takes_disp_by false false q e = subst (λ l. Takes (pure (pos 0)) l (Ok (pos 0))) (sym (nil_from_length q e)) (takes_pure (Ok (pos 0)))

takes_disp : (width : ℕ) (q : List ℕ) → length q ≡ width_read width → Takes (read_displacement width) q (Ok (signed_by width q))
takes_disp width q e = takes_disp_by (width == 1) (width == 4) q e

width_of_tests : (one two base : Bool) → (let w : ℕ = cond one 1 (cond two 4 (cond base 4 0)) in cond {A = ℕ} (w == 1) 1 (cond {A = ℕ} (w == 4) 4 0) ≡ w)
width_of_tests one two base = search rules

width_only : (modrm : ℕ) (sib : Option ℕ) → width_read (displacement_width modrm sib) ≡ displacement_width modrm sib
width_only modrm sib = width_of_tests (mod_field modrm == 1) (mod_field modrm == 2) (names_no_base modrm sib)

-- ---- both

abbrev pub raw_made : Prefixes → ℕ → Option ℕ → ℤ → Raw
raw_made p modrm sib disp = record { rex_b = has_b p; rex_x = has_x p; address_size = p.address_size; modrm = modrm; sib = sib; disp = disp }

abbrev pub after_sib : Prefixes → ℕ → Option ℕ → Step Raw
after_sib p modrm sib = read_displacement (displacement_width modrm sib) >>= λ disp. pure (raw_made p modrm sib disp)

-- the widths after ModRM, where SIB is there if ModRM requires it
pub widths_at : (modrm : ℕ) (sib : Option ℕ) (rest : List ℕ) → is_some sib ≡ (rm_field modrm == 4) →
    raw_widths modrm (option_bytes sib ++ rest) ≡ (if rm_field modrm == 4 then 1 ∷ displacement_width modrm sib ∷ [] else displacement_width modrm sib ∷ [])
widths_at modrm sib rest e = by (rm_field modrm == 4) sib e
  where
    by : (test : Bool) (sib : Option ℕ) → is_some sib ≡ test →
        (if test then 1 ∷ displacement_width modrm (first_byte (option_bytes sib ++ rest)) ∷ [] else displacement_width modrm None ∷ []) ≡
        (if test then 1 ∷ displacement_width modrm sib ∷ [] else displacement_width modrm sib ∷ [])
    by true (Some b) e = refl
    by false None e = refl
    by _ _ e = cc

between_sib : (modrm : ℕ) (sib : Option ℕ) (rest : List ℕ) → is_some sib ≡ (rm_field modrm == 4) →
    EndsBetween (displacement_width modrm sib ∷ []) rest → EndsBetween (raw_widths modrm (option_bytes sib ++ rest)) (option_bytes sib ++ rest)
between_sib modrm sib rest e b = subst (λ l. EndsBetween l (option_bytes sib ++ rest)) (sym (widths_at modrm sib rest e)) (by (rm_field modrm == 4) sib e b)
  where
    by : (test : Bool) (sib : Option ℕ) → is_some sib ≡ test → EndsBetween (displacement_width modrm sib ∷ []) rest →
        EndsBetween (if test then 1 ∷ displacement_width modrm sib ∷ [] else displacement_width modrm sib ∷ []) (option_bytes sib ++ rest)
    by true (Some b) e k = one_there 1 (displacement_width modrm (Some b) ∷ []) (b ∷ []) rest refl k
    by false None e k = k
    by _ _ e k = absurd cc

pub ends_raw : (p : Prefixes) (modrm : ℕ) → EndsWell (Only (SpellsRaw p modrm)) (λ q. EndsBetween (raw_widths modrm q) q) (read_raw p modrm)
unfolding read_raw
ends_raw p modrm = ends_then (IsSib modrm) IsEmpty (Only (SpellsRaw p modrm)) (λ q. EndsBetween (raw_widths modrm q) q) (read_sib modrm)
    (after_sib p modrm) (ends_sib modrm)
    (λ q e. none_there (raw_widths modrm q) q e)
    (λ q sib h. ends_then (IsDisp (displacement_width modrm sib)) IsEmpty (λ d r. Only (SpellsRaw p modrm) (q ++ d) r)
    (λ d. EndsBetween (raw_widths modrm (q ++ d)) (q ++ d)) (read_displacement (displacement_width modrm sib))
    (λ disp. pure (raw_made p modrm sib disp)) (ends_disp (displacement_width modrm sib))
    (λ d e. subst (λ l. EndsBetween (raw_widths modrm (l ++ d)) (l ++ d)) (sym h.0)
    (between_sib modrm sib d h.1 (none_there (displacement_width modrm sib ∷ []) d e)))
    (λ d disp k. ends_pure (λ x r. Only (SpellsRaw p modrm) (q ++ (d ++ x)) r)
    (λ x. EndsBetween (raw_widths modrm (q ++ (d ++ x))) (q ++ (d ++ x))) (raw_made p modrm sib disp)
    (record {
      sib = sib;
      disp = d ++ [];
      spelled = ap (λ l. l ++ (d ++ [])) h.0;
      sib_present = h.1;
      disp_length = ap length (append-nil d) ∙ k.0 ∙ width_only modrm sib;
      fields = ap (raw_made p modrm sib) (k.1 ∙ ap (signed_by (displacement_width modrm sib)) (sym (append-nil d)));
    })))

takes_after_sib : (p : Prefixes) (modrm : ℕ) (sib : Option ℕ) (q : List ℕ) → length q ≡ displacement_width modrm sib
    → Takes (after_sib p modrm sib) q (Ok (raw_made p modrm sib (signed_by (displacement_width modrm sib) q)))
takes_after_sib p modrm sib q long =
    let w : ℕ = displacement_width modrm sib in
    takes_map (read_displacement w) (raw_made p modrm sib) q (signed_by w q) (takes_disp w q (long ∙ sym (width_only modrm sib)))

pub takes_raw : (p : Prefixes) (modrm : ℕ) (q : List ℕ) (raw : Raw) → SpellsRaw p modrm q raw → Takes (read_raw p modrm) q (Ok raw)
unfolding read_raw
takes_raw p modrm q raw r =
    let made : Raw = raw_made p modrm r.sib (signed_by (displacement_width modrm r.sib) r.disp) in
    let t : Takes (read_sib modrm >>= after_sib p modrm) (option_bytes r.sib ++ r.disp) (Ok made) =
    takes_bind (read_sib modrm) (after_sib p modrm) (option_bytes r.sib) r.disp r.sib _ (takes_sib modrm r.sib r.sib_present)
    (takes_after_sib p modrm r.sib r.disp r.disp_length) in
    let P : Raw → List ℕ → Type 0 = λ x l. Takes (read_sib modrm >>= after_sib p modrm) l (Ok x) in
    subst (λ x. P x q) (sym r.fields) (subst (P made) (sym r.spelled) t)

-- ---- bytes that end between pieces

halts_then_at : {X Y : Type 0} (m : Step X) (f : X → Step Y) → Halts m [] → ((x : X) → Halts (f x) []) → Halts (m >>= f) []
halts_then_at m f (over q rest (Ok x) h t d) each =
    let P : List ℕ → Type 0 = λ l. Takes m l (Ok x) in
    halts_bind m f [] [] x (subst P (no_beginning q rest h) t) (each x)
halts_then_at m f (over q rest (Err e) h t d) each = over q rest (Err e) h (takes_err m f q e t) (final_other e d)
halts_then_at m f (out u) each = out (out_bind m f [] u)

pub halts_then : {X Y : Type 0} {A : List ℕ → Result X DecodeError → Type 0} {B : List ℕ → Type 0} (m : Step X) (f : X → Step Y) →
    EndsWell A B m → ((x : X) → Halts (f x) []) → Halts (m >>= f) []
halts_then m f e each = halts_then_at m f (halts_empty m e) each

pub byte_there : (ws : List ℕ) (b : ℕ) (rest : List ℕ) → EndsBetween (1 ∷ ws) (b ∷ rest) → EndsBetween ws rest
byte_there ws b rest k = by k.there k.missing k.pieces k.long
  where
    by : (there missing : List ℕ) → 1 ∷ ws ≡ there ++ missing → length (b ∷ rest) ≡ total there → EndsBetween ws rest
    by [] missing e long = absurd (omega arith)
    by (v ∷ there) missing e long =
        let same : 1 ≡ v = cc in
        record { there = there; missing = missing; pieces = cc; long = omega arith }

abbrev pub HaltsOn : {X Y : Type 0} → (X → Step Y) → List ℕ → Type 0
HaltsOn f ws = (x : _) (rest : List ℕ) → EndsBetween ws rest → Halts (f x) rest

-- a piece of a fixed width
pub halts_piece : {X Y : Type 0} {A : List ℕ → Result X DecodeError → Type 0} {B : List ℕ → Type 0} (m : Step X) (f : X → Step Y) (w : ℕ)
    (ws q : List ℕ) (value : List ℕ → X) → EndsWell A B m → ((p : List ℕ) → length p ≡ w → Takes m p (Ok (value p))) → HaltsOn f ws →
    EndsBetween (w ∷ ws) q → Halts (m >>= f) q
halts_piece m f w ws q value e takes each b = by (first_piece w ws q b)
  where
    by : FirstPiece w ws q → Halts (m >>= f) q
    by (nothing none) = subst (Halts (m >>= f)) (sym none) (halts_then m f e (λ x. each x [] (none_there ws [] refl)))
    by (piece p rest h long k) = subst (Halts (m >>= f)) (sym h) (halts_bind m f p rest (value p) (takes p long) (each (value p) rest k))

halts_disp : {Y : Type 0} (p : Prefixes) (modrm : ℕ) (sib : Option ℕ) (f : Raw → Step Y) (ws q : List ℕ) → HaltsOn f ws →
    EndsBetween (displacement_width modrm sib ∷ ws) q → Halts (after_sib p modrm sib >>= f) q
halts_disp p modrm sib f ws q each b =
    let w : ℕ = displacement_width modrm sib in
    halts_piece (after_sib p modrm sib) f w ws q (λ l. raw_made p modrm sib (signed_by w l))
    (ends_map (IsDisp w) IsEmpty (λ l r. Unit {0}) (read_displacement w) (raw_made p modrm sib) (ends_disp w) (λ l d h. tt))
    (takes_after_sib p modrm sib) each b

pub halts_raw : {Y : Type 0} (p : Prefixes) (modrm : ℕ) (f : Raw → Step Y) (ws q : List ℕ) → HaltsOn f ws →
    EndsBetween (raw_widths modrm q ++ ws) q → Halts (read_raw p modrm >>= f) q
unfolding read_raw
halts_raw {Y} p modrm f ws q each b =
    let go : Option ℕ → Step Y = λ sib. after_sib p modrm sib >>= f in
    halts_same (read_sib modrm >>= go) ((read_sib modrm >>= after_sib p modrm) >>= f) q (λ s. bind_assoc (read_sib modrm) (after_sib p modrm) f s)
    (by_test (rm_field modrm == 4) refl q b)
  where
    none_go : (sib : Option ℕ) → Halts (after_sib p modrm sib >>= f) []
    none_go sib = halts_disp p modrm sib f ws [] each (none_there (displacement_width modrm sib ∷ ws) [] refl)

    by_test : (test : Bool) → (rm_field modrm == 4) ≡ test → (q : List ℕ) →
        EndsBetween ((if test then 1 ∷ displacement_width modrm (first_byte q) ∷ [] else displacement_width modrm None ∷ []) ++ ws) q →
        Halts (read_sib modrm >>= (λ sib. after_sib p modrm sib >>= f)) q
    by_test true e [] k = halts_then (read_sib modrm) (λ sib. after_sib p modrm sib >>= f) (ends_sib modrm) none_go
    by_test true e (x ∷ rest) k = halts_bind (read_sib modrm) (λ sib. after_sib p modrm sib >>= f) (x ∷ []) rest (Some x)
        (takes_sib modrm (Some x) (sym e)) (halts_disp p modrm (Some x) f ws rest each (byte_there (displacement_width modrm (Some x) ∷ ws) x rest k))
    by_test false e l k = halts_bind (read_sib modrm) (λ sib. after_sib p modrm sib >>= f) [] l None (takes_sib modrm None (sym e))
        (halts_disp p modrm None f ws l each k)

-- what SIB and displacement measure
pub raw_long : (p : Prefixes) (modrm : ℕ) (q rest : List ℕ) (raw : Raw) → SpellsRaw p modrm q raw → length q ≡ total (raw_widths modrm (q ++ rest))
raw_long p modrm q rest raw r =
    let split : q ++ rest ≡ option_bytes r.sib ++ (r.disp ++ rest) = ap (λ l. l ++ rest) r.spelled ∙ append_assoc (option_bytes r.sib) r.disp rest in
    ap length r.spelled ∙ length-append (option_bytes r.sib) r.disp ∙ ap (λ n. length (option_bytes r.sib) + n) r.disp_length
    ∙ by (rm_field modrm == 4) r.sib r.sib_present
    ∙ ap total (sym (widths_at modrm r.sib (r.disp ++ rest) r.sib_present)) ∙ ap (λ l. total (raw_widths modrm l)) (sym split)
  where
    by : (test : Bool) (sib : Option ℕ) → is_some sib ≡ test →
        length (option_bytes sib) + displacement_width modrm sib ≡ total
        (if test then 1 ∷ displacement_width modrm sib ∷ [] else displacement_width modrm sib ∷ [])
    by true (Some b) e = omega arith
    by false None e = omega arith
    by _ _ e = absurd cc
