-- What the reading of raw fields takes.
use Rattle.std.proofs.Common.{◌≡◌, ℕ, ◌==◌, Bool, true, false, if◌then◌else◌, nat_lt, List, [], ◌∷◌, length, take, Some, None, Result, Ok}
use Rattle.std.proofs.Common.{Err, pos, refl, sym, ap, ◌∙◌, subst}
use Rattle.std.proofs.lemmas.List.{append-nil}
use Rattle.std.specs.Int.{Width, w8, w32, byte_len, from_le_bytes, cast_signed}
use Rattle.x86_arch.specs.Reader.{State, advanced}
use Rattle.x86_fields.specs.declared.errors.DecodeError.{DecodeError}
use Rattle.x86_fields.specs.declared.errors.DecodeError.TheVariants.{ExhaustedInput}
use Rattle.x86_fields.specs.declared.prefixes.Prefixes.{Prefixes}
use Rattle.x86_fields.specs.declared.raw.Raw.{Raw}
use Rattle.x86_fields.specs.Steps.{Step, Outcome, outcome, then_from, pure, ◌>>=◌, next_byte, byte_of, next_bytes, number_step}
use Rattle.x86_fields.specs.ModRM.{rm_field}
use Rattle.x86_fields.specs.Raw.{read_raw, read_displacement, displacement_width}
use Rattle.x86_fields.specs.Pieces.{SpellsRaw, IsReadRaw, sib_taken}
use Rattle.x86_fields.proofs.StepLemmas.{advanced_zero}
use Rattle.x86_fields.proofs.EndLemmas.{Ends, settles, runs_out, Only}
use Rattle.x86_fields.proofs.PieceLemmas.{raw_made, after_sib, ends_raw}

-- A refusal is for want of bytes, and leaves this state.
abbrev ShortAt : {X : Type 0} → Outcome X → State ℕ → Type 0
ShortAt o s = (e : DecodeError) → o.answer ≡ Err e → (e ≡ ExhaustedInput) × (o.after ≡ s)

out : {X : Type 0} (s : State ℕ) → ShortAt {X = X} (outcome (Err ExhaustedInput) s) s
out s e h = (cc, refl)

never : {X : Type 0} (x : X) (s t : State ℕ) → ShortAt (outcome (Ok x) t) s
never x s t e h = absurd cc

bytes_short : (n : ℕ) (s : State ℕ) → ShortAt (next_bytes n s) s
unfolding next_bytes
bytes_short n s = by_test (nat_lt (length s.left) n)
  where
    by_test : (b : Bool) → ShortAt (if b then outcome (Err ExhaustedInput) s else outcome (Ok (take n s.left)) (advanced n s)) s
    by_test true = out s
    by_test false = never (take n s.left) s (advanced n s)

map_short : {X Y : Type 0} (m : Step X) (g : X → Y) (s : State ℕ) → ShortAt (m s) s → ShortAt ((m >>= λ x. pure (g x)) s) s
map_short {X} {Y} m g s short = from (m s).answer (m s).after short
  where
    from : (r : Result X DecodeError) (t : State ℕ) → ((e : DecodeError) → r ≡ Err e → (e ≡ ExhaustedInput) × (t ≡ s)) →
        ShortAt (then_from r t (λ x. pure (g x))) s
    from (Ok x) t h = never (g x) s t
    from (Err d) t h = λ e k. h e cc

number_short : (w : Width) (s : State ℕ) → ShortAt (number_step w s) s
unfolding number_step
number_short w s = map_short (next_bytes (byte_len w)) (from_le_bytes w) s (bytes_short (byte_len w) s)

disp_short : (width : ℕ) (s : State ℕ) → ShortAt (read_displacement width s) s
disp_short width s = by_width (width == 1) (width == 4)
  where
    by_width : (a b : Bool) → ShortAt ((if a then (number_step w8 >>= λ n. pure (cast_signed w8 n))
        else (if b then (number_step w32 >>= λ n. pure (cast_signed w32 n)) else pure (pos 0))) s) s
    by_width true b = map_short (number_step w8) (cast_signed w8) s (number_short w8 s)
    by_width false true = map_short (number_step w32) (cast_signed w32) s (number_short w32 s)
    by_width false false = never (pos 0) s s

pub raw_short : (p : Prefixes) (modrm : ℕ) (s : State ℕ) → ShortAt (read_raw p modrm s) (advanced (sib_taken modrm s.left) s)
unfolding read_raw next_byte
raw_short p modrm s = go (rm_field modrm == 4)
  where
    with_sib : (l : List ℕ) → ShortAt ((((λ t. byte_of l t) >>= λ sib. pure (Some sib)) >>= after_sib p modrm) s) (advanced (length (take 1 l)) s)
    with_sib [] = λ e h. let short = out {X = Raw} s e h in (short.0, short.1 ∙ sym (advanced_zero s))
    with_sib (x ∷ l) = map_short (read_displacement (displacement_width modrm (Some x))) (raw_made p modrm (Some x)) (advanced 1 s)
        (disp_short (displacement_width modrm (Some x)) (advanced 1 s))

    go : (b : Bool) → ShortAt (((if b then (next_byte >>= λ sib. pure (Some sib)) else pure None) >>= after_sib p modrm) s)
        (advanced (if b then length (take 1 s.left) else 0) s)
    go false = λ e h. let short = map_short (read_displacement (displacement_width modrm None)) (raw_made p modrm None) s
        (disp_short (displacement_width modrm None) s) e h in (short.0, short.1 ∙ sym (advanced_zero s))
    go true = with_sib s.left

raw_read : {B : List ℕ → Type 0} (p : Prefixes) (modrm : ℕ) (s : State ℕ) (raw : Raw) → (read_raw p modrm s).answer ≡ Ok raw →
    Ends (Only (SpellsRaw p modrm)) B (read_raw p modrm) s → IsReadRaw p modrm raw s (read_raw p modrm s).after
raw_read p modrm s raw h (settles bytes rest r beginning takes final only) =
    let took : read_raw p modrm s ≡ outcome r (advanced (length bytes) s) = takes.takes rest s beginning in
    let answer : r ≡ Ok raw = sym (ap (λ o. o.answer) took) ∙ h in
    record {
      bytes = bytes;
      rest = rest;
      beginning = beginning;
      spelled = subst (λ q. Only (SpellsRaw p modrm) bytes q) answer only;
      taken = ap (λ o. o.after) took;
    }
raw_read p modrm s raw h (runs_out bytes rest beginning between ends) =
    let took : read_raw p modrm s ≡ outcome (Err ExhaustedInput) (advanced (length bytes) s) = ends rest [] (sym (append-nil rest)) s beginning in
    let apart : ◌≡◌ {A = Result Raw DecodeError} (Err ExhaustedInput) (Ok raw) = sym (ap (λ o. o.answer) took) ∙ h in absurd cc

pub raw_whole : (p : Prefixes) (modrm : ℕ) (s : State ℕ) (raw : Raw) → (read_raw p modrm s).answer ≡ Ok raw → IsReadRaw p modrm raw s (read_raw p modrm s).after
raw_whole p modrm s raw h = raw_read p modrm s raw h (ends_raw p modrm s)
