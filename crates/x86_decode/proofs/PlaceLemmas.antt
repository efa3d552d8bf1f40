-- The walk with its places is the walk, and the places of a whole encoding are lengths of its pieces.
use Rattle.std.proofs.Common.{◌≡◌, ℕ, ◌+◌, ◌%◌, ◌≤◌, Bool, List, [], ◌∷◌, ◌++◌, length, drop, Option, Some, None, Result, Ok, Err, refl}
use Rattle.std.proofs.Common.{sym, ap, ◌∙◌, arith, length-append, append_assoc}
use Rattle.std.proofs.Math.Seq.{drop-append_seam}
use Rattle.x86_arch.specs.Reader.{State, advanced}
use Rattle.x86_fields.specs.declared.errors.DecodeError.{DecodeError}
use Rattle.x86_fields.specs.declared.prefixes.Prefixes.{Prefixes}
use Rattle.x86_fields.specs.Run.{reading_of}
use Rattle.x86_fields.specs.Steps.{Outcome, outcome, then_from, pure, ◌>>=◌}
use Rattle.x86_fields.proofs.StepLemmas.{Takes, advanced_twice, fresh}
use Rattle.x86_forms.specs.declared.TableRow.{TableRow}
use Rattle.x86_operands.specs.declared.places.Places.{Places}
use Rattle.x86_operands.specs.declared.reader.Reading.{Reading}
use Rattle.x86_operands.specs.Asks.{modrm_of, uses_suffix}
use Rattle.x86_operands.specs.Places.{Placed, no_places, place_of}
use Rattle.x86_operands.proofs.PlaceLemmas.{unplaced, unplaced_from, unplaced_record, suffix_is_there}
use Rattle.x86_operands.proofs.PlaceLemmas as row
use Rattle.x86_groups.specs.Groups.{record_of}
use Rattle.x86_decode.specs.Head.{Rows, column_of, escape_bytes, seen_by}
use Rattle.x86_decode.specs.Walk.{head_step, opcode_step, some_row, row_placed, row_step, walk_placed, walk_within}
use Rattle.x86_decode.specs.Grammar.{Whole, places_of}
use Rattle.x86_decode.proofs.HeadLemmas.{entry_byte, entry_is, entry_plain, entry_rest, takes_head, takes_opcode}
use Rattle.x86_decode.proofs.BodyLemmas.{body_moves}

-- ---- without the places

after_is : (r : Result Placed DecodeError) (t : State ℕ) → (unplaced (outcome r t)).after ≡ t
after_is (Ok x) t = refl
after_is (Err e) t = refl

abbrev with_places : Places → Outcome Reading → Outcome Placed
with_places places o = then_from o.answer o.after (λ reading. pure (reading, places))

-- a reading has some places
pub some_places : (r : Result Placed DecodeError) (u t : State ℕ) (reading : Reading) → unplaced (outcome r u) ≡ outcome (Ok reading) t →
    (places : Places) × (outcome r u ≡ outcome (Ok (reading, places)) t)
some_places (Ok (read, places)) u t reading e = (places, ap (with_places places) e)
some_places (Err f) u t reading e = absurd (cc (ap (λ o. o.answer) e))

pub no_places_at : (r : Result Placed DecodeError) (u t : State ℕ) (e : DecodeError) → unplaced (outcome r u) ≡ outcome (Err e) t →
    outcome r u ≡ outcome (Err e) t
no_places_at (Ok x) u t e h = absurd (cc (ap (λ o. o.answer) h))
no_places_at (Err f) u t e h = ap (with_places no_places) h

places_agree : {a b : Placed} → ◌≡◌ {A = Result Placed DecodeError} (Ok a) (Ok b) → a.1 ≡ b.1
places_agree {a} {b} h = let same : a ≡ b = cc h in ap (λ x. x.1) same

module _ (rows : Rows) (strict : Bool) where
  unplaced_row : (o : Option TableRow) (p : Prefixes) (s : State ℕ) →
      unplaced ((some_row o >>= λ row. row_placed strict row p) s) ≡ (some_row o >>= λ row. row_step strict row p) s
  unplaced_row None p s = refl
  unplaced_row (Some row) p s = unplaced_record (place_of s.since_mark) (record_of strict row p) p s

  pub unplaced_walk : (s : State ℕ) → unplaced (walk_placed rows strict s) ≡ walk_within rows strict s
  unfolding walk_placed walk_within
  unplaced_walk s = unplaced_from (head_step s).answer (head_step s).after _ _
      (λ h t. unplaced_from (opcode_step h.0 h.1 t).answer (opcode_step h.0 h.1 t).after _ _
      (λ o u. unplaced_row (rows o.0 (column_of h.0) o.1) (seen_by o.0 o.1 h.0) u))

  -- ---- how far the walk moves

  pub record Moves (s : State ℕ) (o : Outcome Placed) : Type 0 where
    pub count : ℕ
    pub within : count ≤ length s.left
    pub after : o.after ≡ advanced count s

  pub walk_moves : (s : State ℕ) → Moves s (walk_placed rows strict s)
  walk_moves s =
      let moves = body_moves rows strict s in
      let o : Outcome Placed = walk_placed rows strict s in
      record { count = moves.count; within = moves.within; after = sym (after_is o.answer o.after) ∙ ap (λ x. x.after) (unplaced_walk s) ∙ moves.after }

  -- ---- the places, by the pieces

  module _ (q rest : List ℕ) (reading : Reading) (w : Whole rows strict q reading) (short : length q ≤ 15) where
    abbrev byte : ℕ
    byte = entry_byte w.map w.opcode

    abbrev others : List ℕ
    others = entry_rest w.map w.opcode

    abbrev p : Prefixes
    p = seen_by w.map w.opcode (reading_of w.run)

    -- how many bytes run, escape and opcode byte have
    before_tail : length (w.run ++ byte ∷ []) + length others ≡ length w.run + (length (escape_bytes w.map) + 1)
    before_tail = omega (arith, length-append {A = ℕ}, ap length (entry_is w.map w.opcode []))

    all : length w.run + (length (escape_bytes w.map) + 1) + length w.tail ≡ length q
    all = omega (arith, length-append {A = ℕ}, ap length w.spelled)

    all_tail : length w.row_spelled.modrm + length w.row_spelled.tail_spelled.pieces.address ≤ length w.tail
    all_tail = omega (arith, length-append {A = ℕ}, ap length w.row_spelled.spelled, ap length w.row_spelled.tail_spelled.pieces.spelled)

    small : (n k : ℕ) → n ≡ k → k ≤ 15 → place_of n ≡ k
    small n k e less = omega arith

    abbrev row_places : State ℕ → Places
    row_places s = record {
      opcode_end = place_of s.since_mark;
      address_end = place_of ((s.since_mark + length w.row_spelled.modrm) + length w.row_spelled.tail_spelled.pieces.address);
      has_suffix = uses_suffix ((record_of strict w.row p).instance (modrm_of (record_of strict w.row p).modrm w.row_spelled.modrm)).verdict;
    }

    same_places : (s : State ℕ) → s.since_mark ≡ length (w.run ++ byte ∷ []) + length others → row_places s ≡ places_of rows strict q reading w
    same_places s mark =
        let opcode : place_of s.since_mark ≡ length w.run + (length (escape_bytes w.map) + 1) = small _ _ (mark ∙ before_tail) (let a = all in omega arith) in
        let address : place_of ((s.since_mark + length w.row_spelled.modrm) + length w.row_spelled.tail_spelled.pieces.address) ≡ length
        w.run + (length (escape_bytes w.map) + 1) + (length w.row_spelled.modrm + length w.row_spelled.tail_spelled.pieces.address)
        = small _ _ (let a = mark ∙ before_tail in omega arith) (let a = all in let b = all_tail in omega arith) in
        rw (opcode, address, suffix_is_there _ _ w.row_spelled.tail_spelled.pieces.suffix_length) refl

    pub placed_whole : (s : State ℕ) → s.left ≡ q ++ rest → s.since_mark ≡ 0 →
        walk_placed rows strict s ≡ outcome (Ok (reading, places_of rows strict q reading w)) (advanced (length q) s)
    unfolding walk_placed
    placed_whole s h zero =
        let spelled : q ++ rest ≡ (w.run ++ byte ∷ []) ++ (others ++ (w.tail ++ rest)) =
        ap (λ l. l ++ rest) (w.spelled ∙ ap (λ l. w.run ++ l) (entry_is w.map w.opcode w.tail)) ∙ simp append_assoc in
        let first = advanced (length (w.run ++ byte ∷ [])) s in
        let second = advanced (length others) first in
        let after_first : first.left ≡ others ++ (w.tail ++ rest) = ap (drop (length (w.run ++ byte ∷ []))) (h ∙ spelled)
        ∙ drop-append_seam (w.run ++ byte ∷ []) (others ++ (w.tail ++ rest)) in
        let after_second : second.left ≡ w.tail ++ rest = ap (drop (length others)) after_first ∙ drop-append_seam others (w.tail ++ rest) in
        let mark : second.since_mark ≡ length (w.run ++ byte ∷ []) + length others = omega arith in
        let ends : advanced (length w.tail) second ≡ advanced (length q) s =
        ap (advanced (length w.tail)) (advanced_twice (length (w.run ++ byte ∷ [])) (length others) s)
        ∙ advanced_twice (length (w.run ++ byte ∷ []) + length others) (length w.tail) s
        ∙ ap (λ n. advanced n s) (ap (λ n. n + length w.tail) before_tail ∙ all) in
        rw (
          (takes_head w.run byte w.prefixes (entry_plain w.map w.opcode w.in_map)).takes (others ++ (w.tail ++ rest)) s (h ∙ spelled),
          (takes_opcode (reading_of w.run) w.map w.opcode w.in_map).takes (w.tail ++ rest) first after_first,
          w.has_row,
        )
        (row.row_placed (place_of second.since_mark) (record_of strict w.row p) p w.tail rest reading w.row_spelled second after_second
        ∙ ap (λ places. outcome (Ok (reading, places)) (advanced (length w.tail) second)) (same_places second mark)
        ∙ ap (outcome (Ok (reading, places_of rows strict q reading w))) ends)

  -- two whole encodings at the beginning of one input have the same places
  pub same_places_of : (q s rest more : List ℕ) (a b : Reading) (v : Whole rows strict q a) (w : Whole rows strict s b) → length q ≤ 15 →
      length s ≤ 15 → q ++ rest ≡ s ++ more → places_of rows strict q a v ≡ places_of rows strict s b w
  same_places_of q s rest more a b v w short other e =
      let one = placed_whole q rest a v short (fresh (q ++ rest)) refl refl in
      let two = placed_whole s more b w other (fresh (q ++ rest)) e refl in
      let same : ◌≡◌ {A = Result Placed DecodeError} (Ok (a, places_of rows strict q a v)) (Ok (b, places_of rows strict s b w)) =
      sym (ap (λ o. o.answer) one) ∙ ap (λ o. o.answer) two in
      places_agree same

  -- ---- what the walk takes

  -- a step that the body takes is one that the walk takes, with some places
  pub takes_placed : (q rest : List ℕ) (reading : Reading) (s : State ℕ) → Takes (walk_within rows strict) q (Ok reading) → s.left ≡ q
      ++ rest → (places : Places) × (walk_placed rows strict s ≡ outcome (Ok (reading, places)) (advanced (length q) s))
  takes_placed q rest reading s t h = some_places (walk_placed rows strict s).answer (walk_placed rows strict s).after
      (advanced (length q) s) reading (unplaced_walk s ∙ t.takes rest s h)

  pub walk_refuses : (s t : State ℕ) (e : DecodeError) → walk_within rows strict s ≡ outcome (Err e) t → walk_placed rows strict s ≡ outcome (Err e) t
  walk_refuses s t e h = no_places_at (walk_placed rows strict s).answer (walk_placed rows strict s).after t e (unplaced_walk s ∙ h)
