use Rattle.std.proofs.Common.{◌≡◌, ℕ, ◌+◌, List, ◌++◌, length, take, drop, arith, None, ap, ◌∙◌, append_assoc, length-append, ◌≤◌}
use Rattle.std.proofs.Common.{length-drop, length-take, length-take-le, take-append-drop, take-take}
use Rattle.x86_streams.specs.Text.Reader.{TextPosition}
use Rattle.x86_streams.specs.Text.Reading.{with_bytes}
use Rattle.x86_streams.specs.Text.Spells.{Brings}
use Rattle.x86_streams.specs.Text.Window.{TakesBytes}
use Rattle.x86_streams.proofs.TextLemmas.Text.{with_bytes-with_bytes}
use Rattle.x86_streams.proofs.text.window.Window.take_many.Goals as goal

-- A text has advanced by these bytes, of which the window took the values.
module _ (w : List ℕ) (t t' : TextPosition) (n : ℕ) (position : t'.position ≡ t.position + n) (room : t'.room + n ≡ t.room)
    (unread : t'.unread ≡ drop n t.unread) where
  takes_bytes : (w' : List ℕ) → Brings (take t.room t.unread) n w w' → TakesBytes None w t w' t'
  takes_bytes w' brings =
      let spells = brings.spells in
      let few : n ≤ length t.unread = omega (arith, spells.inside, length-take t.room t.unread) in
      record {
        rest = λ xs stop.
            let begins = spells.begins t.position t'.room (drop n t.unread ++ xs) stop in
            rw brings.items (ap (with_bytes w) (grind (
              arith,
              begins,
              take-take n t.room t.unread,
              length-take-le n t.unread,
              take-append-drop n t.unread,
              append_assoc (take n t.unread) (drop n t.unread) xs,
            )) ∙ with_bytes-with_bytes w brings.values _);
        fits = rw brings.items (simp length-append (omega (arith, spells.pairs), omega (arith, spells.pairs)));
        turns = rw brings.items (simp length-append (omega (arith, spells.pairs, ap length unread, length-drop n t.unread)));
      }

pub returns-in-None-clause-takes : goal.returns-in-None-clause-takes
returns-in-None-clause-takes c =
    let moved = c.advance_by.ensures in
    rw c.in-None.is (takes_bytes _ _ _ c.read-taken.result moved.position moved.room moved.unread _ (rw c.within.ensures at c.read-taken.ensures))
