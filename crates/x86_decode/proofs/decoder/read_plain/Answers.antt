use Rattle.std.proofs.Common.{◌≡◌, Bool, [], Some, Option, sym, ap, ◌∙◌}
use Rattle.std.proofs.lemmas.Bool.{eq-eqb}
use Rattle.x86_fields.specs.Prefixes.{with_rex}
use Rattle.x86_fields.specs.Run.{reading_of, rex_named}
use Rattle.x86_forms.specs.declared.Column.TheVariants.{Plain}
use Rattle.x86_forms.specs.declared.Map.TheVariants.{One, Of}
use Rattle.x86_forms.specs.declared.TableRow.{TableRow}
use Rattle.x86_forms.specs.Rows.{printed_row}
use Rattle.x86_forms.specs.Words.{packed, rows_of}
use Rattle.x86_forms.proofs.WordLemmas.{row_of_printed_word}
use Rattle.x86_groups.specs.Bytes.{says}
use Rattle.x86_decode.specs.Head.{column_of}
use Rattle.x86_decode.specs.Walk.{head_step, row_placed, walk_placed}
use Rattle.x86_decode.proofs.HeadWalk.{Headed, byte_is, headed_first}
use Rattle.x86_decode.proofs.PlainWalk.{all_ok, row_is_there, then_ok}
use Rattle.x86_decode.proofs.WordWalk.{after_escape, without_escape}
use Rattle.x86_decode.proofs.decoder.read_plain.Goals.{then-escaped+in_ok-next, else-escaped}
use Rattle.x86_decode.proofs.decoder.read_plain.Goals as goal

pub returns-clause-read : goal.returns-clause-read
returns-clause-read g c =
    let start = g.T.Reader.state c.args.reader.now in
    let second = g.T.Reader.state c.next.new.self in
    let now = g.T.Reader.state c.next_if.new.self in
    let first = c.in_ok-first.first in
    let b = c.in_ok-byte.byte in
    let p = c.set_rex-is_rex.new.self in
    let set : p ≡ with_rex (reading_of []) (rex_named (Some first)) = c.set_rex-is_rex.ensures.live
    ∙ ap (λ i. with_rex i.prefixes (rex_named (Some first))) c.requires in
    let head : Headed b p now (head_step start) =
    headed_first start second now first b c.set_rex-is_rex.result p (sym c.set_rex-is_rex.ensures.is_rex) set
    (byte_is start second first c.in_ok-first.ensures.taken c.in_ok-first.ensures.moved)
    (λ w. byte_is second now b (c.in_ok-byte.ensures.taken w) (c.in_ok-byte.ensures.moved w))
    (λ w. let same : b ≡ first = cc (c.in_ok-byte.ensures.other w) in (same, c.in_ok-byte.ensures.unmoved w)) in
    let plain : column_of p ≡ Plain = ap column_of set in
    let after = g.T.Reader.state c.if-escaped.reader in
    let read = c.read_byte_row.ensures in
    -- what was read of a printed row, where the walk takes such a row here
    let walked : (o : Option TableRow) → says c.if-escaped.row.now o →
    ((row : TableRow) → o ≡ Some row → (strict : Bool) → row_placed strict row p after ≡ walk_placed (rows_of packed) strict start) → _ =
    λ o is from. row_is_there c.read_byte_row.result c.if-escaped.row.now o _ is read.has_row (λ row e says.
    all_ok c.read_byte_row.result _ (λ strict. then_ok c.read_byte_row.result _ _ (read.read strict row says) (λ same. same ∙ from row e strict))) in
    elim c.if-escaped.branch [
      | then-escaped+in_ok-next w ↦
          let next = g.T.Reader.state w.next-then-escaped.new.self in
          let o = w.in_ok-next.field-0 in
          walked (printed_row Of Plain o) (rw w.row-is w.escaped_row-row.ensures) (λ row e strict.
          ap (row_placed strict row p) (ap g.T.Reader.state w.reader-is)
          ∙ after_escape strict start now b p head plain row o next (eq-eqb b 0x0f w.if-escaped.true)
          (byte_is now next o w.in_ok-next.ensures.taken w.in_ok-next.ensures.moved) (row_of_printed_word Of Plain o ∙ e))
      | else-escaped w ↦
          walked (printed_row One Plain b) (rw w.row-is w.byte_row-row.ensures) (λ row e strict.
          ap (row_placed strict row p) (ap g.T.Reader.state w.reader-is)
          ∙ without_escape strict start now b p head plain row (row_of_printed_word One Plain b ∙ e))
    ]
