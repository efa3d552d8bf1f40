use Rattle.std.proofs.Common.{rules, ◌≡◌, Err, true, sym, ap, ◌∙◌}
use Rattle.x86_fields.specs.Steps.{outcome, then_from}
use Rattle.x86_forms.specs.Words.{rows_of}
use Rattle.x86_forms.specs.declared.Map.TheVariants.{One}
use Rattle.x86_decode.specs.Head.{seen_by}
use Rattle.x86_decode.specs.ByteClass.{byte_class}
use Rattle.x86_decode.specs.Walk.{found_word}
use Rattle.x86_decode.proofs.ByteClassLemmas.{is_plain, plain_not}
use Rattle.x86_decode.proofs.WordWalk.{found_vex, found_plain, found_escaped}
use Rattle.x86_decode.proofs.head.read_word.Goals as goal

pub returns-in_err-map-in-Escape : goal.returns-in_err-map-in-Escape
returns-in_err-map-in-Escape g c =
    let r : c.from_residual.result ≡ Err c.in_err-map-in-Escape.field-0.0 = search rules in
    ap (λ x. then_from x (g.T.Reader.state c.read_escaped.new.reader) (found_word c.args.prefixes.now)) r
    ∙ found_escaped (rows_of (g.W.Words.word c.args.rows.now)) c.args.prefixes.now c.args.byte _ _ _ (search rules) c.in_err-map-in-Escape.ensures

pub returns-in_ok-map-in-Escape : goal.returns-in_ok-map-in-Escape
returns-in_ok-map-in-Escape g c =
    ap (λ q. found_word q c.word-word.result (g.T.Reader.state c.read_escaped.new.reader)) c.seen_by.ensures
    ∙ ap (λ w. found_word (seen_by c.in_ok-map-in-Escape.map c.in_ok-map-in-Escape.opcode c.args.prefixes.now) w
    (g.T.Reader.state c.read_escaped.new.reader))
    (c.word-word.ensures ∙ ap (λ k. g.W.Words.word c.args.rows.now c.in_ok-map-in-Escape.map k c.in_ok-map-in-Escape.opcode) c.column_of.ensures)
    ∙ found_escaped (rows_of (g.W.Words.word c.args.rows.now)) c.args.prefixes.now c.args.byte _ _ _ (search rules) c.in_ok-map-in-Escape.ensures

pub returns-in-Vex : goal.returns-in-Vex
returns-in-Vex g c =
    ap (λ e. outcome (Err e) (g.T.Reader.state c.args.reader.now)) c.vex_refusal.ensures
    ∙ found_vex (rows_of (g.W.Words.word c.args.rows.now)) c.args.prefixes.now c.args.byte (g.T.Reader.state c.args.reader.now) (search rules)

pub returns-in_default : goal.returns-in_default
returns-in_default g c =
    let plain : is_plain (byte_class c.args.byte) ≡ true = ap is_plain (sym c.byte_class.ensures)
    ∙ plain_not c.byte_class.result c.in_default.not-Escape c.in_default.not-Vex in
    ap (λ w. found_word c.args.prefixes.now w (g.T.Reader.state c.args.reader.now))
    (c.word.ensures ∙ ap (λ k. g.W.Words.word c.args.rows.now One k c.args.byte) c.column_of-in_default.ensures)
    ∙ found_plain (rows_of (g.W.Words.word c.args.rows.now)) c.args.prefixes.now c.args.byte (g.T.Reader.state c.args.reader.now) plain
