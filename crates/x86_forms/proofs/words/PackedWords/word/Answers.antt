use Rattle.std.proofs.Common.{◌≡◌, ℕ, ◌<◌, List, get_or, Bor, refl, arith, ap, ◌∙◌}
use Rattle.x86_forms.specs.declared.Map.{Map}
use Rattle.x86_forms.specs.declared.Column.{Column}
use Rattle.x86_forms.specs.Rows.{printed_rows, printed_row}
use Rattle.x86_forms.specs.Words.{packed}
use Rattle.x86_forms.proofs.TableLemmas.{words_in, word_in, one, of_plain, of_p66, of_f3, of_f2, of38_plain, of38_p66, of38_f3, of38_f2}
use Rattle.x86_forms.proofs.TableLemmas.{of3a_plain, of3a_p66, of3a_f3, of3a_f2}
use Rattle.x86_forms.proofs.words.PackedWords.word.Goals.{in-One-default, in-Of-Plain, in-Of-P66, in-Of-F3, in-Of-F2, in-Of38-Plain}
use Rattle.x86_forms.proofs.words.PackedWords.word.Goals.{in-Of38-P66, in-Of38-F3, in-Of38-F2, in-Of3a-Plain, in-Of3a-P66, in-Of3a-F3}
use Rattle.x86_forms.proofs.words.PackedWords.word.Goals.{in-Of3a-F2}
use Rattle.x86_forms.proofs.words.PackedWords.word.Goals as goal

at : (words : List ℕ) (m n : Map) (c d : Column) (byte : ℕ) → m ≡ n → c ≡ d → words ≡ words_in (printed_rows n) d → byte < 256 →
    get_or words byte 0 ≡ packed m c byte
unfolding packed printed_row
at words m n c d byte p q e below =
    let here : words ≡ words_in (printed_rows m) c = cc in
    ap (λ (words : List ℕ). get_or words byte 0) here ∙ word_in (printed_rows m) c byte below

pub returns : goal.returns
returns c =
    let is : (words : Bor (List ℕ)) (m : Map) (column : Column) → c.match-map.words ≡ words → words.now ≡ words_in (printed_rows m) column →
    c.args.map ≡ m → c.args.column ≡ column → get_or c.match-map.words.now c.args.byte 0 ≡ packed c.args.map c.args.column c.args.byte
    = λ words m column same table map_is column_is.
    at c.match-map.words.now c.args.map m c.args.column column c.args.byte map_is column_is
    (ap (λ (b : Bor (List ℕ)). b.now) same ∙ table) (omega (arith, c.ranges.byte.fits)) in
    elim c.match-map.branch [
      | in-One-default w ↦ is _ _ _ w.words-is (one c.args.column) w.in-One-default.is-0 refl
      | in-Of-Plain w ↦ is _ _ _ w.words-is of_plain w.in-Of-Plain.is-0 w.in-Of-Plain.is-1
      | in-Of-P66 w ↦ is _ _ _ w.words-is of_p66 w.in-Of-P66.is-0 w.in-Of-P66.is-1
      | in-Of-F3 w ↦ is _ _ _ w.words-is of_f3 w.in-Of-F3.is-0 w.in-Of-F3.is-1
      | in-Of-F2 w ↦ is _ _ _ w.words-is of_f2 w.in-Of-F2.is-0 w.in-Of-F2.is-1
      | in-Of38-Plain w ↦ is _ _ _ w.words-is of38_plain w.in-Of38-Plain.is-0 w.in-Of38-Plain.is-1
      | in-Of38-P66 w ↦ is _ _ _ w.words-is of38_p66 w.in-Of38-P66.is-0 w.in-Of38-P66.is-1
      | in-Of38-F3 w ↦ is _ _ _ w.words-is of38_f3 w.in-Of38-F3.is-0 w.in-Of38-F3.is-1
      | in-Of38-F2 w ↦ is _ _ _ w.words-is of38_f2 w.in-Of38-F2.is-0 w.in-Of38-F2.is-1
      | in-Of3a-Plain w ↦ is _ _ _ w.words-is of3a_plain w.in-Of3a-Plain.is-0 w.in-Of3a-Plain.is-1
      | in-Of3a-P66 w ↦ is _ _ _ w.words-is of3a_p66 w.in-Of3a-P66.is-0 w.in-Of3a-P66.is-1
      | in-Of3a-F3 w ↦ is _ _ _ w.words-is of3a_f3 w.in-Of3a-F3.is-0 w.in-Of3a-F3.is-1
      | in-Of3a-F2 w ↦ is _ _ _ w.words-is of3a_f2 w.in-Of3a-F2.is-0 w.in-Of3a-F2.is-1
    ]
