use Rattle.std.proofs.Common.{◌≡◌, ◌-◌, ◌%◌, ◌/◌, Some, slice_get, arith, ap, sym, ◌∙◌}
use Rattle.x86_opcodes.specs.Numbers.{opcode_numbered}
use Rattle.x86_forms.specs.declared.ordinals.TheConstants.{FORMS}
use Rattle.x86_forms.specs.Ordinals.{ordinal_of}
use Rattle.x86_forms.proofs.FormLemmas.{carries_by_ordinal}
use Rattle.x86_forms.proofs.WordLemmas.{form_of_word, row_by_parts}
use Rattle.x86_forms.proofs.words.word_row.Goals as goal

pub invariant_of-result : goal.invariant_of-result
invariant_of-result c =
    let some : c.args.word % 256 ≡ 0 → ⊥ = λ e. omega (arith, e, c.if-form_number-eq0.false) in
    let opcode : opcode_numbered (c.args.word / 256) ≡ Some c.in_ok-opcode.opcode = sym c.from_number.ensures ∙ c.in_ok-opcode.was in
    let form : slice_get FORMS.now (c.args.word % 256 - 1) ≡ Some c.in_ok-form.form = sym c.nth_form.ensures ∙ c.in_ok-form.was in
    let row = row_by_parts c.args.word c.in_ok-form.form c.in_ok-opcode.opcode some form opcode in
    let form = form_of_word c.args.word _ row in
    let carries = carries_by_ordinal c.in_ok-form.form form.0 in
    let ordinal : ordinal_of c.in_ok-form.form ≡ c.args.word % 256 - 1 = omega (arith, form.1) in
    record {
      of_word = row;
      form_number_is = form.1;
      number_is = λ below. ap (λ n. n % 8) (sym ordinal) ∙ carries.0 (omega (arith, ordinal, below));
      small = omega arith;
      fits = form.0;
    }
