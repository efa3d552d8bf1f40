use Rattle.std.proofs.Common.{true, ◌≡◌, Bool, List, ℕ, sym, ap, ◌∙◌}
use Rattle.x86_fields.specs.declared.parts.Parts.{Parts}
use Rattle.x86_fields.specs.declared.raw.Raw.{Raw}
use Rattle.x86_fields.specs.ModRM.{is_memory}
use Rattle.x86_fields.specs.Parts.{lists_of}
use Rattle.x86_fields.specs.Run.{reading_of}
use Rattle.x86_forms.specs.Words.{rows_of, packed}
use Rattle.x86_operands.specs.declared.reader.Reading.{Reading}
use Rattle.x86_layout.specs.Parts.Split.{Encoding, HasParts}
use Rattle.x86_layout.specs.Tightening.Tighten.{has_memory_form, raw_of}
use Rattle.x86_layout.proofs.TightenLemmas.Relative.{Byte, Reads}
use Rattle.x86_layout.proofs.TightenLemmas.Tighten.{answer_67, answer_rex, no_form, no_operand, operand_form, raw_is, some_memory, with_memory, without_memory}
use Rattle.x86_layout.proofs.tightening.tighten.addressed_in.Goals as goal

-- The raw fields of the parts are those of the sentence, where it has a memory form.
known : {strict : Bool} {s : List ℕ} {a : Reading} (v : Encoding strict s a) (parts : Parts) {raw : Raw} →
    HasParts strict s a v (lists_of parts) → raw ≡ raw_of (lists_of parts) → is_memory (Byte v) ≡ true → Reads v raw
known v parts has fields memory =
    let some = some_memory v memory in
    cc (some.1, fields, raw_is v some.1 (lists_of parts) has)

pub returns-then-not-names_memory : goal.returns-then-not-names_memory
returns-then-not-names_memory c = λ strict is.
    let slots = c.memory_operands_denote_their_raw_fields.ensures.slot (rows_of packed) strict _ c.args.instruction.now is in
    no_operand is.whole (without_memory is slots (c.names_memory.ensures.none c.if-not-names_memory.true))

pub returns-then-not-has_memory_form : goal.returns-then-not-has_memory_form
returns-then-not-has_memory_form c = λ strict is.
    let parts = c.parts_in-parts.ensures strict is in
    no_operand is.whole (no_form is.whole (sym (c.has_memory_form.ensures ∙ ap has_memory_form parts.modrm) ∙ c.if-not-has_memory_form.true))

pub raw_of-raw-requires : goal.raw_of-raw-requires
raw_of-raw-requires c =
    let is = c.requires.is in
    let parts = c.parts_in-parts.ensures c.requires.strict is in
    record {
      rex = answer_rex is ∙ ap (λ run. (reading_of run).rex) (sym parts.prefixes);
      size = answer_67 is ∙ ap (λ run. (reading_of run).address_size) (sym parts.prefixes);
    }

pub returns-then-is_ip_relative : goal.returns-then-is_ip_relative
returns-then-is_ip_relative c = λ strict is.
    let parts = c.parts_in-parts.ensures strict is in
    let memory = with_memory is (c.names_memory.ensures.some c.if-not-names_memory.false)
    (sym (c.has_memory_form.ensures ∙ ap has_memory_form parts.modrm) ∙ c.if-not-has_memory_form.false) in
    operand_form is.whole c.raw_of-raw.result (known is.whole c.parts_in-parts.result parts c.raw_of-raw.ensures memory) true
    (sym c.is_ip_relative.ensures ∙ c.if-is_ip_relative.true)

pub returns : goal.returns
returns c = λ strict is.
    let parts = c.parts_in-parts.ensures strict is in
    let memory = with_memory is (c.names_memory.ensures.some c.if-not-names_memory.false)
    (sym (c.has_memory_form.ensures ∙ ap has_memory_form parts.modrm) ∙ c.if-not-has_memory_form.false) in
    record {
      parts = parts;
      read = known is.whole c.parts_in-parts.result parts c.raw_of-raw.ensures memory;
      form = sym c.is_ip_relative.ensures ∙ c.if-is_ip_relative.false;
    }
