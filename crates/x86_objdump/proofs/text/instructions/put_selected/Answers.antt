use Rattle.std.proofs.Common.{◌++◌, take, ap, ◌∙◌}
use Rattle.x86_decode.specs.Decoder.{is_strict}
use Rattle.x86_layout.specs.Parts.OfBytes.{parts_of}
use Rattle.x86_objdump.specs.Text.Context.{context_of}
use Rattle.x86_objdump.specs.Text.Entries.{entry_for}
use Rattle.x86_objdump.specs.Text.Instructions.{shown_by, listed_text}
use Rattle.x86_objdump.proofs.text.instructions.put_selected.Goals as goal

pub returns-clause-text : goal.returns-clause-text
unfolding listed_text
returns-clause-text c =
    c.put_shown.ensures.text
    ∙ (λ i. take c.args.at c.args.cells.now ++ shown_by ((c.of.ensures ∙ ap context_of c.requires.parts) i) c.args.inst.now
    ((c.entry_for.ensures.is ∙ ap entry_for c.opcode.ensures) i) (parts_of (is_strict c.args.decoder.now) c.args.bytes.now) c.args.next)
