use Rattle.std.proofs.Common.{rules, ◌≢◌, Ok, ◌∙◌}
use Rattle.x86_operands.specs.declared.heads.After.TheVariants.{Search}
use Rattle.x86_groups.specs.Bytes.{after_byte}
use Rattle.x86_decode.proofs.PlainWalk.{goes_on, if_ok, outcome_if_ok}
use Rattle.x86_decode.proofs.RowWalk.{after_begun, from_here}
use Rattle.x86_decode.proofs.decoder.read_byte_row.Goals as goal

pub returns-in-Some-clause-read : goal.returns-in-Some-clause-read
returns-in-Some-clause-read g c = λ strict found is.
    let p = c.args.inst.now.prefixes in
    let apart : after_byte c.args.row.now.next ≢ Search = goes_on c.args.row.now.next (search rules) in
    outcome_if_ok c.read_operands.result _ _ _
    (c.read_operands.ensures.read strict found (search rules)
    ∙ after_begun _ apart _ c.place_of-inst.result strict found p (is.begins strict p) (Ok c.in_ok-modrm.modrm) _ c.in_ok-modrm.ensures
    ∙ from_here strict found p c.place_of-inst.ensures c.offset.ensures.count c.offset.ensures.unmoved)

pub returns-in-Some-clause-has_row : goal.returns-in-Some-clause-has_row
returns-in-Some-clause-has_row g c = if_ok c.read_operands.result _ (search rules)
