use Rattle.std.proofs.Common.{OnOk, ◌≡◌, sym, subst, ◌∙◌}
use Rattle.x86_operands.specs.Places.{place_after_address}
use Rattle.x86_operands.proofs.TemplateLemmas.{in_order, read_parts}
use Rattle.x86_decode.proofs.RowWalk.{no_suffix, read_placed}
use Rattle.x86_decode.proofs.rows.read_operands.Goals as goal

pub returns-clause-read : goal.returns-clause-read
returns-clause-read g c = λ strict found is.
    let i = c.args.inst.now in
    let sure = c.args.sure in
    let none = no_suffix sure.template.now sure.register sure.opcode i.prefixes c.args.modrm in
    let ordered = in_order sure.template.now.order (read_parts sure.template.now c.args.modrm c.requires.at_once.fits).sound.order in
    let address = subst (λ o. OnOk c.read.result (c.read.new.address_end ≡ place_after_address o.rm i.prefixes c.args.modrm
    (g.T.Reader.state c.args.reader.now))) (sym ordered) c.read.ensures.address in
    read_placed c.read.result _ i.places.opcode_end c.read.new.address_end i.places.has_suffix _ _ i.prefixes c.args.modrm _ _
    (is.instance strict i.prefixes) (c.read.ensures.read sure.opcode) address (c.requires.no_suffix ∙ sym none)
