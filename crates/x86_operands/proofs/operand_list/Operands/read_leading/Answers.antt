use Rattle.std.proofs.Common.{ap, ◌∙◌, sym, Ok}
use Rattle.x86_fields.specs.Steps.{outcome}
use Rattle.x86_operands.specs.OperandList.{with_size}
use Rattle.x86_operands.proofs.InPlaceLemmas.{with_modrm}
use Rattle.x86_operands.proofs.operand_list.Operands.read_leading.Goals as goal

pub returns-in_ok-read_rm-in_default : goal.returns-in_ok-read_rm-in_default
returns-in_ok-read_rm-in_default g c =
    ap (λ x. outcome (Ok x) (g.T.Reader.state c.read_rm.new.reader)) c.put_reg.ensures
    ∙ sym (with_modrm c.args.template.now c.args.num c.args.fields.now.prefixes.now c.args.fields.now.modrm
    (with_size c.args.template.now c.args.fields.now.prefixes.now c.args.fields.now.modrm c.args.self.now)
    (g.T.Reader.state c.args.reader.now) (g.T.Reader.state c.read_rm.new.reader)
    (Ok c.in_ok-read_rm-in_default.field-0) c.read_rm.new.self c.in_ok-read_rm-in_default.ensures c.in_default.not-Nowhere)
