use Rattle.std.proofs.Common.{◌≡◌, true, false, rules}
use Rattle.std.proofs.lemmas.Int.{to_z-of_z}
use Rattle.x86_fields.specs.Linear.{constant_by}
use Rattle.x86_fields.proofs.LinearLemmas.{parts_sum}
use Rattle.x86_fields.proofs.address_parts.AddressParts.value.Goals as goal

pub returns-then-self : goal.returns-then-self
returns-then-self c =
    let constant : c.cast_unsigned.result ≡ constant_by true c.args.self.now.disp = search (rules, to_z-of_z) in
    parts_sum c.args.self.now c.args.regs.now.regs c.args.next c.part_value-base.result c.part_value-index.result c.cast_unsigned.result
    true c.if-self.true (cc) (cc) constant

pub returns-else-self : goal.returns-else-self
returns-else-self c =
    let constant : c.cast_unsigned-else-self.result ≡ constant_by false c.args.self.now.disp = search (rules, to_z-of_z) in
    parts_sum c.args.self.now c.args.regs.now.regs c.args.next c.part_value-base.result c.part_value-index.result
    c.cast_unsigned-else-self.result false c.if-self.false (cc) (cc) constant
