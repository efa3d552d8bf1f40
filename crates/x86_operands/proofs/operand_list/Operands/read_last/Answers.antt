use Rattle.std.proofs.Common.{◌∙◌, None, arith}
use Rattle.x86_operands.proofs.InPlaceLemmas.{at_position}
use Rattle.x86_operands.proofs.operand_list.Operands.read_last.Goals as goal

pub returns : goal.returns
returns g c = λ n m.
    (rw c.resolved.ensures at (c.put_encoded.ensures c.args.prefixes.now m None))
    ∙ at_position c.args.at _ n c.args.last c.args.prefixes.now m c.args.self.now (g.T.Reader.state c.args.reader.now)
    (grind arith) c.requires.position c.requires.last
