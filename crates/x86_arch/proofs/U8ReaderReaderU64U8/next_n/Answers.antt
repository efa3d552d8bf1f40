use Rattle.std.proofs.Common.{length, arith, rules}
use Rattle.std.proofs.lemmas.List.{length-drop}
use Rattle.x86_arch.proofs.StateLemmas.{at_moved}
use Rattle.x86_arch.proofs.U8ReaderReaderU64U8.next_n.Goals as goal

pub returns-then-buf-self-clause-filled : goal.returns-then-buf-self-clause-filled
returns-then-buf-self-clause-filled c = search rules

pub returns-then-buf-self-clause-moved : goal.returns-then-buf-self-clause-moved
returns-then-buf-self-clause-moved c =
    let reader = c.args.self.now in
    at_moved reader.bytes.now reader.place reader.mark (length c.args.buf.now) reader.in_range.0

pub returns-else-buf-self-clause-too_few : goal.returns-else-buf-self-clause-too_few
returns-else-buf-self-clause-too_few c = omega (arith, length-drop c.args.self.now.place c.args.self.now.bytes.now)
