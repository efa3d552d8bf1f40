use Rattle.std.proofs.Common.{rules, ◌≡◌, ◌++◌, Err, ap, ◌∙◌}
use Rattle.x86_fields.specs.declared.errors.DecodeError.TheVariants.{ExhaustedInput}
use Rattle.x86_fields.specs.Steps.{pure, then_from}
use Rattle.x86_decode.proofs.HeadWalk.{byte_is, none_is, stops, lacks, walk_begins, walk_goes, gets_shorter}
use Rattle.x86_decode.proofs.head.read_prefixes.Goals as goal

pub run-init : goal.run-init
run-init g c = walk_begins (g.T.Reader.state c.args.reader.now) c.args.prefixes.now

pub returns-in_err-byte : goal.returns-in_err-byte
returns-in_err-byte g c =
    let r : c.from_residual.result ≡ Err ExhaustedInput = search rules in
    let now = g.T.Reader.state c.run.reader in
    let after = g.T.Reader.state c.next.new.self in
    λ beginning e. ap (λ x. then_from x after (λ b. pure (c.run.prefixes, b))) r
    ∙ lacks (beginning ++ c.run.invariant.more) now after ExhaustedInput
    (none_is now after c.in_err-byte.ensures.none_left c.in_err-byte.ensures.unmoved) ∙ c.run.invariant.same beginning

pub returns-then-not-is_prefix : goal.returns-then-not-is_prefix
returns-then-not-is_prefix g c = λ beginning e.
    stops (beginning ++ c.run.invariant.more) (g.T.Reader.state c.run.reader)
    (g.T.Reader.state c.next.new.self) c.run.prefixes c.in_ok-byte.byte (c.run.invariant.reading beginning e)
    (byte_is (g.T.Reader.state c.run.reader) (g.T.Reader.state c.next.new.self) c.in_ok-byte.byte c.in_ok-byte.ensures.taken
    c.in_ok-byte.ensures.moved) (search rules) ∙ c.run.invariant.same beginning

pub run-smaller : goal.run-smaller
run-smaller g c = gets_shorter c.in_ok-byte.byte (g.T.Reader.state c.run.reader) (g.T.Reader.state c.next.new.self)
    (byte_is (g.T.Reader.state c.run.reader) (g.T.Reader.state c.next.new.self) c.in_ok-byte.byte c.in_ok-byte.ensures.taken c.in_ok-byte.ensures.moved)

pub run-preserved : goal.run-preserved
run-preserved g c = walk_goes (g.T.Reader.state c.args.reader.now) (g.T.Reader.state c.run.reader)
    (g.T.Reader.state c.next.new.self) c.args.prefixes.now c.run.prefixes c.after.result c.in_ok-byte.byte c.run.invariant
    (byte_is (g.T.Reader.state c.run.reader) (g.T.Reader.state c.next.new.self) c.in_ok-byte.byte c.in_ok-byte.ensures.taken
    c.in_ok-byte.ensures.moved) (search rules) c.after.ensures.reading
