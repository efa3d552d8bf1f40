use Rattle.std.proofs.Common.{rules, ◌≡◌, Option}
use Rattle.x86_cli.specs.Commands.Request.{Runs}
use Rattle.x86_streams.specs.Outside.Joined.{joined_of}
use Rattle.x86_cli.proofs.CommandLemmas.Lent.{runs_lent}
use Rattle.x86_cli.proofs.commands.program.run.Goals as goal

pub returns-clause-ran : goal.returns-clause-ran
returns-clause-ran g c request denotes =
    let lent = runs_lent g.S.Source.gives g.K.Sink.takes request c.listed.result.status _ _ (c.listed.result.gone, c.listed.ensures.lists request denotes) in
    let same_reader = lent.1.0 in
    let same_writer = lent.1.1 in
    let source : c.source-1.given.0 ≡ c.listed.new.streams.reader.now = search rules in
    let sink : c.sink-1.given.0 ≡ c.listed.new.streams.writer.now = search rules in rw (source, sink) lent.0
