use Rattle.std.proofs.Common.{rules}
use Rattle.x86_decode.specs.Decoder.{is_strict}
use Rattle.x86_layout.specs.Parts.Permitted.{first_failing}
use Rattle.x86_layout.proofs.PartLemmas.Emit.{read_again}
use Rattle.x86_layout.proofs.parts.emit.emit.Goals as goal

pub returns-clause-permitted : goal.returns-clause-permitted
unfolding first_failing
returns-clause-permitted c = search rules

pub returns-clause-bytes : goal.returns-clause-bytes
returns-clause-bytes c = search rules

pub returns-clause-decodes : goal.returns-clause-decodes
returns-clause-decodes c =
    let strict = is_strict c.args.decoder.now in
    let f = c.args.fields.now in
    read_again (λ bytes. bytes.items) strict f c.ok_or-2.result (c.permitted_fields_are_split_again.ensures strict f)
    (returns-clause-permitted c).0 (returns-clause-bytes c)
