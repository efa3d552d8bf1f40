use Rattle.std.proofs.Common.{rules, ◌≢◌}
use Rattle.x86_groups.specs.declared.bytes.Next.TheVariants.{Nothing}
use Rattle.x86_decode.proofs.PlainWalk.{reads_next}
use Rattle.x86_decode.proofs.decoder.read_next.Goals as goal

pub returns-in-Either : goal.returns-in-Either
returns-in-Either g c =
    let bare : c.args.next ≢ Nothing = search rules in
    reads_next c.args.next bare c.requires c.next_modrm.result _ _ c.next_modrm.ensures

pub returns-in-Chosen : goal.returns-in-Chosen
returns-in-Chosen g c =
    let bare : c.args.next ≢ Nothing = search rules in
    reads_next c.args.next bare c.requires c.next_modrm-in-Chosen.result _ _ c.next_modrm-in-Chosen.ensures
