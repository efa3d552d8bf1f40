use Rattle.std.proofs.Common.{rules, ◌≡◌, ◌≢◌, Ok, Err, ap, ◌∙◌}
use Rattle.x86_fields.specs.declared.errors.DecodeError.TheVariants.{ExhaustedInput}
use Rattle.x86_fields.specs.Steps.{outcome}
use Rattle.x86_operands.specs.declared.heads.After.TheVariants.{Nothing}
use Rattle.x86_decode.proofs.HeadWalk.{byte_is, none_is}
use Rattle.x86_decode.proofs.RowWalk.{reads_modrm}
use Rattle.x86_decode.proofs.rows.read_modrm.Goals as goal

pub returns-in_err-next-in_default : goal.returns-in_err-next-in_default
returns-in_err-next-in_default g c =
    let r : c.from_residual.result ≡ Err ExhaustedInput = search rules in
    let bare : c.args.after ≢ Nothing = search rules in
    rw r (reads_modrm c.args.after bare c.requires (Err ExhaustedInput) _ _
    (none_is _ _ c.in_err-next-in_default.ensures.none_left c.in_err-next-in_default.ensures.unmoved))

pub returns-in_ok-next-in_default : goal.returns-in_ok-next-in_default
returns-in_ok-next-in_default g c =
    let bare : c.args.after ≢ Nothing = search rules in
    reads_modrm c.args.after bare c.requires (Ok c.new.result) _ _
    (ap (λ m. outcome (Ok m) (g.T.Reader.state c.next.new.self)) c.new.ensures
    ∙ byte_is _ _ c.in_ok-next-in_default.field-0 c.in_ok-next-in_default.ensures.taken c.in_ok-next-in_default.ensures.moved)
