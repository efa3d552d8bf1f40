use Rattle.std.proofs.Common.{rules, ◌≡◌, ℕ, Ok, Err, refl, ◌∙◌}
use Rattle.x86_arch.specs.Reader.{State}
use Rattle.x86_fields.specs.declared.errors.DecodeError.TheVariants.{ExhaustedInput}
use Rattle.x86_fields.specs.Steps.{outcome}
use Rattle.x86_forms.specs.declared.Map.TheVariants.{Of, Of38, Of3a}
use Rattle.x86_decode.specs.Walk.{read_escaped}
use Rattle.x86_decode.proofs.HeadWalk.{byte_is, none_is}
use Rattle.x86_decode.proofs.WordWalk.{then_escaped, then_third, third_byte}
use Rattle.x86_decode.proofs.head.read_escaped.Goals as goal

pub returns-in_err-opcode : goal.returns-in_err-opcode
returns-in_err-opcode g c =
    let r : c.from_residual.result ≡ Err ExhaustedInput = search rules in
    rw r (then_escaped (Err ExhaustedInput) _ _ (none_is _ _ c.in_err-opcode.ensures.none_left c.in_err-opcode.ensures.unmoved))

pub returns-in_default : goal.returns-in_default
returns-in_default g c =
    let d = c.in_ok-opcode.opcode in
    let plain : (v : State ℕ) → outcome (Ok (Of, d)) v ≡ read_escaped d v = λ v. search rules in
    plain _ ∙ then_escaped (Ok d) _ _ (byte_is _ _ d c.in_ok-opcode.ensures.taken c.in_ok-opcode.ensures.moved)

pub returns-in_err-next-in-56 : goal.returns-in_err-next-in-56
returns-in_err-next-in-56 g c =
    let d = c.in_ok-opcode.opcode in
    let r : c.from_residual-in_err-next-in-56.result ≡ Err ExhaustedInput = search rules in
    let third : (v : State ℕ) → third_byte Of38 v ≡ read_escaped d v = λ v. rw c.in-56.is refl in
    rw r (then_third Of38 d (Err ExhaustedInput) _ _ _ (byte_is _ _ d c.in_ok-opcode.ensures.taken c.in_ok-opcode.ensures.moved) third
    (none_is _ _ c.in_err-next-in-56.ensures.none_left c.in_err-next-in-56.ensures.unmoved))

pub returns-in_ok-next-in-56 : goal.returns-in_ok-next-in-56
returns-in_ok-next-in-56 g c =
    let d = c.in_ok-opcode.opcode in
    let third : (v : State ℕ) → third_byte Of38 v ≡ read_escaped d v = λ v. rw c.in-56.is refl in
    then_third Of38 d (Ok c.in_ok-next-in-56.field-0) _ _ _ (byte_is _ _ d c.in_ok-opcode.ensures.taken c.in_ok-opcode.ensures.moved) third
    (byte_is _ _ c.in_ok-next-in-56.field-0 c.in_ok-next-in-56.ensures.taken c.in_ok-next-in-56.ensures.moved)

pub returns-in_err-next-in-58 : goal.returns-in_err-next-in-58
returns-in_err-next-in-58 g c =
    let d = c.in_ok-opcode.opcode in
    let r : c.from_residual-in_err-next-in-58.result ≡ Err ExhaustedInput = search rules in
    let third : (v : State ℕ) → third_byte Of3a v ≡ read_escaped d v = λ v. rw c.in-58.is refl in
    rw r (then_third Of3a d (Err ExhaustedInput) _ _ _ (byte_is _ _ d c.in_ok-opcode.ensures.taken c.in_ok-opcode.ensures.moved) third
    (none_is _ _ c.in_err-next-in-58.ensures.none_left c.in_err-next-in-58.ensures.unmoved))

pub returns-in_ok-next-in-58 : goal.returns-in_ok-next-in-58
returns-in_ok-next-in-58 g c =
    let d = c.in_ok-opcode.opcode in
    let third : (v : State ℕ) → third_byte Of3a v ≡ read_escaped d v = λ v. rw c.in-58.is refl in
    then_third Of3a d (Ok c.in_ok-next-in-58.field-0) _ _ _ (byte_is _ _ d c.in_ok-opcode.ensures.taken c.in_ok-opcode.ensures.moved) third
    (byte_is _ _ c.in_ok-next-in-58.field-0 c.in_ok-next-in-58.ensures.taken c.in_ok-next-in-58.ensures.moved)
