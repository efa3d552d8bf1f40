use Rattle.std.proofs.Common.{◌≡◌, ◌+◌, ℕ, Bool, length, false, refl, ap, ◌∙◌, add-one, arith}
use Rattle.x86_decode.specs.Answer.{answer_of}
use Rattle.x86_decode.specs.Instruction.{holding}
use Rattle.x86_cli.specs.declared.commands.make.Tally.{Tally}
use Rattle.x86_layout.specs.Parts.Heads.{one_if}
use Rattle.x86_cli.specs.Commands.Make.{generate, tally_of, answer_has, is_at_rip, is_absolute}
use Rattle.x86_cli.proofs.commands.make.tally_of.Goals as goal

-- one more encoding is counted
next : (i l : ℕ) (t : Tally) (x y : Bool) → t ≡ tally_of i → l ≡ length (generate i) →
    x ≡ answer_has is_at_rip (answer_of false (generate i)) → y ≡ answer_has is_absolute (answer_of false (generate i)) →
    record { bytes = t.bytes + l; at_rip = t.at_rip + one_if x; absolute = t.absolute + one_if y } ≡ tally_of (i + 1)
unfolding tally_of
next i l t x y e long at_rip absolute = rw (add-one, ← e, long, at_rip, absolute) refl

pub loop-i-preserved : goal.loop-i-preserved
loop-i-preserved c =
    let answer : holding c.decode_slice_into-answer.new.inst c.decode_slice_into-answer.result ≡ answer_of false (generate c.loop-i.i) =
    c.decode_slice_into-answer.ensures.value ∙ ap (λ s. answer_of s c.as_slice.result.now) c.default-decoder.ensures
    ∙ ap (answer_of false) (c.as_slice.ensures.value ∙ c.generate-encoding.ensures) in
    let step = next c.loop-i.i c.len.result _ c.has_operand_at_rip.result c.has_absolute_operand.result c.loop-i.invariant.counted
    (c.len.ensures.value ∙ ap length c.generate-encoding.ensures)
    (c.has_operand_at_rip.ensures ∙ ap (answer_has is_at_rip) answer) (c.has_absolute_operand.ensures ∙ ap (answer_has is_absolute) answer) in
    record {
      counted = grind (arith, step);
      few_bytes = omega (arith, c.as_slice.ensures.fits);
      few_at_rip = grind arith;
      few_absolute = grind arith;
    }
