use Rattle.std.proofs.Common.{rules, ◌≡◌, ◌≢◌, Ok, Err, refl, ap, ◌∙◌}
use Rattle.x86_operands.specs.declared.heads.After.TheVariants.{Search}
use Rattle.x86_fields.specs.Steps.{◌>>=◌}
use Rattle.x86_operands.specs.Places.{instance_placed}
use Rattle.x86_groups.specs.Heads.{IsSure}
use Rattle.x86_decode.specs.Walk.{instance_at, row_from, some_row}
use Rattle.x86_decode.proofs.RowWalk.{after_begun, from_here, sized_is_sure}
use Rattle.x86_decode.proofs.rows.read_row.Goals as goal

pub returns-then-matches-clause-read : goal.returns-then-matches-clause-read
returns-then-matches-clause-read g c = λ strict.
    let i = c.args.inst.now in
    let row = c.args.found.now.row in
    ap (λ o. (some_row o >>= λ r. row_from c.place_of-inst.result strict r i.prefixes) (g.T.Reader.state c.offset.new.self)) c.args.found.now.of_word
    ∙ from_here strict row i.prefixes c.place_of-inst.ensures c.offset.ensures.count c.offset.ensures.unmoved

pub returns-in_err-modrm-clause-read : goal.returns-in_err-modrm-clause-read
returns-in_err-modrm-clause-read g c = λ strict.
    let p = c.args.inst.now.prefixes in
    let row = c.args.found.now.row in
    let apart : c.word_after-after.result ≢ Search = search rules in
    let r : c.from_residual.result ≡ Err c.in_err-modrm.field-0.0 = search rules in
    rw r (after_begun _ apart _ c.place_of-inst.result strict row p (c.word_after-after.ensures strict p)
    (Err c.in_err-modrm.field-0.0) _ c.in_err-modrm.ensures
    ∙ from_here strict row p c.place_of-inst.ensures c.offset.ensures.count c.offset.ensures.unmoved)

pub returns-in_err-read_operands-in-Some-clause-read : goal.returns-in_err-read_operands-in-Some-clause-read
returns-in_err-read_operands-in-Some-clause-read g c = λ strict.
    let p = c.args.inst.now.prefixes in
    let row = c.args.found.now.row in
    let found : IsSure row c.in_ok-modrm.modrm c.in-Some.sure = search rules in
    let sure = sized_is_sure row c.in_ok-modrm.modrm c.in-Some.sure _ refl refl c.with_sizes-template.ensures.sizes c.with_sizes-template.ensures.free found in
    let apart : c.word_after-after.result ≢ Search = search rules in
    let r : c.from_residual-in_err-read_operands-in-Some.result ≡ Err c.in_err-read_operands-in-Some.field-0.0 = search rules in
    rw r (c.in_err-read_operands-in-Some.ensures.read strict row sure
    ∙ after_begun _ apart _ c.place_of-inst.result strict row p (c.word_after-after.ensures strict p) (Ok c.in_ok-modrm.modrm) _ c.in_ok-modrm.ensures
    ∙ from_here strict row p c.place_of-inst.ensures c.offset.ensures.count c.offset.ensures.unmoved)

pub returns-in_ok-read_operands-in-Some-clause-read : goal.returns-in_ok-read_operands-in-Some-clause-read
returns-in_ok-read_operands-in-Some-clause-read g c = λ strict.
    let p = c.args.inst.now.prefixes in
    let row = c.args.found.now.row in
    let found : IsSure row c.in_ok-modrm.modrm c.in-Some.sure = search rules in
    let sure = sized_is_sure row c.in_ok-modrm.modrm c.in-Some.sure _ refl refl c.with_sizes-template.ensures.sizes c.with_sizes-template.ensures.free found in
    let apart : c.word_after-after.result ≢ Search = search rules in
    c.in_ok-read_operands-in-Some.ensures.read strict row sure
    ∙ after_begun _ apart _ c.place_of-inst.result strict row p (c.word_after-after.ensures strict p) (Ok c.in_ok-modrm.modrm) _ c.in_ok-modrm.ensures
    ∙ from_here strict row p c.place_of-inst.ensures c.offset.ensures.count c.offset.ensures.unmoved

pub returns-in-None-clause-read : goal.returns-in-None-clause-read
returns-in-None-clause-read g c = λ strict.
    let p = c.args.inst.now.prefixes in
    let row = c.args.found.now.row in
    let m = c.in_ok-modrm.modrm in
    let apart : c.word_after-after.result ≢ Search = search rules in
    ap (λ o. (some_row o >>= λ r. instance_placed c.place_of-inst.result (instance_at strict r p m) p m) (g.T.Reader.state c.read_modrm.new.reader))
    c.args.found.now.of_word
    ∙ after_begun _ apart _ c.place_of-inst.result strict row p (c.word_after-after.ensures strict p) (Ok c.in_ok-modrm.modrm) _ c.in_ok-modrm.ensures
    ∙ from_here strict row p c.place_of-inst.ensures c.offset.ensures.count c.offset.ensures.unmoved
