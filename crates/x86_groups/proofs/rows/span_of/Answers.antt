use Rattle.std.proofs.Common.{sym, subst, get_or}
use Rattle.std.proofs.lemmas.Bool.{leb-true}
use Rattle.x86_groups.proofs.HeadLemmas.{IsSpan, span_at}
use Rattle.x86_groups.specs.declared.tables.TheConstants.{SPANS}
use Rattle.x86_groups.proofs.rows.span_of.Goals as goal

pub returns : goal.returns
returns c =
    let span = subst (λ n. IsSpan c.args.form (get_or SPANS.now n (0, 0))) (sym c.first_ordinal.ensures) (span_at c.args.form (0, 0)) in
    record { ordered = leb-true _ _ span.ordered; inside = leb-true _ _ span.inside; rows = span.rows; sound = span.sound }
