use Rattle.std.proofs.Common.{List, get_or, arith, ap, ◌∙◌}
use Rattle.std.proofs.lemmas.List.FromFn.{get_or-map-range_with_len}
use Rattle.x86_decode.specs.declared.head.ByteClass.{ByteClass}
use Rattle.x86_decode.specs.declared.head.ByteClass.TheVariants.{Legacy}
use Rattle.x86_decode.specs.ByteClass.{byte_class, byte_classes}
use Rattle.x86_decode.proofs.ByteClassLemmas.{table}
use Rattle.x86_decode.proofs.head.byte_class.Goals as goal

pub returns : goal.returns
unfolding byte_classes
returns c =
    ap (λ (xs : List ByteClass). get_or xs c.args.byte Legacy) table
    ∙ get_or-map-range_with_len byte_class 0 256 c.args.byte c.args.byte Legacy (omega (arith, c.ranges.byte.fits)) (omega arith)
