use Rattle.std.proofs.Common.{◌≡◌, ℕ, List, map, get_or, arith, ap, ◌∙◌, refl, if◌then◌else◌}
use Rattle.std.proofs.lemmas.Grind.{common_steps}
use Rattle.std.proofs.lemmas.List.FromFn.{get_or-map-range_with_len}
use Rattle.std.specs.List.{range_with_len}
use Rattle.std.specs.Option.{option_map_or}
use Rattle.x86_streams.specs.declared.text.kinds.TheConstants.{KINDS}
use Rattle.x86_streams.specs.declared.text.kinds.Kind.{Kind}
use Rattle.x86_streams.specs.declared.text.kinds.Kind.TheVariants.{Digit, Blank, Other}
use Rattle.x86_streams.specs.Text.{is_blank, value_of}
use Rattle.x86_streams.specs.Text.Beginning.{IsKind}
use Rattle.x86_streams.proofs.text.kinds.kind_of.Goals as goal

-- the kind of a byte
abbrev kind : ℕ → Kind
kind b = if is_blank b then Blank else option_map_or Digit (value_of b) Other

table : KINDS.now ≡ map kind (range_with_len 0 256)
unfolding value_of
table = refl

is_kind : (b : ℕ) → IsKind (kind b) b
unfolding value_of
is_kind b = grind (arith, common_steps)

pub returns : goal.returns
returns c =
    let found : get_or KINDS.now c.args.byte (Digit 0) ≡ kind c.args.byte =
    ap (λ (xs : List Kind). get_or xs c.args.byte (Digit 0)) table
    ∙ get_or-map-range_with_len kind 0 256 c.args.byte c.args.byte (Digit 0) (omega (arith, c.ranges.byte.fits)) (omega arith) in
    rw found (is_kind c.args.byte)
