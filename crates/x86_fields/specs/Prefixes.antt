-- Prefixes and the bits of a REX: what callers see of them.
use Rattle.std.specs.Prelude.{Bool, false, Option}
use Rattle.x86_regs.specs.declared.Segment.{Segment}
use Rattle.x86_regs.specs.declared.Segment.TheVariants.{ES}
use Rattle.x86_fields.specs.declared.rex.PrefixRex.{PrefixRex}
use Rattle.x86_fields.specs.declared.prefixes.Prefixes.{Prefixes}
pub use Rattle.x86_fields.specs.Rex.{w, r, x, b}

-- 66, 67 and F0 are in the run
abbrev pub operand_size : Prefixes → Bool
operand_size p = p.operand_size

abbrev pub address_size : Prefixes → Bool
address_size p = p.address_size

abbrev pub lock : Prefixes → Bool
lock p = p.lock

-- the segment that was chosen, else DS
abbrev pub segment : Prefixes → Segment
segment p = p.segment

-- the live REX
abbrev pub rex : Prefixes → Option PrefixRex
rex p = p.rex

-- the same without 66, with the segment ES, and with another live REX
abbrev pub without_operand_size : Prefixes → Prefixes
without_operand_size p = record p { operand_size = false }

abbrev pub with_es : Prefixes → Prefixes
with_es p = record p { segment = ES }

abbrev pub with_rex : Prefixes → Option PrefixRex → Prefixes
with_rex p rex = record p { rex = rex }

-- the same with other bits X and B
abbrev pub with_x_and_b : PrefixRex → Bool → Bool → PrefixRex
with_x_and_b rex x b = record rex { x = x; b = b }
