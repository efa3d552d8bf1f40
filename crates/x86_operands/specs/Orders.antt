-- The orders that operands have. R is the register of reg or of the opcode byte (G beside E), E the operand of rm, I the last
-- one, and X another one after it.
use Rattle.std.specs.Prelude.{ℕ, Bool, false, ◌==◌, Option, Some, None, unwrap_or}
use Rattle.std.specs.Option.{option_map_or}
use Rattle.x86_operands.specs.Vocabulary.{Position, First, Second, Third, Fourth, Nowhere, Order}

-- which operands there are, in their order
pub data Sequence : Type 0 where
  NO : Sequence
  I : Sequence
  I_X : Sequence
  R : Sequence
  R_I : Sequence
  R_I_X : Sequence
  I_R : Sequence
  E : Sequence
  E_I : Sequence
  I_E : Sequence
  E_I_X : Sequence
  E_G : Sequence
  G_E : Sequence
  E_G_I : Sequence
  G_E_I : Sequence
  G_E_I_X : Sequence

abbrev pub placed : ℕ → Position → Position → Position → Position → Order
placed n reg rm last extra = record { count = n; reg = reg; rm = rm; last = last; extra = extra }

-- how many operands it has, and where each is
abbrev pub positions : Sequence → Order
positions NO = placed 0 Nowhere Nowhere Nowhere Nowhere
positions I = placed 1 Nowhere Nowhere First Nowhere
positions I_X = placed 2 Nowhere Nowhere First Second
positions R = placed 1 First Nowhere Nowhere Nowhere
positions R_I = placed 2 First Nowhere Second Nowhere
positions R_I_X = placed 3 First Nowhere Second Third
positions I_R = placed 2 Second Nowhere First Nowhere
positions E = placed 1 Nowhere First Nowhere Nowhere
positions E_I = placed 2 Nowhere First Second Nowhere
positions I_E = placed 2 Nowhere Second First Nowhere
positions E_I_X = placed 3 Nowhere First Second Third
positions E_G = placed 2 Second First Nowhere Nowhere
positions G_E = placed 2 First Second Nowhere Nowhere
positions E_G_I = placed 3 Second First Third Nowhere
positions G_E_I = placed 3 First Second Third Nowhere
positions G_E_I_X = placed 4 First Second Third Fourth

-- the one with these positions
abbrev pub sequence_at : Position → Position → Position → Position → Option Sequence
sequence_at Nowhere Nowhere Nowhere Nowhere = Some NO
sequence_at Nowhere Nowhere First Nowhere = Some I
sequence_at Nowhere Nowhere First Second = Some I_X
sequence_at First Nowhere Nowhere Nowhere = Some R
sequence_at First Nowhere Second Nowhere = Some R_I
sequence_at First Nowhere Second Third = Some R_I_X
sequence_at Second Nowhere First Nowhere = Some I_R
sequence_at Nowhere First Nowhere Nowhere = Some E
sequence_at Nowhere First Second Nowhere = Some E_I
sequence_at Nowhere Second First Nowhere = Some I_E
sequence_at Nowhere First Second Third = Some E_I_X
sequence_at Second First Nowhere Nowhere = Some E_G
sequence_at First Second Nowhere Nowhere = Some G_E
sequence_at Second First Third Nowhere = Some E_G_I
sequence_at First Second Third Nowhere = Some G_E_I
sequence_at First Second Third Fourth = Some G_E_I_X
sequence_at reg rm last extra = None

-- An order is one of these, with their count. Any other one would have no operand.
abbrev pub is_order : Order → Bool
is_order o = option_map_or (λ s. (positions s).count == o.count) (sequence_at o.reg o.rm o.last o.extra) false

abbrev pub sequence_of : Order → Sequence
sequence_of o = unwrap_or (sequence_at o.reg o.rm o.last o.extra) NO
