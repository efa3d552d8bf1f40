-- Distances between addresses: what callers see of one.
use Rattle.x86_arch.specs.declared.AddressDiff.{AddressDiff}

-- the distance of so much, and how much it is
abbrev pub from_const : {A : Type 0} → A → AddressDiff A
from_const amount = record { amount = amount }

abbrev pub to_const : {A : Type 0} → AddressDiff A → A
to_const d = d.amount
