-- Registers: what callers see of one.
use Rattle.std.specs.Prelude.{ℕ}
use Rattle.x86_regs.specs.declared.RegisterClass.{RegisterClass}
use Rattle.x86_regs.specs.declared.RegSpec.{RegSpec}

-- the register of a number and a class, whatever they are
abbrev pub reg_spec : ℕ → RegisterClass → RegSpec
reg_spec num class = record { num = num; class = class }

-- its number and its class
abbrev pub num : RegSpec → ℕ
num r = r.num

abbrev pub class : RegSpec → RegisterClass
class r = r.class
