-- The derived order of classes is that of their codes.
use Rattle.std.proofs.Common.{◌≡◌, rules}
use Rattle.std.specs.Ordering.{nat_cmp}
use Rattle.x86_regs.specs.declared.RegisterClass.{RegisterClass}
use Rattle.x86_regs.specs.contracts.RegisterClassOrd.TheImpl.{ghosts}
use Rattle.x86_regs.specs.Class.{class_code}

pub by_code : (a b : RegisterClass) → ghosts.cmp a b ≡ nat_cmp (class_code a) (class_code b)
by_code a b = search rules
