use Rattle.std.proofs.Common.{◌≡◌, ◌++◌, take}
use Rattle.x86_cli.proofs.listings.targets.append.Given as goal

abbrev pub invariant-loop-byte : goal.invariant-loop-byte
invariant-loop-byte l = l.image.items ≡ l.fn.image.items ++ take l.byte-index l.window.bytes.items
