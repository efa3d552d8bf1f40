use Rattle.std.proofs.Common.{List, ℕ, refl}
use Rattle.x86_decode.proofs.ByteLemmas.{bytes_of}
use Rattle.x86_layout.specs.Tightening.Shortest.{IsOfBytes}
use Rattle.x86_layout.proofs.TightenLemmas.Bytes.{all_of, relative_of_bytes}
use Rattle.x86_layout.proofs.TightenLemmas.Relative.{Bytes', raw_of_bytes, shortest_relative}
use Rattle.x86_layout.proofs.TightenLemmas.Tighten.{least_of_shortest}
use Rattle.x86_layout.proofs.laws.shortest_relatives_have_the_least_length.Goals as goal

pub returns : goal.returns
returns c = λ strict s a is bytes h.
    let fit : IsOfBytes h.operand.raw = raw_of_bytes is.whole h.operand.raw h.operand.read (bytes_of s bytes) in
    let t : List ℕ = Bytes' is.whole h.operand.read fit in (
      t,
      all_of t (relative_of_bytes is.whole h.operand.read fit (bytes_of s bytes)),
      shortest_relative is.whole h.operand.read fit t
          refl is.lock is.short h.form,
      least_of_shortest is.whole h.operand.read fit t refl h.form,
    )
