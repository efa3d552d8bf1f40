use Rattle.std.proofs.Common.{◌≡◌, take, length, arith, ap, ◌∙◌, length-take-le}
use Rattle.x86_streams.proofs.TextLemmas.Cells.{put_after}
use Rattle.x86_streams.proofs.text.image_bytes.ImageBytes.read.Goals as goal

pub returns : goal.returns
returns c =
    let before = c.move_to_beginning-before in
    let pairs = c.read_pairs-count in
    let moved : take before.result before.new.values ≡ c.args.self.now.items = before.ensures.bytes ∙ ap (λ b. b.items) c.self.view_is in
    let count : length (take before.result before.new.values) ≡ before.result = length-take-le _ _ (omega arith) in
    record {
      values = take pairs.result.0 pairs.new.values;
      spells = pairs.ensures.spells;
      items = put_after (take before.result before.new.values) pairs.new.values _ _ before.result pairs.result.0 count moved
          (omega (arith, c.requires, ap length moved, count));
    }
