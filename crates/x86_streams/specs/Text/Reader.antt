-- What contracts see of a reader of text, and what a read of it says.
use Rattle.std.specs.Prelude.{◌≡◌, ℕ, ◌≤◌, List, ◌++◌, length, Result}
use Rattle.std.specs.declared.io.Error.{Error}
use Rattle.x86_streams.specs.Outside.Chain.{ReadsOnce, taken_by}

-- where a reader of a text is, how many bytes it may still take, and those that were read and not taken
pub record TextPosition : Type 0 where
  pub position : ℕ
  pub room : ℕ
  pub unread : List ℕ

-- A read of 64 KiB was made, and what it returned is after what was left.
pub record ReadsBlock {R : Type 0} (reads : R → List ℕ → Result ℕ Error → R → Type 0) (answer : Result ℕ Error) (old new : List ℕ) (r r' : R) : Type 0 where
  pub buffer : List ℕ
  pub block : 65536 ≤ length buffer
  pub answered : ReadsOnce reads buffer answer r r'
  pub unread : new ≡ old ++ taken_by answer buffer
