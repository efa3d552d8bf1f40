-- What a text says of every text that begins so.
use Rattle.std.specs.Prelude.{◌≡◌, ℕ, ◌<◌, List, [], ◌++◌, length, Option, Some, None, ⊤}
use Rattle.x86_streams.specs.declared.text.reader.Ending.{Ending}
use Rattle.x86_streams.specs.declared.text.reader.Ending.TheVariants.{Fault}
use Rattle.x86_streams.specs.Outside.Stop.{Stop}
use Rattle.x86_streams.specs.Text.{Text}

-- a text with bytes before its image
abbrev pub with_bytes : List ℕ → Text → Text
with_bytes bytes t = record { image = bytes ++ t.image; ending = t.ending }

-- a text that is at its end
abbrev pub ended : Ending → Text
ended e = record { image = []; ending = e }

-- What may come after bytes that were returned: anything, or only the stop that was returned after them.
abbrev pub MayCome : Option Stop → List ℕ → Stop → Type 0
MayCome None xs stop = ⊤
MayCome (Some given) xs stop = (xs ≡ []) × (stop ≡ given)

-- The text of bytes after which a read failed: it had not ended before, and has fewer than k bytes in its image.
abbrev pub NeedsMore : ℕ → Text → Type 0
NeedsMore k t = (t.ending ≡ Fault) × (length t.image < k)
