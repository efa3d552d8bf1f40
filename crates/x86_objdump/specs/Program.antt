-- The program: its words, which say the address at which an image begins, and what it reports.
use Rattle.std.specs.Prelude.{ℕ, Bool, ◌-◌, ◌==◌, ◌&&◌, ◌||◌, if◌then◌else◌, List, [], ◌∷◌, ◌++◌, Option, Some, None, Result, Ok, Err}
use Rattle.std.specs.Prelude.{length, replicate, nat_lt, codes}
use Rattle.std.specs.Int.{w64, from_be_bytes}
use Rattle.hex.specs.declared.error.FromHexError.{FromHexError}
use Rattle.hex.specs.Hex.{decode_sized}
use Rattle.x86_cli.specs.declared.listings.status.Status.{Status}
use Rattle.x86_cli.specs.declared.listings.status.Status.TheVariants.{Usage}
use Rattle.x86_cli.specs.Listings.Line.{line}
use Rattle.x86_cli.specs.Commands.Process.{said_at}

-- the number of eight bytes, the highest first
abbrev pub number_in : Result (List ℕ) FromHexError → Option ℕ
number_in (Ok bytes) = Some (from_be_bytes w64 bytes)
number_in (Err e) = None

-- the number of one to sixteen hexadecimal digits, which are the last of eight bytes
abbrev pub base_number : List ℕ → Option ℕ
base_number digits =
    if length digits == 0 || nat_lt 16 (length digits) then None
    else number_in (decode_sized (replicate (16 - length digits) 48 ++ digits) 8)

-- without 0x or 0X
abbrev pub without_prefix : List ℕ → List ℕ
without_prefix [] = []
without_prefix (a ∷ []) = a ∷ []
without_prefix (a ∷ b ∷ digits) = if a == 48 && (b == 120 || b == 88) then digits else a ∷ b ∷ digits

-- the base: 0 where there is no word
abbrev pub base_in : List (List ℕ) → Option ℕ
base_in [] = Some 0
base_in (word ∷ []) = base_number (without_prefix word)
base_in (a ∷ b ∷ words) = None

-- the usage line, or what the listing's end says
abbrev pub said : Status → Bool → Option (List ℕ)
said Usage gone = Some (line (codes "usage: show [BASE]"))
said status gone = said_at status gone
