-- The listing of a sweep.
use Rattle.std.specs.Prelude.{Bool, ℕ, List, [], ◌∷◌, map, Result, Ok, Err}
use Rattle.x86_decode.specs.declared.instructions.Instruction.{Instruction}
use Rattle.x86_fields.specs.declared.errors.DecodeError.{DecodeError}
use Rattle.x86_layout.specs.declared.sweeps.cuts.Cut.{Cut}
use Rattle.x86_layout.specs.Sweeps.Cuts.{cuts_from}
use Rattle.x86_streams.specs.Text.{Text}
use Rattle.x86_text.specs.Lines.{line_of, refusal_of}
use Rattle.x86_cli.specs.Listings.Line.{line}
use Rattle.x86_cli.specs.Listings.Listing.{Listing, with_lines, at_end}

-- a cut of the sweep: a refusal is a cut of one byte
abbrev pub cut_text : ℕ → Result Instruction DecodeError → List ℕ
cut_text place (Ok i) = line_of place i
cut_text place (Err e) = refusal_of place e

-- The sweep of a text whose image begins at a place: a line for each cut of the image, in order, and then the
-- end's.
abbrev pub sweep_at : Bool → ℕ → Text → Listing
sweep_at strict place t = with_lines (map (λ c. line (cut_text c.place c.answer)) (cuts_from strict place t.image)) (at_end t.ending)

-- the lines of cuts up to the first that more bytes may change
abbrev pub before_open : Result Instruction DecodeError → List (List ℕ) → List (List ℕ)
before_open (Err DecodeError.ExhaustedInput) lines = []
before_open answer lines = lines

abbrev pub decided : List Cut → List (List ℕ)
decided [] = []
decided (c ∷ cs) = before_open c.answer (line (cut_text c.place c.answer) ∷ decided cs)

-- what is listed of a text whatever follows it, and its end
abbrev pub known_sweep_at : Bool → ℕ → Text → Listing
known_sweep_at strict place t = with_lines (decided (cuts_from strict place t.image)) (at_end t.ending)
