-- What a window shows, whatever follows it.
use Rattle.std.proofs.Common.{◌≡◌, ◌≢◌, ℕ, List, [], ◌++◌, refl, take, arith, Option, Some, None, Ok, Err, Bool, sym, ◌∙◌, append-nil}
use Rattle.x86_decode.specs.declared.instructions.Instruction.{Instruction}
use Rattle.x86_fields.specs.declared.errors.DecodeError.{DecodeError}
use Rattle.x86_fields.specs.declared.errors.DecodeError.TheVariants.{ExhaustedInput}
use Rattle.x86_decode.specs.Answer.{answer_of}
use Rattle.x86_streams.specs.declared.text.reader.Ending.{Ending}
use Rattle.x86_streams.specs.declared.text.reader.Ending.TheVariants.{Clean}
use Rattle.x86_streams.specs.Outside.Stop.{Stop}
use Rattle.x86_streams.specs.Text.{text_at}
use Rattle.x86_streams.specs.Text.Window.{rest_of}
use Rattle.x86_cli.specs.declared.text.window.Decoded.{Decoded}
use Rattle.x86_cli.specs.declared.text.window.Decoded.TheVariants.{Whole, Refused, Ended}
use Rattle.x86_cli.specs.declared.text.window.AtRefusal.TheVariants as refusal
use Rattle.x86_cli.specs.Listings.Listing.{decoded_of, decoded_before_end}
use Rattle.x86_cli.specs.DecoderLaws.{DecoderLaws}
use Rattle.x86_cli.specs.Text.Window.{Shows, IsAtRefusal}

module _ (strict : Bool) (laws : DecoderLaws strict) where
  -- what a window that shows an instruction says of its bytes alone
  pub shown_answer : (ended : Option Ending) (w : List ℕ) (i : Instruction) → Shows strict (Whole i) ended w → answer_of strict (take i.length w) ≡ Ok i
  unfolding decoded_of
  shown_answer ended w i shows = let whole = rw append-nil at (shows.2 [] Clean) in laws.alone w i (grind arith)

  -- What decoding what is left yields: more bytes don't change it, or none come.
  abbrev pub Yields : Option Ending → List ℕ → Decoded Instruction → Type 0
  Yields None w d = (answer_of strict w ≢ Err ExhaustedInput) × (d ≡ decoded_before_end (answer_of strict w))
  Yields (Some e) w d = d ≡ decoded_of strict w e

  pub decoded-stays : (w ys : List ℕ) (e : Ending) → answer_of strict w ≢ Err ExhaustedInput →
      decoded_of strict (w ++ ys) e ≡ decoded_before_end (answer_of strict w)
  unfolding decoded_of
  decoded-stays w ys e ne = let empty = laws.empty in let h = laws.stay w ys ne in grind arith

  pub yields_rest : (ended : Option Ending) (w : List ℕ) (d : Decoded Instruction) → Yields ended w d → (p r : ℕ) (xs : List ℕ) (stop : Stop) →
      decoded_of strict (rest_of ended w p r xs stop).image (rest_of ended w p r xs stop).ending ≡ d
  yields_rest None w d h p r xs stop = decoded-stays w (text_at p r xs stop).image (text_at p r xs stop).ending h.0 ∙ sym h.1
  yields_rest (Some e) w d h p r xs stop = sym h

  pub yields_shows : (ended : Option Ending) (w : List ℕ) (d : Decoded Instruction) → Yields ended w d → Shows strict d ended w
  unfolding decoded_of
  yields_shows ended w d h = let lengths = laws.lengths w in let more = decoded-stays w in grind arith

  pub yields_whole : (ended : Option Ending) (w s : List ℕ) (i : Instruction) → Ok i ≡ answer_of strict s → s ≡ w → Yields ended w (Whole i)
  unfolding decoded_of
  yields_whole ended w s i answer bytes = let empty = laws.empty in grind arith

  pub yields_refused : (ended : Option Ending) (w s : List ℕ) (error : DecodeError) → Err error ≡ answer_of strict s → s ≡ w →
      IsAtRefusal refusal.Refused error ended w → Yields ended w (Refused error)
  unfolding decoded_of
  yields_refused None w s error answer bytes at = grind arith
  yields_refused (Some e) w s error answer bytes at = let h = at.1 e refl in grind arith

  pub yields_ended : (ended : Option Ending) (w s : List ℕ) (error : DecodeError) (e : Ending) → Err error ≡ answer_of strict s → s ≡ w →
      IsAtRefusal refusal.Nothing error ended w → ended ≡ Some e → Yields ended w (Ended e)
  unfolding decoded_of
  yields_ended ended w s error e answer bytes at is = let h = at.1 e is in grind arith
