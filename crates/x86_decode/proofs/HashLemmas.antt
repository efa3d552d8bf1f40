-- Decoders that hash from the same bytes are the same: the choice is read back.
use Rattle.std.proofs.Common.{◌≡◌, ◌∙◌, ℕ, ◌==◌, Bool, true, false, List, [], slice_index_or, ap, refl, sym, arith}
use Rattle.std.specs.Hash.{le_bytes}
use Rattle.x86_decode.specs.declared.decoder.InstDecoder.{InstDecoder}
use Rattle.x86_decode.specs.contracts.decoder.InstDecoderHash.TheImpl as decoders

-- the choice that the first byte of the writes has
abbrev choice_in : List (List ℕ) → Bool
choice_in writes = slice_index_or (slice_index_or writes 0 []) 0 0 == 1

choice_back : (strict : Bool) → choice_in (decoders.ghosts.hash_input (record { strict = strict })) ≡ strict
unfolding le_bytes
choice_back true = refl
choice_back false = refl

pub decoders_apart : (a b : InstDecoder) → decoders.ghosts.hash_input a ≡ decoders.ghosts.hash_input b → a ≡ b
decoders_apart a b same =
    let strict : a.strict ≡ b.strict = sym (choice_back a.strict) ∙ ap choice_in same ∙ choice_back b.strict in
    grind (arith, strict)
