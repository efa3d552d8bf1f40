-- Conditions that hash from the same bytes are the same: the bytes are read back.
use Rattle.std.proofs.Common.{◌≡◌, ◌∙◌, ℕ, List, [], ◌∷◌, slice_index_or, ap, refl, sym}
use Rattle.std.specs.Hash.{le_bytes}
use Rattle.x86_opcodes.specs.declared.ConditionCode.{ConditionCode}
use Rattle.x86_opcodes.specs.declared.ConditionCode.TheVariants.{O, NO, B, AE, Z, NZ, A, BE, S, NS, P, NP, L, GE, G, LE}
use Rattle.x86_opcodes.specs.contracts.ConditionCodeHash.TheImpl as codes

abbrev code_at : ℕ → ConditionCode
code_at n = slice_index_or (O ∷ NO ∷ B ∷ AE ∷ Z ∷ NZ ∷ A ∷ BE ∷ S ∷ NS ∷ P ∷ NP ∷ L ∷ GE ∷ G ∷ LE ∷ []) n O

-- the condition that the first byte of the writes has
abbrev read : List (List ℕ) → ConditionCode
read writes = code_at (slice_index_or (slice_index_or writes 0 []) 0 0)

code_back : (c : ConditionCode) → read (codes.ghosts.hash_input c) ≡ c
unfolding le_bytes
code_back O = refl
code_back NO = refl
code_back B = refl
code_back AE = refl
code_back Z = refl
code_back NZ = refl
code_back A = refl
code_back BE = refl
code_back S = refl
code_back NS = refl
code_back P = refl
code_back NP = refl
code_back L = refl
code_back GE = refl
code_back G = refl
code_back LE = refl

pub codes_apart : (a b : ConditionCode) → codes.ghosts.hash_input a ≡ codes.ghosts.hash_input b → a ≡ b
codes_apart a b same = sym (code_back a) ∙ ap read same ∙ code_back b
