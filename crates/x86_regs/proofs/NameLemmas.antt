-- Each name in the printed lists is short.
use Rattle.std.proofs.Common.{◌≡◌, ℕ, zero, suc, ◌≤◌, Bool, true, nat_le, List, [], ◌∷◌, length, refl, arith}
use Rattle.std.specs.Prelude.{slice_get, unwrap_or}
use Rattle.std.specs.List.{list_all}
use Rattle.std.proofs.lemmas.Bool.{and_parts}
use Rattle.std.proofs.lemmas.Bool.Decides.{nat_tests}
use Rattle.x86_regs.specs.declared.RegisterClass.{RegisterClass}
use Rattle.x86_regs.specs.declared.RegisterClass.TheVariants.{B, W, D, RB, Q, CR, DR, S, X, Y, Z, ST, MM, K, EIP, RIP, EFlags, RFlags}
use Rattle.x86_regs.specs.Names.{names_of}

abbrev is_short : List ℕ → Bool
is_short name = nat_le (length name) 6

text_short : (names : List (List ℕ)) (n : ℕ) → list_all is_short names ≡ true → is_short (unwrap_or (slice_get names n) []) ≡ true
text_short [] n all = refl
text_short (x ∷ xs) zero all = (and_parts (is_short x) (list_all is_short xs) all).0
text_short (x ∷ xs) (suc n) all = text_short xs n (and_parts (is_short x) (list_all is_short xs) all).1

all_short : (c : RegisterClass) → list_all is_short (names_of c) ≡ true
all_short B = refl
all_short W = refl
all_short D = refl
all_short RB = refl
all_short Q = refl
all_short CR = refl
all_short DR = refl
all_short S = refl
all_short X = refl
all_short Y = refl
all_short Z = refl
all_short ST = refl
all_short MM = refl
all_short K = refl
all_short EIP = refl
all_short RIP = refl
all_short EFlags = refl
all_short RFlags = refl

pub name_short : (c : RegisterClass) (n : ℕ) → length (unwrap_or (slice_get (names_of c) n) []) ≤ 6
name_short c n = let e : is_short (unwrap_or (slice_get (names_of c) n) []) ≡ true = text_short (names_of c) n (all_short c) in grind (arith, nat_tests)
