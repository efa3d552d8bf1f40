use Rattle.std.proofs.Common.{◌≡◌, ◌≤◌, ◌∙◌, List, [], ◌∷◌, sym, get_or, length, ◌<◌, arith, codes, string_bytes}
use Rattle.std.specs.Cmp.Lexicographic.{same_text}
use Rattle.x86_cli.proofs.commands.request.made_from.Goals as goal

-- a list of two
two : {A : Type 0} (xs : List A) (a b : A) → 2 ≤ length xs → length xs < 3 → a ≡ get_or xs 0 a → b ≡ get_or xs 1 b → xs ≡ a ∷ b ∷ []
two (x ∷ y ∷ []) a b l m e f = cc
two xs a b l m e f = absurd (omega arith)

pub returns-in-len2-clause-found : goal.returns-in-len2-clause-found
returns-in-len2-clause-found c =
    let words = two c.args.words.now c.make-item.result c.count-item.result (omega arith) (omega arith) c.make-item.is c.count-item.is in
    let make : string_bytes c.make-item.result ≡ codes "make" = sym c.as_str.ensures.value ∙ same_text c.as_str.result.now (codes "make") c.if-eq.ensures in
    let found = rw c.as_str-in-len2.ensures.value at c.count_from.ensures.found in grind (arith, words)
