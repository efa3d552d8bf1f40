-- Which prefixes the rows of each opcode byte read, as letters in the order of the opcode maps (Intel SDM volume 2,
-- appendix A): a row for each high digit, a column for each low one.
use Rattle.std.specs.Prelude.{ℕ, ◌/◌, ◌%◌, ◌==◌, ◌||◌, List, [], ◌∷◌, codes, get_or, slice_index, if◌then◌else◌}
use Rattle.x86_opcodes.specs.Kinds.{is_among}
use Rattle.x86_forms.specs.declared.Map.{Map}
use Rattle.x86_forms.specs.declared.Map.TheVariants.{One, Of, Of38, Of3a}

-- the letter of an opcode byte
abbrev pub letter_at : List (List ℕ) → ℕ → ℕ
letter_at rows opcode = slice_index (get_or rows (opcode / 16) []) (opcode % 16)

-- The size of operands: `v` 8 bytes under W, else 2 under 66; `u` the same, and 66 is read beside W too; `y` 8 bytes
-- under W; `z` 2 bytes under 66, unless there is W; `r` as v in the register form; `g` by the operation.
abbrev pub sizes_of_One : List (List ℕ)
sizes_of_One =
    codes "-v-v-v---v-v-v--" ∷
    codes "-v-v-v---v-v-v--" ∷
    codes "-v-v-v---v-v-v--" ∷
    codes "-v-v-v---v-v-v--" ∷
    codes "----------------" ∷
    codes "zzzzzzzzzzzzzzzz" ∷
    codes "---u----zvzv-z-z" ∷
    codes "----------------" ∷
    codes "-v-v-v-v-v-vrvrz" ∷
    codes "gvvvvvvvvv--zz--" ∷
    codes "-v-v-v-v-v-v-v-v" ∷
    codes "--------vvvvvvvv" ∷
    codes "-vzz---gzzvv---v" ∷
    codes "-v-v-----g---g--" ∷
    codes "-----z-zzz---z-z" ∷
    codes "-------v-------g" ∷
    []

abbrev pub sizes_of_Of : List (List ℕ)
sizes_of_Of =
    codes "ggvv---y--------" ∷
    codes "--------gvgggvgv" ∷
    codes "----------g-gg--" ∷
    codes "-----y----------" ∷
    codes "vvvvvvvvvvvvvvvv" ∷
    codes "y---------------" ∷
    codes "--------------g-" ∷
    codes "--------------g-" ∷
    codes "zzzzzzzzzzzzzzzz" ∷
    codes "----------------" ∷
    codes "zz-vvv--zz-vvvgv" ∷
    codes "-vuvuuvvvvvvggvv" ∷
    codes "-v-y---gvvvvvvvv" ∷
    codes "-------y--------" ∷
    codes "----------------" ∷
    codes "---------------v" ∷
    []

-- a code of a text of one character
abbrev pub letter : List ℕ → ℕ
letter text = slice_index text 0

abbrev pub size_letter : Map → ℕ → ℕ
size_letter One opcode = letter_at sizes_of_One opcode
size_letter Of opcode = letter_at sizes_of_Of opcode
size_letter Of38 opcode = if is_among (0xf0 ∷ 0xf1 ∷ []) opcode then letter (codes "g")
    else (if is_among (0xf5 ∷ 0xf6 ∷ 0xf9 ∷ []) opcode then letter (codes "y") else letter (codes "-"))
size_letter Of3a opcode = if is_among (0x16 ∷ 0x22 ∷ 0x60 ∷ 0x61 ∷ []) opcode then letter (codes "y") else letter (codes "-")

-- The prefixes that choose among rows: `a` 66, F2 and F3; `3` F3; `g` by the group.
abbrev pub choosers_of_Of : List (List ℕ)
choosers_of_Of =
    codes "-g-------3------" ∷
    codes "aaaaaaaag-----g-" ∷
    codes "--------aaaaaaaa" ∷
    codes "----------------" ∷
    codes "----------------" ∷
    codes "aaaaaaaaaaaaaaaa" ∷
    codes "aaaaaaaaaaaaaaaa" ∷
    codes "aaaaaaa-aaaaaaaa" ∷
    codes "----------------" ∷
    codes "----------------" ∷
    codes "--------------a-" ∷
    codes "--------3---33--" ∷
    codes "--a-aaag--------" ∷
    codes "aaaaaaaaaaaaaaaa" ∷
    codes "aaaaaaaaaaaaaaaa" ∷
    codes "aaaaaaaaaaaaaaa-" ∷
    []

-- In the one-byte map F3 chooses PAUSE at 90.
abbrev pub chooser_letter : Map → ℕ → ℕ
chooser_letter One opcode = if opcode == 0x90 then letter (codes "3") else letter (codes "-")
chooser_letter Of opcode = letter_at choosers_of_Of opcode
chooser_letter map opcode = letter (codes "a")
