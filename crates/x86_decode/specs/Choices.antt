-- Where the default and the strict decoder differ, over any table.
use Rattle.std.specs.Prelude.{◌≡◌, ℕ, ◌≤◌, true, Some, List, [], ◌∷◌, ◌++◌, length}
use Rattle.x86_fields.specs.Run.{reading_of}
use Rattle.x86_forms.specs.declared.Map.{Map}
use Rattle.x86_forms.specs.declared.TableRow.{TableRow}
use Rattle.x86_groups.specs.Groups.{IsFenceWithRm}
use Rattle.x86_decode.specs.Head.{Rows, is_run, column_of, escape_bytes, is_opcode, seen_by}

module _ (rows : Rows) where
  -- A run, an escape, the opcode byte of a row, and ModRM: LFENCE, MFENCE or SFENCE, with an rm other than 0.
  pub record IsFence (q : List ℕ) : Type 0 where
    pub run : List ℕ
    pub map : Map
    pub opcode : ℕ
    pub row : TableRow
    pub modrm : ℕ
    pub spelled : q ≡ run ++ (escape_bytes map ++ opcode ∷ modrm ∷ [])
    pub prefixes : is_run run ≡ true
    pub in_map : is_opcode map opcode ≡ true
    pub has_row : rows map (column_of (reading_of run)) opcode ≡ Some row
    pub names : IsFenceWithRm row.form (seen_by map opcode (reading_of run)) modrm

  -- The input begins with such a fence, of at most 15 bytes.
  pub record BeginsWithFence (input : List ℕ) : Type 0 where
    pub fence : List ℕ
    pub rest : List ℕ
    pub begins : input ≡ fence ++ rest
    pub is : IsFence fence
    pub short : length fence ≤ 15
