use Rattle.std.proofs.Common.{◌≡◌, ℕ, ◌<◌, ◌≤◌, Bool, true, false, List, [], map, length, IfSome, refl, ap, ◌∙◌, subst, get_or, nat_le}
use Rattle.std.specs.List.{list_all}
use Rattle.std.proofs.lemmas.Bool.{leb-true}
use Rattle.std.proofs.lemmas.List.Folds.{list_all_at}
use Rattle.std.proofs.lemmas.List.{get_or-map}
use Rattle.std.proofs.lemmas.Option.{slice_get-get_or}
use Rattle.x86_opcodes.specs.Mnemonics.{Named, all_names, mnemonic}
use Rattle.x86_objdump.specs.declared.text.names.Entry.{Entry}
use Rattle.x86_objdump.specs.declared.text.tables.TheConstants.{ENTRIES}
use Rattle.x86_objdump.specs.Text.Entries.{rows, entry_in, entry_for}
use Rattle.x86_objdump.proofs.text.names.entry_for.Goals as goal

abbrev entry_named : Named → Entry
entry_named named = entry_in rows named.opcode named.spelled

abbrev none : Entry
none = record { bytes = []; len = 0; letters = [] }

-- the table has the entries of the names
table_is : ENTRIES ≡ map entry_named all_names
table_is = refl

-- no name is longer than its block
abbrev are_short : List Entry → Bool
are_short es = list_all (λ (e : Entry). nat_le e.len 16) es

short : (es : List Entry) (n : ℕ) → n < length es → are_short es ≡ true → (get_or es n none).len ≤ 16
short es n inside all =
    let entry : Entry = get_or es n none in
    leb-true entry.len 16 (
    elim (nat_le entry.len 16) as (λ (b : Bool). nat_le entry.len 16 ≡ b → b ≡ true) [
      | true ↦ λ e. refl
      | false ↦ λ e. absurd (let no = list_all_at (λ (n : Entry). nat_le n.len 16) es n none inside e in cc)
    ] refl
    )

pub returns-clause-is : goal.returns-clause-is
unfolding entry_for
returns-clause-is c =
    let n = c.number.result in
    let known = c.number.ensures.named in
    let unnamed : Named = record { opcode = 0; spelled = [] } in
    let at = subst (λ o. IfSome o (λ named. (named.opcode ≡ n) × (named.spelled ≡ mnemonic n))) (slice_get-get_or all_names n unnamed known)
    (c.names_are_in_the_order_of_their_numbers.ensures n) in
    ap (λ (es : List Entry). get_or es n none) table_is ∙ get_or-map entry_named all_names n unnamed none known
    ∙ (λ i. entry_in rows (at.0 i) (at.1 i)) ∙ ap (λ o. entry_in rows o (mnemonic o)) c.number.ensures.value

pub returns-clause-short : goal.returns-clause-short
returns-clause-short c = short ENTRIES c.number.result c.number.ensures.named refl
