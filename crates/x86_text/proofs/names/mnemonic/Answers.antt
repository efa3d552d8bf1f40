use Rattle.std.proofs.Common.{◌≡◌, ℕ, List, [], map, IfSome, refl, ap, ◌∙◌, subst}
use Rattle.std.proofs.lemmas.List.{get_or-map}
use Rattle.std.proofs.lemmas.Option.{slice_get-get_or}
use Rattle.x86_opcodes.specs.Mnemonics.{Named, all_names, mnemonic}
use Rattle.x86_text.specs.Names.{name_text}
use Rattle.x86_text.specs.declared.mnemonics.TheConstants.{MNEMONICS}
use Rattle.x86_text.proofs.NameLemmas.{named, short}
use Rattle.x86_text.proofs.names.mnemonic.Goals as goal

abbrev spelled : Named → List ℕ
spelled named = named.spelled

-- the table has the names as spelled
table_is : map name_text MNEMONICS ≡ map spelled all_names
table_is = refl

pub returns-clause-text : goal.returns-clause-text
returns-clause-text c =
    let n = c.number.result in
    let known = c.number.ensures.named in
    let unnamed : Named = record { opcode = 0; spelled = [] } in
    let at = subst (λ o. IfSome o (λ named. (named.opcode ≡ n) × (named.spelled ≡ mnemonic n))) (slice_get-get_or all_names n unnamed known)
    (c.names_are_in_the_order_of_their_numbers.ensures n) in
    named MNEMONICS n known (map spelled all_names) table_is
    ∙ get_or-map spelled all_names n unnamed [] known ∙ at.1 ∙ ap mnemonic c.number.ensures.value

pub returns-clause-short : goal.returns-clause-short
returns-clause-short c = short MNEMONICS c.number.result c.number.ensures.named 16 refl
