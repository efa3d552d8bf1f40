use Rattle.std.proofs.Common.{◌≡◌, ℕ, ◌+◌, Option, Some, None, IfSome, option_map, slice_get, map, [], refl, sym, ap, ◌∙◌, arith}
use Rattle.std.proofs.lemmas.Option.{get_or_from_slice_get, slice_get-map, slice_get_within}
use Rattle.x86_opcodes.specs.Mnemonics.{Named, all_names, mnemonic}
use Rattle.x86_opcodes.proofs.NameLemmas.{found, numbered}
use Rattle.x86_opcodes.proofs.laws.names_are_in_the_order_of_their_numbers.Goals as goal

nth : (n : ℕ) (o : Option Named) → slice_get all_names n ≡ o → IfSome o (λ named. (named.opcode ≡ n) × (named.spelled ≡ mnemonic n))
unfolding mnemonic
nth n None e = tt
nth n (Some r) e =
    let at : r.opcode ≡ n + 0 = numbered all_names 0 n r refl e in
    let spelled = slice_get-map (λ r. r.spelled) all_names n ∙ ap (option_map (λ r. r.spelled)) e in (
      omega (arith, at),
      sym (found all_names 0 n n refl (slice_get_within all_names n r e) (omega arith)
          ∙ get_or_from_slice_get (map (λ s. s.spelled) all_names) n r.spelled [] spelled),
    )

pub returns : goal.returns
returns c n = nth n (slice_get all_names n) refl
