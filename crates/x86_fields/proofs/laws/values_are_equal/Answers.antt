use Rattle.std.proofs.Common.{◌≡◌, Bool, true, ℕ, ℤ, Option, Some, None, rules, refl, sym, ap, ◌∙◌, true≢false}
use Rattle.std.specs.Cmp.{booleans_Decides}
use Rattle.std.proofs.lemmas.Bool.Decides.{Decides-eqb, Decides-int_eq}
use Rattle.std.specs.Option.{option_eq}
use Rattle.std.proofs.lemmas.Bool.{and_parts}
use Rattle.x86_regs.specs.declared.Segment.{Segment}
use Rattle.x86_fields.specs.declared.prefixes.Prefixes.{Prefixes}
use Rattle.x86_fields.specs.declared.rex.PrefixRex.{PrefixRex}
use Rattle.x86_fields.specs.declared.raw.Raw.{Raw}
use Rattle.x86_fields.specs.declared.repeat.Repeat.{Repeat}
use Rattle.x86_fields.specs.contracts.prefixes.PrefixesPartialEq.TheImpl as prefixes
use Rattle.x86_fields.specs.contracts.prefixes.PrefixesEq.TheImpl.Laws as prefixes_laws
use Rattle.x86_fields.specs.contracts.raw.RawPartialEq.TheImpl as raw
use Rattle.x86_fields.specs.contracts.raw.RawEq.TheImpl.Laws as raw_laws
use Rattle.x86_regs.specs.contracts.SegmentPartialEq.TheImpl as segment
use Rattle.x86_fields.specs.contracts.repeat.RepeatPartialEq.TheImpl as repeat
use Rattle.x86_fields.specs.contracts.rex.LiveRexPartialEq.TheImpl as live
use Rattle.x86_fields.specs.Rex.{rex_byte, rex_named}
use Rattle.x86_fields.proofs.RunLemmas.{cong6, same_prefixes}
use Rattle.x86_fields.proofs.laws.values_are_equal.Goals as goal

option_same : {K : Type 0} (E : K → K → Bool) → ((x y : K) → E x y ≡ true → x ≡ y) → (p q : Option K) → option_eq E p q ≡ true → p ≡ q
option_same E same None None h = refl
option_same E same None (Some y) h = absurd (true≢false (sym h))
option_same E same (Some x) None h = absurd (true≢false (sym h))
option_same E same (Some x) (Some y) h = ap Some (same x y h)

segment_same : (x y : Segment) → segment.ghosts.eq x y ≡ true → x ≡ y
segment_same x y h = search rules

repeat_same : (x y : Repeat) → repeat.ghosts.eq x y ≡ true → x ≡ y
repeat_same x y h = search rules

-- the bits of a byte are its bits
bits_back : (x : Option PrefixRex) → rex_named (Some (rex_byte x)) ≡ x
bits_back None = refl
bits_back (Some x) = search rules

rex_same : (x y : Option PrefixRex) → live.ghosts.eq x y ≡ true → x ≡ y
rex_same x y h = sym (bits_back x) ∙ ap (λ b. rex_named (Some b)) ((Decides-eqb (rex_byte x) (rex_byte y)).0 h) ∙ bits_back y

-- the fields of prefixes that are found equal
prefixes_same : (a b : Prefixes) → prefixes.ghosts.eq a b ≡ true → a ≡ b
prefixes_same a b h =
    let h0 = and_parts _ _ h in
    let h1 = and_parts _ _ h0.1 in
    let h2 = and_parts _ _ h1.1 in
    let h3 = and_parts _ _ h2.1 in
    let h4 = and_parts _ _ h3.1 in
    same_prefixes ((booleans_Decides _ _).0 h0.0) ((booleans_Decides _ _).0 h1.0) ((booleans_Decides _ _).0 h2.0)
    (option_same repeat.ghosts.eq repeat_same _ _ h3.0) (segment_same _ _ h4.0) (rex_same _ _ h4.1)

pub returns-clause-prefixes : goal.returns-clause-prefixes
returns-clause-prefixes c a b = (prefixes_same a b, λ e. ap (λ x. prefixes.ghosts.eq a x) (sym e) ∙ prefixes_laws.laws-law.refl a)

raw_same : (a b : Raw) → raw.ghosts.eq a b ≡ true → a ≡ b
raw_same a b h =
    let h0 = and_parts _ _ h in
    let h1 = and_parts _ _ h0.1 in
    let h2 = and_parts _ _ h1.1 in
    let h3 = and_parts _ _ h2.1 in
    let h4 = and_parts _ _ h3.1 in
    let make : Bool → Bool → Bool → ℕ → Option ℕ → ℤ → Raw = λ b x s m i d. record { rex_b = b; rex_x = x; address_size = s; modrm = m; sib = i; disp = d } in
    cong6 make ((booleans_Decides _ _).0 h0.0) ((booleans_Decides _ _).0 h1.0) ((booleans_Decides _ _).0 h2.0)
    ((Decides-eqb _ _).0 h3.0) (option_same _ (λ x y. (Decides-eqb x y).0) _ _ h4.0) ((Decides-int_eq _ _).0 h4.1)

pub returns-clause-raw : goal.returns-clause-raw
returns-clause-raw c a b = (raw_same a b, λ e. ap (λ x. raw.ghosts.eq a x) (sym e) ∙ raw_laws.laws-law.refl a)
