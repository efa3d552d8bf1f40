-- Tables of names.
use Rattle.std.proofs.Common.{◌≡◌, ℕ, ◌<◌, ◌≤◌, Bool, true, false, List, [], length, map, get_or, nat_le, refl, sym, ap, ◌∙◌}
use Rattle.std.proofs.lemmas.List.{get_or-map}
use Rattle.std.proofs.lemmas.List.Folds.{list_all_at}
use Rattle.std.proofs.lemmas.Bool.{leb-true}
use Rattle.x86_text.specs.declared.names.Name.{Name}
use Rattle.x86_text.specs.Names.{name_text, are_short}

abbrev pub nameless : {m : ℕ} → Name m
nameless = record { bytes = []; len = 0 }

module _ {m : ℕ} (names : List (Name m)) (n : ℕ) (inside : n < length names) where
  -- where a table has the texts in their order, the name at a number has the text at that number
  pub named : (texts : List (List ℕ)) → map name_text names ≡ texts → name_text (get_or names n nameless) ≡ get_or texts n []
  named texts table = sym (get_or-map name_text names n nameless [] inside) ∙ ap (λ (ts : List (List ℕ)). get_or ts n []) table

  pub short : (max : ℕ) → are_short max names ≡ true → (get_or names n nameless).len ≤ max
  short max all =
      let name : Name m = get_or names n nameless in
      leb-true name.len max (
      elim (nat_le name.len max) as (λ (b : Bool). nat_le name.len max ≡ b → b ≡ true) [
        | true ↦ λ e. refl
        | false ↦ λ e. absurd (let no = list_all_at (λ (n : Name m). nat_le n.len max) names n nameless inside e in cc)
      ] refl
      )
