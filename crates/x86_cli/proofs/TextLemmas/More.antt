-- What a text is with more bytes after its own.
use Rattle.std.proofs.Common.{◌≡◌, ℕ, zero, ◌+◌, ◌-◌, ◌*◌, ◌≤◌, List, [], ◌∷◌, ◌++◌, length, take, drop, Option, Some, None, Bool, true}
use Rattle.std.proofs.Common.{false, if◌then◌else◌, refl, ◌∙◌, arith, ap, length-drop}
use Rattle.std.proofs.Math.Seq.{take-append-add}
use Rattle.std.proofs.lemmas.List.{take_all}
use Rattle.std.specs.Prelude.{replicate, is_some, ◌||◌}
use Rattle.std.specs.Option.{option_map}
use Rattle.x86_streams.specs.declared.text.reader.Ending.TheVariants.{Fault}
use Rattle.x86_streams.specs.Outside.Stop.{Stop, End, Failed}
use Rattle.x86_streams.specs.Text.{is_blank, value_of, image_of, bad_of, ends_in_half, paired, ending_by, text_at, text_of}

-- a list that begins with another
abbrev pub Continues : List ℕ → List ℕ → Type 0
Continues old new = (ys : List ℕ) × (new ≡ old ++ ys)

paired_more : (x y : Option ℕ) (old new : List ℕ) → Continues old new → Continues (paired x y old) (paired x y new)
paired_more (Some a) (Some b) old new h = (h.0, ap (λ s. (16 * a + b) ∷ s) h.1)
paired_more (Some a) None old new h = ([], refl)
paired_more None y old new h = ([], refl)

if_more : (c : Bool) (a b p q : List ℕ) → Continues a p → Continues b q → Continues (if c then a else b) (if c then p else q)
if_more true a b p q h k = h
if_more false a b p q h k = k

pub image_more : (bytes xs : List ℕ) → Continues (image_of bytes) (image_of (bytes ++ xs))
unfolding image_of
image_more [] xs = (image_of xs, refl)
image_more (a ∷ []) xs = (image_of (a ∷ xs), refl)
image_more (a ∷ b ∷ s) xs = if_more (is_blank a) _ _ _ _ (image_more (b ∷ s) xs) (paired_more (value_of a) (value_of b) _ _ (image_more s xs))

-- Thirty digits more are fifteen bytes more: fifteen pairs, or fourteen after the one that they complete.
abbrev pub zeros : List ℕ
zeros = replicate 30 48

abbrev pub Gains : List ℕ → List ℕ → Type 0
Gains old new = (ys : List ℕ) × (new ≡ old ++ ys) × (15 ≤ length ys)

half_gains : (c : Bool) (v : Option ℕ) → (if c || is_some v then None else Some zero) ≡ None →
    Gains [] (if c then image_of zeros else paired v (Some 0) (image_of (replicate 29 48)))
unfolding image_of value_of
half_gains true v e = (image_of zeros, refl, omega arith)
half_gains false (Some v) e = ((16 * v + 0) ∷ image_of (replicate 29 48), refl, omega arith)
half_gains false None e = cc

two_gain : (c : Bool) (v w p q : Option ℕ) (old new old' new' : List ℕ) →
    (if c then option_map (λ n. 1 + n) p else (if is_some v then (if is_some w then option_map (λ n. 2 + n) q else Some 1) else Some 0)) ≡ None →
    (p ≡ None → Gains old new) → (q ≡ None → Gains old' new') → Gains (if c then old else paired v w old') (if c then new else paired v w new')
two_gain true v w None q old new old' new' e h k = h refl
two_gain true v w (Some n) q old new old' new' e h k = cc
two_gain false (Some a) (Some b) p None old new old' new' e h k = let g = k refl in (g.0, ap (λ s. (16 * a + b) ∷ s) g.1, g.2)
two_gain false (Some a) (Some b) p (Some n) old new old' new' e h k = cc
two_gain false (Some a) None p q old new old' new' e h k = cc
two_gain false None w p q old new old' new' e h k = cc

pub image_gains : (bytes : List ℕ) → bad_of bytes ≡ None → Gains (image_of bytes) (image_of (bytes ++ zeros))
unfolding image_of bad_of value_of
image_gains [] e = (image_of zeros, refl, omega arith)
image_gains (a ∷ []) e = half_gains (is_blank a) (value_of a) e
image_gains (a ∷ b ∷ s) e = two_gain (is_blank a) (value_of a) (value_of b) (bad_of (b ∷ s)) (bad_of s) _ _ _ _ e (image_gains (b ∷ s)) (image_gains s)

-- texts

clear : (o : Option ℕ) (more : List ℕ) (half : Bool) (len : ℕ) → ending_by 0 o more half len Failed ≡ Fault → (o ≡ None) × (more ≡ [])
clear None [] half len e = (refl, refl)
clear None (x ∷ more) half len e = cc
clear (Some n) more half len e = cc

pub end_sound : (o : Option ℕ) (more : List ℕ) (half : Bool) (len : ℕ) → ending_by 0 o more half len End ≡ Fault → ⊥
end_sound None [] true len e = cc
end_sound None [] false len e = cc
end_sound None (x ∷ more) half len e = cc
end_sound (Some n) more half len e = cc

module _ (max : ℕ) (bytes : List ℕ) (faults : (text_of max bytes Failed).ending ≡ Fault) where
  is_clear : (bad_of (take max bytes) ≡ None) × (drop max bytes ≡ [])
  unfolding text_at
  is_clear = clear (bad_of (take max bytes)) (drop max bytes) (ends_in_half (take max bytes)) (length bytes) faults

  fits : length bytes ≤ max
  fits = omega (arith, ap length is_clear.1, length-drop max bytes)

  taken : (xs : List ℕ) → take max (bytes ++ xs) ≡ bytes ++ take (max - length bytes) xs
  taken xs = let e : max ≡ length bytes + (max - length bytes) = omega (arith, fits) in ap (λ n. take n (bytes ++ xs)) e
      ∙ take-append-add bytes xs (max - length bytes)

  pub text_more : (xs : List ℕ) (stop : Stop) → Continues (text_of max bytes Failed).image (text_of max (bytes ++ xs) stop).image
  unfolding text_at
  text_more xs stop = rw (taken xs, take_all max bytes fits) (image_more bytes (take (max - length bytes) xs))

  pub text_gains : length bytes + 30 ≤ max → Gains (text_of max bytes Failed).image (text_of max (bytes ++ zeros) Failed).image
  unfolding text_at
  text_gains room =
      let all : take (max - length bytes) zeros ≡ zeros = take_all (max - length bytes) zeros (omega (arith, room)) in
      rw (taken zeros, all, take_all max bytes fits) (image_gains bytes (rw (take_all max bytes fits) at is_clear.0))

  pub text_ends : (text_of max bytes End).ending ≡ Fault → ⊥
  unfolding text_at
  text_ends e = end_sound (bad_of (take max bytes)) (drop max bytes) (ends_in_half (take max bytes)) (length bytes) e

  pub end_image : (text_of max bytes End).image ≡ (text_of max bytes Failed).image
  unfolding text_at
  end_image = refl
