use Rattle.std.proofs.Common.{◌≡◌, ℕ, List, ◌++◌, length, take, codes, decimal, ap, ◌∙◌, append_assoc, append-nil}
use Rattle.std.specs.List.{flat_map, sum_by}
use Rattle.x86_fields.specs.Parts.{PartLists, lists_of}
use Rattle.x86_text.specs.Parts.{in_order, spaced, fields_line}
use Rattle.x86_text.proofs.parts.push_fields.Goals as goal

-- eight parts, one after the other
all_parts : (f : List ℕ → List ℕ) (p : PartLists) (l0 l1 l2 l3 l4 l5 l6 l7 l8 : List ℕ) →
    l1 ≡ l0 ++ f p.prefixes → l2 ≡ l1 ++ f p.escape → l3 ≡ l2 ++ f p.opcode → l4 ≡ l3 ++ f p.modrm →
    l5 ≡ l4 ++ f p.sib → l6 ≡ l5 ++ f p.displacement → l7 ≡ l6 ++ f p.immediate → l8 ≡ l7 ++ f p.suffix →
    l8 ≡ l0 ++ flat_map f (in_order p)
all_parts f p l0 l1 l2 l3 l4 l5 l6 l7 l8 e1 e2 e3 e4 e5 e6 e7 e8 = rw (e8, e7, e6, e5, e4, e3, e2, e1) (simp (append_assoc, append-nil))

grouped : (a b c d e : List ℕ) → a ++ b ++ c ++ d ++ e ≡ a ++ (b ++ c ++ d ++ e)
grouped a b c d e = simp append_assoc

pub returns-clause-text : goal.returns-clause-text
unfolding fields_line
returns-clause-text g c =
    let p : PartLists = lists_of c.args.parts.now in
    let held = c.args.line.now.items in
    let start : take c.line.inside.len c.line.inside.cells ≡ held ++ decimal c.args.place.now = ap (λ r. r.items) c.line.view_is
    ∙ c.append.ensures.text ∙ ap (λ d. held ++ d) c.digits.ensures.text in
    let counted : take c.put_u64-at.result c.put_u64-at.new.cells ≡ held ++ decimal c.args.place.now ++ codes " " ++ decimal (sum_by length (in_order p)) =
    c.put_u64-at.ensures.text ∙ ap (λ l. l ++ decimal c.parts_length.result) (c.put-at.ensures.text ∙ ap (λ l. l ++ codes " ") start)
    ∙ ap (λ n. held ++ decimal c.args.place.now ++ codes " " ++ decimal n) c.parts_length.ensures in
    all_parts spaced p _ _ _ _ _ _ _ _ _ c.put_part-at.ensures.text c.put_part-at-2.ensures.text c.put_part-at-3.ensures.text c.put_part-at-4.ensures.text
    c.put_part-at-5.ensures.text c.put_part-at-6.ensures.text c.put_part-at-7.ensures.text c.put_part-line-inside.ensures.text
    ∙ ap (λ l. l ++ flat_map spaced (in_order p)) counted
    ∙ grouped held (decimal c.args.place.now) (codes " ") (decimal (sum_by length (in_order p))) (flat_map spaced (in_order p))
