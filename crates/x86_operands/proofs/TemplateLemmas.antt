-- The orders and the parts of sound templates.
use Rattle.std.proofs.Common.{◌≡◌, ◌<◌, List, ◌∙◌, length, get_or, ℕ, Bool, true, false, not, ◌||◌, if◌then◌else◌, refl, ap, arith}
use Rattle.std.specs.List.{list_all}
use Rattle.std.proofs.lemmas.Bool.{and_parts, eqb-true}
use Rattle.std.proofs.lemmas.List.Elements.{All-get_or}
use Rattle.std.proofs.lemmas.List.Sums.{AllPass-from_list_all}
use Rattle.x86_operands.specs.Vocabulary.{OperandEncoding, Order, Position, First, Second, Third, Fourth, ModrmUse, Nowhere}
use Rattle.x86_operands.specs.Vocabulary.{Prefixes, Size, TableRow, Template, Width, is_memory}
use Rattle.x86_operands.specs.RowVocabulary.{Place, TemplateRow}
use Rattle.x86_forms.specs.Words.{carried}
use Rattle.x86_operands.specs.Asks.{instance_ask, template_ask}
use Rattle.x86_operands.specs.Columns.{instance_of_row, is_placed}
use Rattle.x86_operands.specs.Records.{reads, template_instance}
use Rattle.x86_operands.specs.Encodings.{bytes_under, is_free, operation_size, resolved, size_bytes}
use Rattle.x86_operands.specs.Orders.{is_order, placed, positions, sequence_of}
use Rattle.x86_operands.specs.Templates.{fits_form, is_field, is_last, is_simple, is_read_at, is_sound, is_register_place}
use Rattle.x86_operands.specs.Templates.{has_address, has_free_sizes, is_sound_row, is_stack, size_at, somewhere, with_sizes}

-- ---- orders

in_place : (reg rm last extra : Position) (n : ℕ) → is_order (placed n reg rm last extra) ≡ true →
    positions (sequence_of (placed n reg rm last extra)) ≡ placed n reg rm last extra
in_place Nowhere Nowhere Nowhere Nowhere n h = ap (λ k. placed k Nowhere Nowhere Nowhere Nowhere) (eqb-true 0 n h)
in_place Nowhere Nowhere First Nowhere n h = ap (λ k. placed k Nowhere Nowhere First Nowhere) (eqb-true 1 n h)
in_place Nowhere Nowhere First Second n h = ap (λ k. placed k Nowhere Nowhere First Second) (eqb-true 2 n h)
in_place First Nowhere Nowhere Nowhere n h = ap (λ k. placed k First Nowhere Nowhere Nowhere) (eqb-true 1 n h)
in_place First Nowhere Second Nowhere n h = ap (λ k. placed k First Nowhere Second Nowhere) (eqb-true 2 n h)
in_place First Nowhere Second Third n h = ap (λ k. placed k First Nowhere Second Third) (eqb-true 3 n h)
in_place Second Nowhere First Nowhere n h = ap (λ k. placed k Second Nowhere First Nowhere) (eqb-true 2 n h)
in_place Nowhere First Nowhere Nowhere n h = ap (λ k. placed k Nowhere First Nowhere Nowhere) (eqb-true 1 n h)
in_place Nowhere First Second Nowhere n h = ap (λ k. placed k Nowhere First Second Nowhere) (eqb-true 2 n h)
in_place Nowhere Second First Nowhere n h = ap (λ k. placed k Nowhere Second First Nowhere) (eqb-true 2 n h)
in_place Nowhere First Second Third n h = ap (λ k. placed k Nowhere First Second Third) (eqb-true 3 n h)
in_place Second First Nowhere Nowhere n h = ap (λ k. placed k Second First Nowhere Nowhere) (eqb-true 2 n h)
in_place First Second Nowhere Nowhere n h = ap (λ k. placed k First Second Nowhere Nowhere) (eqb-true 2 n h)
in_place Second First Third Nowhere n h = ap (λ k. placed k Second First Third Nowhere) (eqb-true 3 n h)
in_place First Second Third Nowhere n h = ap (λ k. placed k First Second Third Nowhere) (eqb-true 3 n h)
in_place First Second Third Fourth n h = ap (λ k. placed k First Second Third Fourth) (eqb-true 4 n h)
in_place reg rm last extra n h = cc

-- an order has the positions of its sequence
pub in_order : (o : Order) → is_order o ≡ true → positions (sequence_of o) ≡ o
in_order o h = in_place o.reg o.rm o.last o.extra o.count h

-- ---- what is sound

not_true : (b : Bool) → not b ≡ true → b ≡ false
not_true b h = grind arith

pub record SoundParts (t : Template) : Type 0 where
  pub order : is_order t.order ≡ true
  pub last : is_field t.last ≡ false
  pub extra : is_field t.extra ≡ false

pub sound_parts : (t : Template) → is_sound t ≡ true → SoundParts t
sound_parts t h =
    let parts = and_parts (is_order t.order) _ h in
    let rest = and_parts (not (is_field t.last)) (not (is_field t.extra)) parts.1 in
    record { order = parts.0; last = not_true (is_field t.last) rest.0; extra = not_true (is_field t.extra) rest.1 }

pub sound_at : (rows : List TemplateRow) (n : ℕ) (d : TemplateRow) → n < length rows → list_all is_sound_row rows ≡ true → is_sound_row (get_or rows n d) ≡ true
sound_at rows n d below h = All-get_or (λ row. is_sound_row row ≡ true) rows n d below (AllPass-from_list_all is_sound_row rows h)

pub sound_template : (row : TemplateRow) → is_sound_row row ≡ true → is_sound row.template ≡ true
sound_template row h = (and_parts (is_sound row.template) _ h).0

stack_placed : (w : Width) (place : Place) (m : ℕ) → (not (is_stack w) || is_register_place place) ≡ true → is_placed place m ≡ true →
    (not (is_stack w) || not (is_memory m)) ≡ true
stack_placed w place m h e = grind arith

pub fits_placed : (row : TemplateRow) (m : ℕ) → is_sound_row row ≡ true → is_placed row.at.place m ≡ true → fits_form row.template m ≡ true
fits_placed row m h e = stack_placed row.template.rm row.at.place m (and_parts (is_sound row.template) _ h).1 e

pub record ReadParts (t : Template) (m : ℕ) : Type 0 where
  pub sound : SoundParts t
  pub last : is_last t.last ≡ true
  pub extra : somewhere t.order.extra ≡ false
  pub form : fits_form t m ≡ true

pub read_parts : (t : Template) (m : ℕ) → is_read_at t m ≡ true → ReadParts t m
read_parts t m h =
    let parts = and_parts (is_sound t) _ h in
    let rest = and_parts (is_simple t) (fits_form t m) parts.1 in
    let plain = and_parts (is_last t.last) (not (somewhere t.order.extra)) rest.0 in
    record { sound = sound_parts t parts.0; last = plain.0; extra = not_true (somewhere t.order.extra) plain.1; form = rest.1 }

-- ---- sizes

free_same : (s : Size) (o : ℕ) → is_free s ≡ true → operation_size s o ≡ s
free_same s o h = grind arith

free_in : (there : Bool) (a b : Size) (o : ℕ) → is_free a ≡ true → is_free b ≡ true →
    operation_size (if there then a else b) o ≡ (if there then a else b)
free_in true a b o h e = free_same a o h
free_in false a b o h e = free_same b o e

-- sizes that no operation decides are the same for each
pub sizes_by : (t : Template) (m o : ℕ) (p : Prefixes) → has_free_sizes t ≡ true → size_bytes (size_at t m) o p ≡ bytes_under (size_at t m) p
sizes_by t m o p h =
    let parts = and_parts (is_free t.in_memory) (is_free t.in_register) h in
    ap (λ s. bytes_under s p) (free_in (has_address t.order.rm m) t.in_memory t.in_register o parts.0 parts.1)

size_is_free : (s : Size) (o : ℕ) → is_free (operation_size s o) ≡ true
size_is_free s o = grind arith

pub sizes_are_free : (t : Template) (o : ℕ) → has_free_sizes (with_sizes t o) ≡ true
sizes_are_free t o = rw (size_is_free t.in_memory o, size_is_free t.in_register o) refl

put_in : (there : Bool) (a b : Size) (o : ℕ) →
    (if there then operation_size a o else operation_size b o) ≡ operation_size (if there then a else b) o
put_in true a b o = refl
put_in false a b o = refl

-- a template with the sizes of an operation has those that the template has for it
pub sizes_with : (t : Template) (m o : ℕ) (p : Prefixes) → bytes_under (size_at (with_sizes t o) m) p ≡ size_bytes (size_at t m) o p
sizes_with t m o p = ap (λ s. bytes_under s p) (put_in (has_address t.order.rm m) t.in_memory t.in_register o)

pub sized_instance : (t : Template) (n o : ℕ) (p : Prefixes) (m : ℕ) → has_free_sizes (with_sizes t o) ≡ true →
    template_instance (with_sizes t o) n o p m ≡ template_instance t n o p m
sized_instance t n o p m h = ap (λ k. reads o t n p k) (sizes_by (with_sizes t o) m o p h ∙ sizes_with t m o p)

-- a last one has nothing of the opcode byte
pub last_by : (c : OperandEncoding) (n k : ℕ) (p : Prefixes) → is_last c ≡ true → resolved c n p ≡ resolved c k p
last_by c n k p h = grind arith

-- what the instance of a row has, its template has
pub row_asks : (usage : ModrmUse) (row : TemplateRow) (own : TableRow) (p : Prefixes) (m : ℕ) → is_sound_row row ≡ true →
    template_ask usage m row.template (carried own.form) p row.verdict ≡ instance_ask usage m (instance_of_row row own p m)
row_asks usage row own p m h = rw (in_order row.template.order (sound_parts row.template (sound_template row h)).order) refl
