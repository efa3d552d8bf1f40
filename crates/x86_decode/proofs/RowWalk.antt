-- What a row has after its opcode byte: at once, or by a search.
use Rattle.std.proofs.Common.{◌≡◌, ◌≢◌, ℕ, Bool, true, None, Result, Ok, Err, OnOk, false, refl, sym, ap, ◌∙◌}
use Rattle.x86_arch.specs.Reader.{State}
use Rattle.x86_fields.specs.declared.errors.DecodeError.{DecodeError}
use Rattle.x86_fields.specs.declared.prefixes.Prefixes.{Prefixes}
use Rattle.x86_fields.specs.Steps.{Outcome, outcome, then_from, next_byte}
use Rattle.x86_forms.specs.declared.TableRow.{TableRow}
use Rattle.x86_operands.specs.declared.heads.After.{After}
use Rattle.x86_operands.specs.declared.heads.After.TheVariants as after
use Rattle.x86_operands.specs.declared.vocabulary.ModrmUse.TheVariants.{EitherForm}
use Rattle.x86_operands.specs.declared.places.Places.{Places}
use Rattle.x86_operands.specs.declared.reader.Reading.{Reading}
use Rattle.x86_operands.specs.declared.templates.Template.{Template}
use Rattle.x86_operands.specs.Asks.{uses_suffix}
use Rattle.x86_operands.specs.OperandList.{value_if_ok}
use Rattle.x86_operands.specs.RowSteps.{read_modrm, read_instance}
use Rattle.x86_operands.specs.Places.{Placed, place_after_address, place_of, instance_placed, instance_places, record_placed}
use Rattle.x86_operands.specs.Records.{Instance, RowRecord, template_instance, order_of}
use Rattle.x86_operands.specs.Templates.{has_free_sizes, with_sizes}
use Rattle.x86_operands.proofs.TemplateLemmas.{sized_instance}
use Rattle.x86_operands.proofs.PlaceLemmas.{instance_is_placed}
use Rattle.x86_groups.specs.Groups.{record_of}
use Rattle.x86_groups.specs.declared.rows.SureRow.{SureRow}
use Rattle.x86_groups.specs.Heads.{Continues, IsSure}
use Rattle.x86_decode.specs.Walk.{instance_at, row_from, row_placed}

-- what follows a ModRM byte that was read
abbrev pub after_modrm : ℕ → Bool → TableRow → Prefixes → Result ℕ DecodeError → State ℕ → Outcome Placed
after_modrm n strict row p r s = then_from r s (λ m. instance_placed n (instance_at strict row p m) p m)

-- a row that refuses nothing at its opcode byte has what follows its ModRM
pub row_after_modrm : (s : State ℕ) (n : ℕ) (strict : Bool) (row : TableRow) (p : Prefixes) (r : Result ℕ DecodeError) (t : State ℕ) →
    (record_of strict row p).at_opcode ≡ None → outcome r t ≡ read_modrm (record_of strict row p).modrm s →
    after_modrm n strict row p r t ≡ row_from n strict row p s
unfolding record_placed
row_after_modrm s n strict row p r t passes read = rw passes (ap (λ o. after_modrm n strict row p o.answer o.after) read)

-- where the opcode byte ends here
pub from_here : {n k : ℕ} {s t : State ℕ} (strict : Bool) (row : TableRow) (p : Prefixes) → n ≡ place_of k → k ≡ s.since_mark → t ≡ s →
    row_from n strict row p t ≡ row_placed strict row p s
from_here strict row p e count same = rw (same, e ∙ ap place_of count) refl

-- no template has a suffix
pub no_suffix : (t : Template) (n o : ℕ) (p : Prefixes) (m : ℕ) → uses_suffix (template_instance t n o p m).verdict ≡ false
no_suffix t n o p m = refl

-- a row of a word is sure with the sizes that its operation decides
pub sized_is_sure : (row : TableRow) (m : ℕ) (u v : SureRow) → v.opcode ≡ u.opcode → v.register ≡ u.register →
    v.template.now ≡ with_sizes u.template.now u.opcode → has_free_sizes v.template.now ≡ true → IsSure row m u → IsSure row m v
sized_is_sure row m u v opcode register template free sure = record {
  at_once = record { small = rw register sure.at_once.small; fits = rw template sure.at_once.fits };
  instance = λ strict p.
      rw (opcode, register, template) (sized_instance u.template.now u.register u.opcode p m (rw template at free)) ∙ sure.instance strict p;
}

-- what was read by a template
pub read_placed : (result : Result (Unit {0}) DecodeError) (reading : Reading) (n a : ℕ) (suffix : Bool) (told instance : Instance)
    (p : Prefixes) (m : ℕ) (s t : State ℕ) → told ≡ instance → outcome (value_if_ok result reading) t ≡ read_instance told p m s →
    OnOk result (a ≡ place_after_address (order_of told).rm p m s) → suffix ≡ uses_suffix told.verdict →
    outcome (value_if_ok result (reading, record { opcode_end = n; address_end = a; has_suffix = suffix })) t ≡ instance_placed n instance p m s
read_placed (Ok x) reading n a suffix told instance p m s t same read address none =
    instance_is_placed (Ok x) reading (record { opcode_end = n; address_end = a; has_suffix = suffix }) n instance p m s t
    (read ∙ ap (λ k. read_instance k p m s) same)
    (let is : ◌≡◌ {A = Places} (record { opcode_end = n; address_end = a; has_suffix = suffix }) (instance_places instance p m s n) =
    rw (address ∙ ap (λ k. place_after_address (order_of k).rm p m s) same, none ∙ ap (λ k. uses_suffix k.verdict) same) refl in is)
read_placed (Err e) reading n a suffix told instance p m s t same read address none =
    instance_is_placed (Err e) reading (record { opcode_end = n; address_end = a; has_suffix = suffix }) n instance p m s t
    (read ∙ ap (λ k. read_instance k p m s) same) tt

-- ---- what follows an opcode byte

passes : (a : After) (r : RowRecord) → a ≢ after.Search → Continues a r → r.at_opcode ≡ None
passes after.Search r apart h = absurd (apart refl)
passes after.Nothing r apart h = h.0
passes after.Fields r apart h = h.0
passes after.Cells r apart h = h.0

has_modrm : (a : After) (r : RowRecord) → a ≢ after.Nothing → a ≢ after.Search → Continues a r → r.modrm ≡ EitherForm
has_modrm after.Search r bare apart h = absurd (apart refl)
has_modrm after.Nothing r bare apart h = absurd (bare refl)
has_modrm after.Fields r bare apart h = h.1
has_modrm after.Cells r bare apart h = h.1

pub reads_modrm : (a : After) → a ≢ after.Nothing → a ≢ after.Search → (r : Result ℕ DecodeError) (s t : State ℕ) → outcome r t ≡ next_byte s →
    (rec : RowRecord) → Continues a rec → outcome r t ≡ read_modrm rec.modrm s
reads_modrm a bare apart r s t e rec h = e ∙ ap (λ k. read_modrm k s) (sym (has_modrm a rec bare apart h))

-- a row of which ModRM was read, or isn't there
module _ (a : After) (apart : a ≢ after.Search) (s : State ℕ) (n : ℕ) (strict : Bool) (row : TableRow) (p : Prefixes)
    (begins : Continues a (record_of strict row p)) where
  pub after_begun : (r : Result ℕ DecodeError) (t : State ℕ) → ((rec : RowRecord) → Continues a rec → outcome r t ≡ read_modrm rec.modrm s) →
      after_modrm n strict row p r t ≡ row_from n strict row p s
  after_begun r t read = row_after_modrm s n strict row p r t (passes a (record_of strict row p) apart begins) (read (record_of strict row p) begins)
