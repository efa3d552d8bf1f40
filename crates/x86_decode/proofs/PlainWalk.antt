-- The short walk, where it reads an encoding: the row of an opcode byte, and what follows it.
use Rattle.std.proofs.Common.{◌≡◌, ◌≢◌, ℕ, Bool, Result, Ok, Err, OnOk, Option, None, Some, refl, arith}
use Rattle.x86_arch.specs.Reader.{State}
use Rattle.x86_fields.specs.declared.errors.DecodeError.{DecodeError}
use Rattle.x86_fields.specs.Steps.{Outcome, next_byte, outcome}
use Rattle.x86_forms.specs.declared.TableRow.{TableRow}
use Rattle.x86_groups.specs.declared.bytes.ByteRow.{ByteRow}
use Rattle.x86_groups.specs.declared.bytes.Choice.TheVariants.{Search}
use Rattle.x86_groups.specs.declared.bytes.Next.TheVariants.{Chosen, Nothing}
use Rattle.x86_groups.specs.Bytes.{IsByteRow, after_byte, says}
use Rattle.x86_groups.specs.Heads.{Continues}
use Rattle.x86_groups.specs.declared.bytes.Next.{Next}
use Rattle.x86_operands.specs.declared.heads.After.{After}
use Rattle.x86_operands.specs.OperandList.{value_if_ok}
use Rattle.x86_operands.specs.Records.{RowRecord}
use Rattle.x86_operands.specs.RowSteps.{read_modrm}
use Rattle.x86_decode.proofs.RowWalk.{reads_modrm}

-- an outcome where the answer is Ok
pub outcome_if_ok : {X : Type 0} (r : Result (Unit {0}) DecodeError) (x : X) (t : State ℕ) (whole : Outcome X) →
    outcome (value_if_ok r x) t ≡ whole → OnOk r (outcome (Ok x) t ≡ whole)
outcome_if_ok (Ok u) x t whole h = h
outcome_if_ok (Err e) x t whole h = tt

pub if_ok : (r : Result (Unit {0}) DecodeError) (A : Type 0) → A → OnOk r A
if_ok (Ok u) A h = h
if_ok (Err e) A h = tt

pub then_ok : (r : Result (Unit {0}) DecodeError) (A B : Type 0) → OnOk r A → (A → B) → OnOk r B
then_ok (Ok u) A B h f = f h
then_ok (Err e) A B h f = tt

pub all_ok : (r : Result (Unit {0}) DecodeError) (Holds : Bool → Type 0) → ((strict : Bool) → OnOk r (Holds strict)) →
    OnOk r ((strict : Bool) → Holds strict)
all_ok (Ok u) Holds h = h
all_ok (Err e) Holds h = tt

-- a byte whose row isn't searched has one
pub row_is_there : (r : Result (Unit {0}) DecodeError) (b : ByteRow) (o : Option TableRow) (Holds : Type 0) → says b o →
    OnOk r (b.next ≢ Chosen Search) → ((row : TableRow) → o ≡ Some row → IsByteRow b row → OnOk r Holds) → OnOk r Holds
row_is_there (Err e) b o Holds is some h = tt
row_is_there (Ok u) b None Holds is some h = absurd (some is)
row_is_there (Ok u) b (Some row) Holds is some h = h row refl is

-- ---- what follows the byte

has_fields : (n : Next) → n ≢ Nothing → after_byte n ≢ After.Nothing
has_fields n h e = grind (arith, h, e)

pub goes_on : (n : Next) → n ≢ Chosen Search → after_byte n ≢ After.Search
goes_on n h e = grind (arith, h, e)

pub reads_next : (n : Next) → n ≢ Nothing → n ≢ Chosen Search → (r : Result ℕ DecodeError) (s t : State ℕ) → outcome r t ≡ next_byte s →
    (rec : RowRecord) → Continues (after_byte n) rec → outcome r t ≡ read_modrm rec.modrm s
reads_next n bare apart = reads_modrm (after_byte n) (has_fields n bare) (goes_on n apart)
