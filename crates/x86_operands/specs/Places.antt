-- Where the parts of an encoding end, as they are kept while it is read.
use Rattle.std.specs.Prelude.{ℕ, ◌%◌, false}
use Rattle.x86_arch.specs.Reader.{State}
use Rattle.x86_fields.specs.Steps.{Step, then_from, pure, ◌>>=◌}
use Rattle.x86_operands.specs.Vocabulary.{Position, Prefixes, Reading}
use Rattle.x86_operands.specs.declared.places.Places.{Places}
use Rattle.x86_operands.specs.Asks.{uses_suffix}
use Rattle.x86_operands.specs.Records.{Instance, RowRecord, order_of}
use Rattle.x86_operands.specs.RowSteps.{address_step, read_instance, read_modrm, refuse_fault}

abbrev pub no_places : Places
no_places = record { opcode_end = 0; address_end = 0; has_suffix = false }

-- a place is kept in a byte: an encoding has at most 15 bytes
abbrev pub place_of : ℕ → ℕ
place_of offset = offset % 256

-- the place after SIB and displacement, where they are next
abbrev pub place_after_address : Position → Prefixes → ℕ → State ℕ → ℕ
place_after_address at p m s = place_of (address_step at p m s).after.since_mark

-- the places, where what the instance has after ModRM is next
abbrev pub instance_places : Instance → Prefixes → ℕ → State ℕ → ℕ → Places
instance_places instance p m s opcode_end =
    record { opcode_end = opcode_end; address_end = place_after_address (order_of instance).rm p m s; has_suffix = uses_suffix instance.verdict }

-- what is read, and its places
abbrev pub Placed : Type 0
Placed = Reading × Places

-- what a record has after its ModRM, with the places
abbrev pub instance_placed : ℕ → Instance → Prefixes → ℕ → Step Placed
instance_placed opcode_end instance p m = λ s. then_from (read_instance instance p m s).answer (read_instance instance p m s).after
    (λ reading. pure (reading, instance_places instance p m s opcode_end))

-- what a row has after its opcode, with the places
unfoldable pub record_placed : ℕ → RowRecord → Prefixes → Step Placed
record_placed opcode_end r p = refuse_fault r.at_opcode >>= λ _. read_modrm r.modrm >>= λ m. instance_placed opcode_end (r.instance m) p m
