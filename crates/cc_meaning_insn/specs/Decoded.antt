-- The instruction that stands at a place of the code, and the units that it takes, or why none stands there.
use Rattle.std.specs.Prelude.{ℕ, ◌%◌, nat_lt, ◌==◌, if◌then◌else◌, List, [], ◌∷◌, length, drop, slice_index, Result, Ok, Err}
use Rattle.cc_meaning.specs.declared.instruction.Insn.{Insn}
use Rattle.cc_meaning.specs.declared.instruction.Insn.TheVariants as insn
use Rattle.cc_meaning.specs.declared.fault.InsnFault.{InsnFault}
use Rattle.cc_meaning.specs.declared.fault.InsnFault.TheVariants as fault
use Rattle.cc_meaning_insn.specs.declared.forms.Opcode.{Opcode}
use Rattle.cc_meaning_insn.specs.declared.forms.Opcode.TheVariants.{Float, Unused, One, Two, Three, Five, Listed, Ranged}
use Rattle.cc_meaning_insn.specs.Opcodes.{opcode_at}
use Rattle.cc_meaning_insn.specs.Forms.{high_byte, high_half, one_unit, two_units, three_units, long_of, listed_units, ranged_units}
use Rattle.cc_meaning_insn.specs.Payloads.{packed_payload, sparse_payload, array_payload}

-- the instruction, if that many units are there
abbrev pub if_there : ℕ → List ℕ → Insn → Result (Insn × ℕ) InsnFault
if_there size units insn = if nat_lt (length units) size then Err fault.CutOff else Ok (insn, size)

-- What the units of an opcode spell, from the opcode's own on. The faults: an instruction of floating point; an unused opcode, or more than five
-- arguments one by one; and else the units end within the instruction.
unfoldable pub of_opcode : Opcode → List ℕ → Result (Insn × ℕ) InsnFault
of_opcode Float units = Err fault.Float
of_opcode Unused units = Err fault.Unused
of_opcode (One form) units = if_there 1 units (one_unit form (high_byte (slice_index units 0)))
of_opcode (Two form) units = if_there 2 units (two_units form (high_byte (slice_index units 0)) (slice_index units 1))
of_opcode (Three form) units = if_there 3 units (three_units form (high_byte (slice_index units 0)) (slice_index units 1) (slice_index units 2))
of_opcode Five units =
    if_there 5 units (insn.ConstLong (high_byte (slice_index units 0))
    (long_of (slice_index units 1) (slice_index units 2) (slice_index units 3) (slice_index units 4)))
of_opcode (Listed form) units =
    if nat_lt 5 (high_half (high_byte (slice_index units 0))) then Err fault.Unused
    else if_there 3 units (listed_units form (high_byte (slice_index units 0)) (slice_index units 1) (slice_index units 2))
of_opcode (Ranged form) units = if_there 3 units (ranged_units form (high_byte (slice_index units 0)) (slice_index units 1) (slice_index units 2))

-- What stands in front of these units. A unit whose low byte is 00 is `nop`, but 0100, 0200 and 0300 begin a payload.
unfoldable pub front_of : List ℕ → Result (Insn × ℕ) InsnFault
front_of [] = Err fault.CutOff
front_of (first ∷ rest) =
    if first == 256 then packed_payload (first ∷ rest)
    else if first == 512 then sparse_payload (first ∷ rest)
    else if first == 768 then array_payload (first ∷ rest)
    else of_opcode (opcode_at (first % 256)) (first ∷ rest)

-- The instruction at `at`, and how many units it takes. Of the faults that apply the first counts: `Float`, `Unused`, `CutOff`, `BadPayload`.
unfoldable pub decoded : List ℕ → ℕ → Result (Insn × ℕ) InsnFault
decoded units at = front_of (drop at units)

-- the instruction holds a list: what takes memory to read
abbrev pub HoldsList : Insn → Type 0
HoldsList (insn.FilledNewArray named args) = Unit {0}
HoldsList (insn.Invoke how named args) = Unit {0}
HoldsList (insn.PackedPayload first targets) = Unit {0}
HoldsList (insn.SparsePayload keys targets) = Unit {0}
HoldsList (insn.ArrayPayload width bytes) = Unit {0}
HoldsList _ = ⊥
