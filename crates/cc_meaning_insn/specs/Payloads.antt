-- The data that a switch or `fill-array-data` names (Dalvik bytecode, sections packed-switch-payload, sparse-switch-payload and fill-array-data-payload
-- format). Here `units` are those from the payload's own first one on.
use Rattle.std.specs.Prelude.{ℕ, ◌+◌, ◌*◌, ◌/◌, ◌%◌, nat_lt, ◌==◌, ◌||◌, Bool, if◌then◌else◌, List, [], ◌∷◌, length, take, slice_index, slice_range, Result, Ok, Err, ℤ}
use Rattle.cc_meaning.specs.declared.instruction.Insn.{Insn}
use Rattle.cc_meaning.specs.declared.instruction.Insn.TheVariants.{PackedPayload, SparsePayload, ArrayPayload}
use Rattle.cc_meaning.specs.declared.fault.InsnFault.{InsnFault}
use Rattle.cc_meaning.specs.declared.fault.InsnFault.TheVariants.{CutOff, BadPayload}
use Rattle.cc_meaning_insn.specs.Forms.{int_of, two_units_of}

-- signed numbers of two units each
unfoldable pub ints_of : List ℕ → List ℤ
ints_of [] = []
ints_of (low ∷ []) = []
ints_of (low ∷ high ∷ rest) = int_of low high ∷ ints_of rest

-- bytes, two in each unit, the lower first
unfoldable pub bytes_of : List ℕ → List ℕ
bytes_of [] = []
bytes_of (unit ∷ rest) = unit % 256 ∷ unit / 256 ∷ bytes_of rest

-- a switch's count of cases
abbrev pub case_count : List ℕ → ℕ
case_count units = slice_index units 1

-- packed: 0100, the count, the first key, and a target for each case
abbrev pub packed_size : List ℕ → ℕ
packed_size units = case_count units * 2 + 4

unfoldable pub packed_payload : List ℕ → Result (Insn × ℕ) InsnFault
packed_payload units =
    if nat_lt (length units) (packed_size units) then Err CutOff
    else Ok (PackedPayload (int_of (slice_index units 2) (slice_index units 3)) (ints_of (slice_range units 4 (packed_size units))), packed_size units)

-- sparse: 0200, the count, a key for each case, and a target for each
abbrev pub sparse_size : List ℕ → ℕ
sparse_size units = case_count units * 4 + 2

unfoldable pub sparse_payload : List ℕ → Result (Insn × ℕ) InsnFault
sparse_payload units =
    let middle = case_count units * 2 + 2 in
    if nat_lt (length units) (sparse_size units) then Err CutOff
    else Ok (SparsePayload (ints_of (slice_range units 2 middle)) (ints_of (slice_range units middle (sparse_size units))), sparse_size units)

-- array data: 0300, the width of an element in bytes, the count of elements in two units, and the bytes; an odd byte is followed by one that is unused
abbrev pub element_width : List ℕ → ℕ
element_width units = slice_index units 1

abbrev pub byte_count : List ℕ → ℕ
byte_count units = two_units_of (slice_index units 2) (slice_index units 3) * element_width units

abbrev pub array_size : List ℕ → ℕ
array_size units = (byte_count units + 1) / 2 + 4

-- the widths of numbers
abbrev pub is_width : ℕ → Bool
is_width n = n == 1 || n == 2 || n == 4 || n == 8

unfoldable pub array_payload : List ℕ → Result (Insn × ℕ) InsnFault
array_payload units =
    if nat_lt (length units) (array_size units) then Err CutOff
    else if is_width (element_width units)
    then Ok (ArrayPayload (element_width units) (take (byte_count units) (bytes_of (slice_range units 4 (array_size units)))), array_size units)
    else Err BadPayload
