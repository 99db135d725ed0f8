-- What is decoded names rows of the file alone.
use Rattle.std.proofs.Common.{◌≡◌, ℕ, zero, suc, ◌+◌, ◌%◌, Bool, true, false, List, [], ◌∷◌, length, drop, Some, Ok, Err, subst}
use Rattle.std.specs.Prelude.{slice_get, slice_index, nat_lt, ◌==◌, if◌then◌else◌, Result}
use Rattle.cc_meaning.specs.declared.fault.InsnFault.{InsnFault}
use Rattle.cc_meaning.specs.declared.fault.InsnFault.TheVariants as fault
use Rattle.cc_meaning.specs.declared.instruction.Insn.{Insn}
use Rattle.cc_meaning.specs.declared.instruction.Insn.TheVariants as insn
use Rattle.cc_meaning.specs.declared.instruction.MethodRef.{MethodRef}
use Rattle.cc_meaning.specs.declared.instruction.MethodRef.TheVariants as ref
use Rattle.cc_meaning.specs.declared.instruction.TypeRef.{TypeRef}
use Rattle.cc_meaning.specs.declared.instruction.TypeRef.TheVariants as type
use Rattle.cc_meaning.specs.declared.program.Placed.{Placed}
use Rattle.cc_meaning_insn.specs.declared.forms.Bare.{Bare}
use Rattle.cc_meaning_insn.specs.declared.forms.Bare.TheVariants as bare
use Rattle.cc_meaning_insn.specs.declared.forms.Constant.TheVariants as constant
use Rattle.cc_meaning_insn.specs.declared.forms.Distant.TheVariants as distant
use Rattle.cc_meaning_insn.specs.declared.forms.Listed as lists
use Rattle.cc_meaning_insn.specs.declared.forms.Listed.TheVariants as listed
use Rattle.cc_meaning_insn.specs.declared.forms.Named.TheVariants as named
use Rattle.cc_meaning_insn.specs.declared.forms.OneUnit.{OneUnit}
use Rattle.cc_meaning_insn.specs.declared.forms.OneUnit.TheVariants.{F10x, F12x, F11n, F11x, F10t}
use Rattle.cc_meaning_insn.specs.declared.forms.Opcode.{Opcode}
use Rattle.cc_meaning_insn.specs.declared.forms.Opcode.TheVariants.{Float, Unused, One, Two, Three, Five, Listed, Ranged}
use Rattle.cc_meaning_insn.specs.declared.forms.Pair.{Pair}
use Rattle.cc_meaning_insn.specs.declared.forms.Pair.TheVariants as pair
use Rattle.cc_meaning_insn.specs.declared.forms.PairNamed.TheVariants as pair_named
use Rattle.cc_meaning_insn.specs.declared.forms.Single.{Single}
use Rattle.cc_meaning_insn.specs.declared.forms.Single.TheVariants as single
use Rattle.cc_meaning_insn.specs.declared.forms.ThreeUnits.{ThreeUnits}
use Rattle.cc_meaning_insn.specs.declared.forms.ThreeUnits.TheVariants.{F30t, F32x, F31i, F31t, F31c}
use Rattle.cc_meaning_insn.specs.declared.forms.Triple.{Triple}
use Rattle.cc_meaning_insn.specs.declared.forms.Triple.TheVariants as triple
use Rattle.cc_meaning_insn.specs.declared.forms.TwoUnits.{TwoUnits}
use Rattle.cc_meaning_insn.specs.declared.forms.TwoUnits.TheVariants.{F20t, F22x, F21t, F21s, F21h, F21c, F23x, F22b, F22t, F22s, F22c}
use Rattle.cc_meaning_insn.specs.Decoded.{decoded, front_of, of_opcode}
use Rattle.cc_meaning_insn.specs.Forms.{of_bare, of_pair, of_single, of_triple, of_listed, one_unit, two_units, three_units, listed_units, ranged_units, high_half, high_byte}
use Rattle.cc_meaning_insn.specs.Opcodes.{opcode_at}
use Rattle.cc_meaning_insn.specs.Payloads.{packed_payload, sparse_payload, array_payload, packed_size, sparse_size, array_size, is_width, element_width}
use Rattle.cc_meaning_program.specs.Instructions.{StandFrom, AreInstructions}

abbrev IsRowRef : TypeRef → Type 0
IsRowRef (type.Row row) = Unit {0}
IsRowRef (type.Known known) = ⊥

abbrev IsMethodRow : MethodRef → Type 0
IsMethodRow (ref.Row row) = Unit {0}
IsMethodRow (ref.Known class method) = ⊥

-- a type or a method is named by its row
abbrev pub IsRaw : Insn → Type 0
IsRaw (insn.ConstClass to named) = IsRowRef named
IsRaw (insn.CheckCast object named) = IsRowRef named
IsRaw (insn.InstanceOf to object named) = IsRowRef named
IsRaw (insn.NewInstance to named) = IsRowRef named
IsRaw (insn.NewArray to size named) = IsRowRef named
IsRaw (insn.FilledNewArray named args) = IsRowRef named
IsRaw (insn.Invoke how named args) = IsMethodRow named
IsRaw other = Unit {0}

raw_bare : (form : Bare) → IsRaw (of_bare form)
raw_bare bare.Nop = tt
raw_bare bare.ReturnVoid = tt

raw_single : (form : Single) (a : ℕ) → IsRaw (of_single form a)
raw_single (single.MoveResult kind) a = tt
raw_single single.MoveException a = tt
raw_single (single.Return kind) a = tt
raw_single single.MonitorEnter a = tt
raw_single single.MonitorExit a = tt
raw_single single.Throw a = tt

raw_pair : (form : Pair) (a b : ℕ) → IsRaw (of_pair form a b)
raw_pair (pair.Move kind) a b = tt
raw_pair pair.ArrayLength a b = tt
raw_pair (pair.IntUnary op) a b = tt
raw_pair (pair.LongUnary op) a b = tt
raw_pair (pair.Convert op) a b = tt
raw_pair (pair.IntOp op) a b = tt
raw_pair (pair.LongOp op) a b = tt

raw_triple : (form : Triple) (a b c : ℕ) → IsRaw (of_triple form a b c)
raw_triple triple.CompareLong a b c = tt
raw_triple (triple.ArrayGet kind) a b c = tt
raw_triple (triple.ArrayPut kind) a b c = tt
raw_triple (triple.IntOp op) a b c = tt
raw_triple (triple.LongOp op) a b c = tt

raw_one : (form : OneUnit) (h : ℕ) → IsRaw (one_unit form h)
unfolding one_unit
raw_one (F10x form) h = raw_bare form
raw_one (F12x form) h = raw_pair form _ _
raw_one F11n h = tt
raw_one (F11x form) h = raw_single form h
raw_one F10t h = tt

raw_two : (form : TwoUnits) (h b : ℕ) → IsRaw (two_units form h b)
unfolding two_units
raw_two F20t h b = tt
raw_two (F22x kind) h b = tt
raw_two (F21t test) h b = tt
raw_two (F21s constant.Int) h b = tt
raw_two (F21s constant.Long) h b = tt
raw_two (F21h constant.Int) h b = tt
raw_two (F21h constant.Long) h b = tt
raw_two (F21c named.ConstText) h b = tt
raw_two (F21c named.ConstClass) h b = tt
raw_two (F21c named.CheckCast) h b = tt
raw_two (F21c named.NewInstance) h b = tt
raw_two (F21c (named.StaticGet kind)) h b = tt
raw_two (F21c (named.StaticPut kind)) h b = tt
raw_two (F23x form) h b = raw_triple form _ _ _
raw_two (F22b op reversed) h b = tt
raw_two (F22t test) h b = tt
raw_two (F22s op reversed) h b = tt
raw_two (F22c pair_named.InstanceOf) h b = tt
raw_two (F22c pair_named.NewArray) h b = tt
raw_two (F22c (pair_named.FieldGet kind)) h b = tt
raw_two (F22c (pair_named.FieldPut kind)) h b = tt

raw_three : (form : ThreeUnits) (h b c : ℕ) → IsRaw (three_units form h b c)
unfolding three_units
raw_three F30t h b c = tt
raw_three (F32x kind) h b c = tt
raw_three (F31i constant.Int) h b c = tt
raw_three (F31i constant.Long) h b c = tt
raw_three (F31t distant.FillArray) h b c = tt
raw_three (F31t distant.PackedSwitch) h b c = tt
raw_three (F31t distant.SparseSwitch) h b c = tt
raw_three F31c h b c = tt

raw_listed : (form : lists.Listed) (row : ℕ) (args : List ℕ) → IsRaw (of_listed form row args)
raw_listed listed.FilledNewArray row args = tt
raw_listed (listed.Invoke how) row args = tt

-- ---- what is decoded

abbrev GivesRaw : Result (Insn × ℕ) InsnFault → Type 0
GivesRaw (Ok made) = IsRaw made.0
GivesRaw (Err fault) = Unit {0}

choose : (b : Bool) (made : Insn) (size : ℕ) (cause : InsnFault) → IsRaw made → GivesRaw (if b then Err cause else Ok (made, size))
choose true made size cause raw = tt
choose false made size cause raw = raw

raw_opcode : (opcode : Opcode) (units : List ℕ) → GivesRaw (of_opcode opcode units)
unfolding of_opcode listed_units ranged_units
raw_opcode Float units = tt
raw_opcode Unused units = tt
raw_opcode (One form) units = choose (nat_lt (length units) 1) _ 1 fault.CutOff (raw_one form _)
raw_opcode (Two form) units = choose (nat_lt (length units) 2) _ 2 fault.CutOff (raw_two form _ _)
raw_opcode (Three form) units = choose (nat_lt (length units) 3) _ 3 fault.CutOff (raw_three form _ _ _)
raw_opcode Five units = choose (nat_lt (length units) 5) _ 5 fault.CutOff tt
raw_opcode (Listed form) units = few (nat_lt 5 (high_half (high_byte (slice_index units 0)))) _ (choose (nat_lt (length units) 3) _ 3 fault.CutOff (raw_listed form _ _))
  where
    few : (b : Bool) (made : Result (Insn × ℕ) InsnFault) → GivesRaw made → GivesRaw (if b then Err fault.Unused else made)
    few true made raw = tt
    few false made raw = raw
raw_opcode (Ranged form) units = choose (nat_lt (length units) 3) _ 3 fault.CutOff (raw_listed form _ _)

either : (b : Bool) (made other : Result (Insn × ℕ) InsnFault) → GivesRaw made → GivesRaw other → GivesRaw (if b then made else other)
either true made other raw more = raw
either false made other raw more = more

raw_packed : (units : List ℕ) → GivesRaw (packed_payload units)
unfolding packed_payload
raw_packed units = choose (nat_lt (length units) (packed_size units)) _ _ fault.CutOff tt

raw_sparse : (units : List ℕ) → GivesRaw (sparse_payload units)
unfolding sparse_payload
raw_sparse units = choose (nat_lt (length units) (sparse_size units)) _ _ fault.CutOff tt

raw_array : (units : List ℕ) → GivesRaw (array_payload units)
unfolding array_payload
raw_array units = either (nat_lt (length units) (array_size units)) _ _ tt (either (is_width (element_width units)) _ _ tt tt)

raw_front : (units : List ℕ) → GivesRaw (front_of units)
unfolding front_of
raw_front [] = tt
raw_front (first ∷ rest) = either (first == 256) _ _ (raw_packed (first ∷ rest)) (either (first == 512) _ _ (raw_sparse (first ∷ rest)) (either (first == 768) _ _ (raw_array (first ∷ rest)) (raw_opcode (opcode_at (first % 256)) (first ∷ rest))))

decoded_raw : (units : List ℕ) (at size : ℕ) (made : Insn) → decoded units at ≡ Ok (made, size) → IsRaw made
unfolding decoded
decoded_raw units at size made e = subst GivesRaw e (raw_front (drop at units))

stand_raw : (units : List ℕ) (at : ℕ) (all : List Placed) → StandFrom units at all → (k : ℕ) (placed : Placed) → slice_get all k ≡ Some placed → IsRaw placed.insn
stand_raw units _ _ StandFrom.none k placed e = absurd cc
stand_raw units at _ (StandFrom.next {size = size} {insn = made} inside is rest) zero placed e =
    subst (λ (p : Placed). IsRaw p.insn) (same e) (decoded_raw units at size made is)
  where
    same : {x y : Placed} → Some x ≡ Some y → x ≡ y
    same e = cc
stand_raw units at _ (StandFrom.next {size = size} {rest = others} inside is rest) (suc k) placed e = stand_raw units (at + size) others rest k placed e

-- each instruction of a method's units
pub all_raw : (units : List ℕ) (all : List Placed) → AreInstructions units all → (k : ℕ) (placed : Placed) → slice_get all k ≡ Some placed → IsRaw placed.insn
all_raw units all is = stand_raw units 0 all is
