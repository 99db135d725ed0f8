-- What is known at an address: of each register, and of what is pending.
use Rattle.std.specs.Prelude.{ℕ, zero, suc, ◌-◌, ◌==◌, cond, List, [], ◌∷◌, ◌++◌, length, replicate, slice_index_or, slice_set, map, flat_map}
use Rattle.cc_meaning.specs.declared.instruction.Kind.{Kind}
use Rattle.cc_meaning.specs.declared.instruction.Kind.TheVariants as kind
use Rattle.cc_meaning.specs.declared.program.Code.{Code}
use Rattle.cc_meaning.specs.declared.program.DexType.{DexType}
use Rattle.cc_meaning.specs.declared.program.Method.{Method}
use Rattle.cc_meaning.specs.declared.program.Program.{Program}
use Rattle.cc_meaning.specs.declared.program.RegType.{RegType}
use Rattle.cc_meaning.specs.declared.program.RegType.TheVariants.{Unset, LongLow, LongHigh, Reference, Fresh}
use Rattle.cc_meaning.specs.Kinds.{kind_of}
use Rattle.cc_meaning_typing.specs.declared.state.Pending.{Pending}
use Rattle.cc_meaning_typing.specs.declared.state.Pending.TheVariants.{Nothing, Result, Exception}
use Rattle.cc_meaning_typing.specs.declared.state.State.{State}
use Rattle.cc_meaning_typing.specs.Types.{class_type, IsBelow, is_same_type, least_above}
use Rattle.cc_meaning_typing.specs.Registers.{Covers, join, register_of}

-- ---- covering

-- nothing pending covers all, a pending result itself, and a pending exception one whose type is below its own
pub data PendingCovers (program : Program) : Pending → Pending → Type 0 where
  nothing : {a : Pending} → PendingCovers program Nothing a
  same_pending : {a : Pending} → PendingCovers program a a
  exceptions : {type above : DexType} → IsBelow program type above → PendingCovers program (Exception above) (Exception type)

-- register by register, as many of them
pub data AllCover (program : Program) : List RegType → List RegType → Type 0 where
  none : AllCover program [] []
  each : {b a : RegType} {bs as' : List RegType} → Covers program b a → AllCover program bs as' → AllCover program (b ∷ bs) (a ∷ as')

-- the first state covers the second
pub record StateCovers (program : Program) (u s : State) : Type 0 where
  pub registers : AllCover program u.registers s.registers
  pub pending : PendingCovers program u.pending s.pending

-- ---- the least state that covers two

-- nothing is pending but the same result, or of two exceptions one of the least type that both are below
unfoldable pub join_pending : Program → Pending → Pending → Pending
join_pending program (Result a) (Result b) = cond (is_same_type a b) (Result a) Nothing
join_pending program (Exception a) (Exception b) = Exception (least_above program a b)
join_pending program _ _ = Nothing

unfoldable pub join_registers : Program → List RegType → List RegType → List RegType
join_registers program (b ∷ u) (a ∷ s) = join program b a ∷ join_registers program u s
join_registers program _ _ = []

-- the least state that covers two with as many registers
unfoldable pub join_states : Program → State → State → State
join_states program u s = record { registers = join_registers program u.registers s.registers; pending = join_pending program u.pending s.pending }

-- ---- reading

-- what is known of a register, nothing past the last one
abbrev pub register_at : List RegType → ℕ → RegType
register_at registers r = slice_index_or registers r Unset

-- ---- writing

unfoldable pub without_low : RegType → RegType
without_low LongLow = Unset
without_low a = a

unfoldable pub without_high : RegType → RegType
without_high LongHigh = Unset
without_high a = a

-- the second half of a long behind a register that is written is lost
unfoldable pub clear_behind : List RegType → ℕ → List RegType
clear_behind registers r = slice_set registers (suc r) (without_high (register_at registers (suc r)))

-- the first half of a long before a register that is written is lost
unfoldable pub clear_before : List RegType → ℕ → List RegType
clear_before registers zero = registers
clear_before registers (suc r) = slice_set registers r (without_low (register_at registers r))

-- one register is written
unfoldable pub write : List RegType → ℕ → RegType → List RegType
write registers r a = slice_set (clear_before (clear_behind registers r) r) r a

-- a long is written into a register and the next one
unfoldable pub write_long : List RegType → ℕ → List RegType
write_long registers r = slice_set (slice_set (clear_before (clear_behind registers (suc r)) r) r LongLow) (suc r) LongHigh

-- ---- objects that aren't constructed yet

unfoldable pub without_fresh : ℕ → RegType → RegType
without_fresh at (Fresh a) = cond (a == at) Unset (Fresh a)
without_fresh at a = a

-- the objects that were made at an address before are lost
unfoldable pub forget_fresh : List RegType → ℕ → List RegType
forget_fresh registers at = map (without_fresh at) registers

unfoldable pub constructed : ℕ → DexType → RegType → RegType
constructed at type (Fresh a) = cond (a == at) (Reference type) (Fresh a)
constructed at type a = a

-- the object that was made at an address is constructed, in all registers
unfoldable pub construct : List RegType → ℕ → DexType → List RegType
construct registers at type = map (constructed at type) registers

-- ---- the opening state

unfoldable pub registers_of_kind : RegType → Kind → List RegType
registers_of_kind a kind.Wide = LongLow ∷ LongHigh ∷ []
registers_of_kind a _ = a ∷ []

-- the registers of a parameter
unfoldable pub registers_of : Program → DexType → List RegType
registers_of program type = registers_of_kind (register_of program type) (kind_of type)

-- the registers of a method's arguments, the receiver's first
unfoldable pub argument_registers : Program → Method → List RegType
argument_registers program method = cond method.is_static [] (register_of program (class_type method.class) ∷ []) ++ flat_map (registers_of program) method.params

-- As a method begins its last registers hold the arguments; nothing is known of the others, and nothing is pending.
unfoldable pub opening : Program → Method → Code → State
opening program method code = record {
  registers = replicate (code.registers - length (argument_registers program method)) Unset ++ argument_registers program method;
  pending = Nothing;
}
