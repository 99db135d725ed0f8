-- What an instruction names, and where control goes from it.
use Rattle.std.specs.Prelude.{ℕ, zero, suc, ◌+◌, nat_le, nat_lt, ◌==◌, ◌&&◌, Bool, true, false, cond, List, [], ◌∷◌, map, find, Option, Some, None, slice_get, unwrap_or, codes, ℤ, pos, negsuc, ◌+ℤ◌}
use Rattle.std.specs.Str.{bytes_eq}
use Rattle.cc_meaning.specs.declared.instruction.Insn.{Insn}
use Rattle.cc_meaning.specs.declared.instruction.Insn.TheVariants as insn
use Rattle.cc_meaning.specs.declared.instruction.IntOp.{IntOp}
use Rattle.cc_meaning.specs.declared.instruction.IntOp.TheVariants as op
use Rattle.cc_meaning.specs.declared.instruction.TypeRef.{TypeRef}
use Rattle.cc_meaning.specs.declared.program.Base.{Base}
use Rattle.cc_meaning.specs.declared.program.Base.TheVariants as base
use Rattle.cc_meaning.specs.declared.program.Catch.{Catch}
use Rattle.cc_meaning.specs.declared.program.Class.{Class}
use Rattle.cc_meaning.specs.declared.program.ClassKind.{ClassKind}
use Rattle.cc_meaning.specs.declared.program.ClassKind.TheVariants as origin
use Rattle.cc_meaning.specs.declared.program.Code.{Code}
use Rattle.cc_meaning.specs.declared.program.DexType.{DexType}
use Rattle.cc_meaning.specs.declared.program.Method.{Method}
use Rattle.cc_meaning.specs.declared.program.Placed.{Placed}
use Rattle.cc_meaning.specs.declared.program.Program.{Program}
use Rattle.cc_meaning.specs.declared.program.Try.{Try}
use Rattle.cc_meaning.specs.BuiltIn.{string_name, throwable_name}
use Rattle.cc_meaning.specs.Lookup.{class_named}
use Rattle.cc_meaning_typing.specs.Types.{typed, class_type, fewer}

-- a method with code, in its program
pub record Body : Type 0 where
  pub program : Program
  pub method : Method
  pub code : Code

-- ---- types

unfoldable pub is_array_of : ℕ → Bool
is_array_of zero = false
is_array_of (suc dims) = true

-- whether a type is one of arrays
unfoldable pub is_array : DexType → Bool
is_array type = is_array_of type.dims

-- the type of an array's elements
unfoldable pub element_of : DexType → DexType
element_of type = typed (fewer type.dims) type.base

unfoldable pub string_type : Program → DexType
string_type program = class_type (unwrap_or (class_named string_name program) 0)

unfoldable pub throwable_type : Program → DexType
throwable_type program = class_type (unwrap_or (class_named throwable_name program) 0)

-- how many `[` a descriptor begins with, and what stands behind them
unfoldable pub brackets : List ℕ → ℕ
brackets [] = 0
brackets (unit ∷ units) = cond (unit == 91) (suc (brackets units)) 0

unfoldable pub behind_brackets : List ℕ → List ℕ
behind_brackets [] = []
behind_brackets (unit ∷ units) = cond (unit == 91) (behind_brackets units) (unit ∷ units)

unfoldable pub base_of : Program → List ℕ → Base
base_of program name =
    cond (bytes_eq name (codes "Z")) base.Boolean
    (cond (bytes_eq name (codes "B")) base.Byte
    (cond (bytes_eq name (codes "S")) base.Short
    (cond (bytes_eq name (codes "C")) base.Char
    (cond (bytes_eq name (codes "I")) base.Int
    (cond (bytes_eq name (codes "J")) base.Long
    (base.Class (unwrap_or (class_named name program) 0)))))))

unfoldable pub type_of_kind : Program → ℕ → ClassKind → List ℕ → DexType
type_of_kind program class origin.Array name = typed (brackets name) (base_of program (behind_brackets name))
type_of_kind program class _ name = class_type class

unfoldable pub type_of_found : Program → ℕ → Option Class → DexType
type_of_found program class None = class_type class
type_of_found program class (Some found) = type_of_kind program class found.kind found.name

-- the type that a class of the program is, an array among them
unfoldable pub type_of_class : Program → ℕ → DexType
type_of_class program class = type_of_found program class (slice_get program.classes class)

-- ---- addresses

unfoldable pub address_of : ℤ → Option ℕ
address_of (pos at) = Some at
address_of (negsuc n) = None

-- the address so many units from another, none before the first
unfoldable pub address : ℕ → ℤ → Option ℕ
address at offset = address_of (pos at +ℤ offset)

-- the instruction at an address
unfoldable pub placed_at : Code → ℕ → Option Placed
placed_at code at = find (λ (placed : Placed). placed.at == at) code.insns

unfoldable pub insn_of : Option Placed → Option Insn
insn_of None = None
insn_of (Some placed) = Some placed.insn

unfoldable pub insn_at : Code → Option ℕ → Option Insn
insn_at code None = None
insn_at code (Some at) = insn_of (placed_at code at)

unfoldable pub is_payload : Insn → Bool
is_payload (insn.PackedPayload first targets) = true
is_payload (insn.SparsePayload keys targets) = true
is_payload (insn.ArrayPayload width bytes) = true
is_payload _ = false

unfoldable pub type_made_by : Option Insn → Option TypeRef
type_made_by (Some (insn.NewInstance to named)) = Some named
type_made_by _ = None

-- the type that the `new-instance` at an address names
unfoldable pub type_made_at : Code → ℕ → Option TypeRef
type_made_at code at = type_made_by (insn_at code (Some at))

-- ---- successors

unfoldable pub targets_in : Bool → Option Insn → List ℤ
targets_in true (Some (insn.PackedPayload first targets)) = targets
targets_in false (Some (insn.SparsePayload keys targets)) = targets
targets_in _ _ = []

-- where the cases of a switch go
unfoldable pub case_targets : Code → ℕ → Bool → ℤ → List (Option ℕ)
case_targets code at packed target = map (address at) (targets_in packed (insn_at code (address at target)))

unfoldable pub successors_of : Code → ℕ → ℕ → Insn → List (Option ℕ)
successors_of code at next insn.ReturnVoid = []
successors_of code at next (insn.Return kind from) = []
successors_of code at next (insn.Throw object) = []
successors_of code at next (insn.Goto target) = address at target ∷ []
successors_of code at next (insn.If test left right target) = Some next ∷ address at target ∷ []
successors_of code at next (insn.IfZero test value target) = Some next ∷ address at target ∷ []
successors_of code at next (insn.Switch packed value target) = Some next ∷ case_targets code at packed target
successors_of code at next (insn.PackedPayload first targets) = []
successors_of code at next (insn.SparsePayload keys targets) = []
successors_of code at next (insn.ArrayPayload width bytes) = []
successors_of code at next _ = Some next ∷ []

-- where control goes from an instruction that doesn't throw: on, to its targets, or nowhere
unfoldable pub successors : Code → Placed → List (Option ℕ)
successors code placed = successors_of code placed.at (placed.at + placed.units) placed.insn

-- ---- handlers

unfoldable pub divides : IntOp → Bool
divides op.Div = true
divides op.Rem = true
divides _ = false

-- the instructions that can throw
unfoldable pub can_throw : Insn → Bool
can_throw (insn.Monitor enter object) = true
can_throw (insn.CheckCast object named) = true
can_throw (insn.ArrayLength to array) = true
can_throw (insn.NewInstance to named) = true
can_throw (insn.NewArray to length named) = true
can_throw (insn.FilledNewArray named args) = true
can_throw (insn.FillArray array target) = true
can_throw (insn.Throw object) = true
can_throw (insn.ArrayGet kind to array index) = true
can_throw (insn.ArrayPut kind from array index) = true
can_throw (insn.FieldGet kind to object field) = true
can_throw (insn.FieldPut kind from object field) = true
can_throw (insn.StaticGet kind to field) = true
can_throw (insn.StaticPut kind from field) = true
can_throw (insn.Invoke how named args) = true
can_throw (insn.IntOp op to left right) = divides op
can_throw (insn.LongOp op to left right) = divides op
can_throw (insn.IntLit op reversed to left literal) = divides op
can_throw _ = false

unfoldable pub catches_of : Option Try → List Catch
catches_of None = []
catches_of (Some try) = try.catches

-- the handlers of the first try that covers an address
unfoldable pub catches_at : Code → ℕ → List Catch
catches_at code at = catches_of (find (λ (try : Try). nat_le try.start at && nat_lt at try.end) code.tries)

-- where control goes from an instruction that throws
unfoldable pub handlers : Code → Placed → List Catch
handlers code placed = cond (can_throw placed.insn) (catches_at code placed.at) []
