-- The rule of each instruction: what it needs of the state before it, and the state that it gives.
use Rattle.std.specs.Prelude.{◌≡◌, ◌⊎◌, ℕ, zero, suc, ◌<◌, Bool, true, List, [], ◌∷◌, Option, Some, None, slice_get, codes, ℤ, pos, negsuc}
use Rattle.std.specs.Str.{bytes_eq}
use Rattle.cc_meaning.specs.declared.instruction.Conversion.{Conversion}
use Rattle.cc_meaning.specs.declared.instruction.Conversion.TheVariants as conversion
use Rattle.cc_meaning.specs.declared.instruction.How.{How}
use Rattle.cc_meaning.specs.declared.instruction.How.TheVariants as how
use Rattle.cc_meaning.specs.declared.instruction.Insn.{Insn}
use Rattle.cc_meaning.specs.declared.instruction.Insn.TheVariants as insn
use Rattle.cc_meaning.specs.declared.instruction.IntOp.{IntOp}
use Rattle.cc_meaning.specs.declared.instruction.IntOp.TheVariants as op
use Rattle.cc_meaning.specs.declared.instruction.Kind.{Kind}
use Rattle.cc_meaning.specs.declared.instruction.Kind.TheVariants as kind
use Rattle.cc_meaning.specs.declared.instruction.MethodRef.{MethodRef}
use Rattle.cc_meaning.specs.declared.instruction.MethodRef.TheVariants as ref
use Rattle.cc_meaning.specs.declared.instruction.Test.{Test}
use Rattle.cc_meaning.specs.declared.instruction.Test.TheVariants as test
use Rattle.cc_meaning.specs.declared.instruction.TypeRef.{TypeRef}
use Rattle.cc_meaning.specs.declared.instruction.TypeRef.TheVariants as type
use Rattle.cc_meaning.specs.declared.program.Catch.{Catch}
use Rattle.cc_meaning.specs.declared.program.DexType.{DexType}
use Rattle.cc_meaning.specs.declared.program.Field.{Field}
use Rattle.cc_meaning.specs.declared.program.Method.{Method}
use Rattle.cc_meaning.specs.declared.program.Program.{Program}
use Rattle.cc_meaning.specs.declared.program.RegType.{RegType}
use Rattle.cc_meaning.specs.declared.program.RegType.TheVariants.{Int, Zero, LongLow, LongHigh, Reference, Fresh}
use Rattle.cc_meaning.specs.Kinds.{kind_of}
use Rattle.cc_meaning_typing.specs.declared.state.Pending.{Pending}
use Rattle.cc_meaning_typing.specs.declared.state.Pending.TheVariants.{Nothing, Result, Exception}
use Rattle.cc_meaning_typing.specs.declared.state.State.{State}
use Rattle.cc_meaning_typing.specs.Types.{class_type, object_type, array_of, is_reference, held}
use Rattle.cc_meaning_typing.specs.Registers.{Covers, register_of}
use Rattle.cc_meaning_typing.specs.States.{register_at, write, write_long, forget_fresh, construct}
use Rattle.cc_meaning_typing.specs.Code.{Body, is_array, element_of, string_type, throwable_type, type_of_class, address, insn_at, type_made_at}

-- ---- registers that are read

-- a register is known as this, or as what this covers; none past the last one is
abbrev pub Holds : Program → State → ℕ → RegType → Type 0
Holds program s r a = Covers program a (register_at s.registers r)

abbrev pub HoldsPair : Program → State → ℕ → Type 0
HoldsPair program s r = Holds program s r LongLow × Holds program s (suc r) LongHigh

abbrev pub HoldsReference : Program → State → ℕ → Type 0
HoldsReference program s r = Holds program s r (Reference (object_type program))

abbrev pub HoldsFresh : State → ℕ → Type 0
HoldsFresh s r = (at : ℕ) × (register_at s.registers r ≡ Fresh at)

-- what a form of a move or an array access takes: a number of 32 or 64 bits, or a reference
abbrev pub HoldsKind : Program → State → ℕ → Kind → Type 0
HoldsKind program s r kind.Wide = HoldsPair program s r
HoldsKind program s r kind.Object = HoldsReference program s r
HoldsKind program s r _ = Holds program s r Int

abbrev pub HoldsSecond : Program → State → ℕ → Kind → Type 0
HoldsSecond program s r kind.Wide = Holds program s (suc r) LongHigh
HoldsSecond program s r _ = Unit {0}

-- a value of a declared type stands in a register, a long in this and the next one
abbrev pub HoldsDeclared : Program → State → ℕ → DexType → Type 0
HoldsDeclared program s r type = Holds program s r (register_of program type) × HoldsSecond program s r (kind_of type)

-- null, or an array whose elements' type is such
abbrev pub HoldsArray : State → ℕ → (DexType → Type 0) → Type 0
HoldsArray s r Elements = (register_at s.registers r ≡ Zero) ⊎ ((type : DexType) × (register_at s.registers r ≡ Reference (array_of type)) × Elements type)

abbrev pub AllHold : Program → State → List ℕ → RegType → Type 0
AllHold program s [] a = Unit {0}
AllHold program s (r ∷ rs) a = Holds program s r a × AllHold program s rs a

-- ---- registers that are written

abbrev pub WritesOne : Body → ℕ → Type 0
WritesOne body r = r < body.code.registers

abbrev pub WritesPair : Body → ℕ → Type 0
WritesPair body r = suc r < body.code.registers

abbrev pub WritesKind : Body → ℕ → Kind → Type 0
WritesKind body r kind.Wide = WritesPair body r
WritesKind body r _ = WritesOne body r

-- ---- what is named

abbrev pub NamesReference : TypeRef → Type 0
NamesReference (type.Row row) = ⊥
NamesReference (type.Known type) = is_reference type ≡ true

abbrev pub NamesArray : TypeRef → Type 0
NamesArray (type.Row row) = ⊥
NamesArray (type.Known type) = is_array type ≡ true

-- the form of a move or a return for values of a kind
unfoldable pub form_of : Kind → Kind
form_of kind.Wide = kind.Wide
form_of kind.Object = kind.Object
form_of _ = kind.Plain

-- the bytes of an element that is a number
unfoldable pub number_width : Kind → Option ℕ
number_width kind.Boolean = Some 1
number_width kind.Byte = Some 1
number_width kind.Short = Some 2
number_width kind.Char = Some 2
number_width kind.Plain = Some 4
number_width kind.Wide = Some 8
number_width kind.Object = None

abbrev pub FillsFrom : State → ℕ → Option Insn → Type 0
FillsFrom s r (Some (insn.ArrayPayload width bytes)) = HoldsArray s r (λ type. number_width (kind_of type) ≡ Some width)
FillsFrom s r _ = ⊥

-- the elements of an array of this type come from these registers; longs don't
abbrev pub FillsNew : Program → State → TypeRef → List ℕ → Type 0
FillsNew program s (type.Row row) args = ⊥
FillsNew program s (type.Known type) args = (is_array type ≡ true) × (kind_of (element_of type) ≡ kind.Wide → ⊥) × AllHold program s args (register_of program (element_of type))

-- ---- comparisons

abbrev pub Compares : Program → State → Test → ℕ → ℕ → Type 0
Compares program s test.Eq left right = (Holds program s left Int × Holds program s right Int) ⊎ (HoldsReference program s left × HoldsReference program s right)
Compares program s test.Ne left right = (Holds program s left Int × Holds program s right Int) ⊎ (HoldsReference program s left × HoldsReference program s right)
Compares program s _ left right = Holds program s left Int × Holds program s right Int

abbrev pub ComparesZero : Program → State → Test → ℕ → Type 0
ComparesZero program s test.Eq value = Holds program s value Int ⊎ HoldsReference program s value
ComparesZero program s test.Ne value = Holds program s value Int ⊎ HoldsReference program s value
ComparesZero program s _ value = Holds program s value Int

-- a shift takes its count from an int
abbrev pub HoldsCount : Program → State → IntOp → ℕ → Type 0
HoldsCount program s op.Shl right = Holds program s right Int
HoldsCount program s op.Shr right = Holds program s right Int
HoldsCount program s op.Ushr right = Holds program s right Int
HoldsCount program s _ right = HoldsPair program s right

abbrev pub Converts : Body → State → Conversion → ℕ → ℕ → Type 0
Converts body s conversion.IntToLong to from = WritesPair body to × Holds body.program s from Int
Converts body s conversion.LongToInt to from = WritesOne body to × HoldsPair body.program s from
Converts body s _ to from = WritesOne body to × Holds body.program s from Int

-- ---- calls

-- the registers behind the first one of an argument: for a long the next one, then those of the others
abbrev pub Follows : Program → State → Kind → ℕ → List ℕ → (List ℕ → Type 0) → Type 0
Follows program s kind.Wide r [] Rest = ⊥
Follows program s kind.Wide r (second ∷ rest) Rest = (second ≡ suc r) × Holds program s second LongHigh × Rest rest
Follows program s _ r rest Rest = Rest rest

-- the registers are exactly those of the parameters in order, and each fits
abbrev pub Arguments : Program → State → List DexType → List ℕ → Type 0
Arguments program s [] rs = rs ≡ []
Arguments program s (type ∷ types) [] = ⊥
Arguments program s (type ∷ types) (r ∷ rs) = Holds program s r (register_of program type) × Follows program s (kind_of type) r rs (Arguments program s types)

abbrev pub HoldsClass : Program → State → ℕ → ℕ → Type 0
HoldsClass program s r class = Holds program s r (Reference (held program (type_of_class program class)))

unfoldable pub is_constructor : Method → Bool
is_constructor method = bytes_eq method.name (codes "<init>")

-- an object of exactly this class whose constructor is still to be called
abbrev pub HoldsUnbuilt : Body → State → ℕ → ℕ → Type 0
HoldsUnbuilt body s r class = (at : ℕ) × (register_at s.registers r ≡ Fresh at) × (type_made_at body.code at ≡ Some (type.Known (class_type class)))

-- the receiver of a call of a class's method
abbrev pub Receives : Body → State → How → ℕ → Method → ℕ → Type 0
Receives body s how.Static class callee r = Unit {0}
Receives body s how.Super class callee r = HoldsClass body.program s r class × HoldsClass body.program s r body.method.class
Receives body s how.Direct class callee r =
    (HoldsClass body.program s r class × HoldsClass body.program s r callee.class) ⊎ ((is_constructor callee ≡ true) × HoldsUnbuilt body s r class)
Receives body s _ class callee r = HoldsClass body.program s r class

abbrev pub TakesArguments : Body → State → How → ℕ → Method → List ℕ → Type 0
TakesArguments body s how.Static class callee args = Arguments body.program s callee.params args
TakesArguments body s how class callee [] = ⊥
TakesArguments body s how class callee (receiver ∷ args) = Receives body s how class callee receiver × Arguments body.program s callee.params args

abbrev pub Calls : Body → State → How → MethodRef → List ℕ → Type 0
Calls body s how (ref.Row row) args = ⊥
Calls body s how (ref.Known class method) args = (callee : Method) × (slice_get body.program.methods method ≡ Some callee) × TakesArguments body s how class callee args

-- ---- what an instruction needs

-- the field of a number is of the form's kind
abbrev pub IsOfKind : Program → ℕ → Kind → (Field → Type 0) → Type 0
IsOfKind program field kind Needs = (found : Field) × (slice_get program.fields field ≡ Some found) × (kind_of found.ty ≡ kind) × Needs found

abbrev pub Accepts : Body → ℕ → State → Insn → Type 0
Accepts body at s insn.Nop = Unit {0}
Accepts body at s (insn.Move kind.Plain to from) = WritesOne body to × Holds body.program s from Int
Accepts body at s (insn.Move kind.Wide to from) = WritesPair body to × HoldsPair body.program s from
Accepts body at s (insn.Move kind.Object to from) = WritesOne body to × (HoldsReference body.program s from ⊎ HoldsFresh s from)
Accepts body at s (insn.Move _ to from) = ⊥
Accepts body at s (insn.MoveResult kind to) = WritesKind body to kind × ((type : DexType) × (s.pending ≡ Result type) × (form_of (kind_of type) ≡ kind))
Accepts body at s (insn.MoveException to) = WritesOne body to × ((type : DexType) × (s.pending ≡ Exception type))
Accepts body at s insn.ReturnVoid = body.method.result ≡ None
Accepts body at s (insn.Return kind from) = (type : DexType) × (body.method.result ≡ Some type) × (form_of (kind_of type) ≡ kind) × HoldsDeclared body.program s from type
Accepts body at s (insn.ConstInt to value) = WritesOne body to
Accepts body at s (insn.ConstLong to value) = WritesPair body to
Accepts body at s (insn.ConstText to text) = WritesOne body to
Accepts body at s (insn.ConstClass to named) = WritesOne body to × NamesReference named
Accepts body at s (insn.Monitor enter object) = HoldsReference body.program s object
Accepts body at s (insn.CheckCast object named) = NamesReference named × HoldsReference body.program s object
Accepts body at s (insn.InstanceOf to object named) = WritesOne body to × NamesReference named × HoldsReference body.program s object
Accepts body at s (insn.ArrayLength to array) = WritesOne body to × HoldsArray s array (λ type. Unit {0})
Accepts body at s (insn.NewInstance to named) = WritesOne body to × NamesReference named
Accepts body at s (insn.NewArray to length named) = WritesOne body to × NamesArray named × Holds body.program s length Int
Accepts body at s (insn.FilledNewArray named args) = FillsNew body.program s named args
Accepts body at s (insn.FillArray array target) = FillsFrom s array (insn_at body.code (address at target))
Accepts body at s (insn.Throw object) = Holds body.program s object (Reference (throwable_type body.program))
Accepts body at s (insn.Goto target) = Unit {0}
Accepts body at s (insn.Switch packed value target) = Holds body.program s value Int
Accepts body at s (insn.CompareLong to left right) = WritesOne body to × HoldsPair body.program s left × HoldsPair body.program s right
Accepts body at s (insn.If test left right target) = Compares body.program s test left right
Accepts body at s (insn.IfZero test value target) = ComparesZero body.program s test value
Accepts body at s (insn.ArrayGet kind to array index) = WritesKind body to kind × Holds body.program s index Int × HoldsArray s array (λ type. kind_of type ≡ kind)
Accepts body at s (insn.ArrayPut kind from array index) = Holds body.program s index Int × HoldsArray s array (λ type. kind_of type ≡ kind) × HoldsKind body.program s from kind
Accepts body at s (insn.FieldGet kind to object field) = WritesKind body to kind × IsOfKind body.program field kind (λ found. HoldsClass body.program s object found.class)
Accepts body at s (insn.FieldPut kind from object field) = IsOfKind body.program field kind (λ found. HoldsClass body.program s object found.class × HoldsDeclared body.program s from found.ty)
Accepts body at s (insn.StaticGet kind to field) = WritesKind body to kind × IsOfKind body.program field kind (λ found. Unit {0})
Accepts body at s (insn.StaticPut kind from field) = IsOfKind body.program field kind (λ found. HoldsDeclared body.program s from found.ty)
Accepts body at s (insn.Invoke how named args) = Calls body s how named args
Accepts body at s (insn.IntUnary op to from) = WritesOne body to × Holds body.program s from Int
Accepts body at s (insn.LongUnary op to from) = WritesPair body to × HoldsPair body.program s from
Accepts body at s (insn.Convert op to from) = Converts body s op to from
Accepts body at s (insn.IntOp op to left right) = WritesOne body to × Holds body.program s left Int × Holds body.program s right Int
Accepts body at s (insn.LongOp op to left right) = WritesPair body to × HoldsPair body.program s left × HoldsCount body.program s op right
Accepts body at s (insn.IntLit op reversed to left literal) = WritesOne body to × Holds body.program s left Int
Accepts body at s (insn.PackedPayload first targets) = ⊥
Accepts body at s (insn.SparsePayload keys targets) = ⊥
Accepts body at s (insn.ArrayPayload width bytes) = ⊥

-- ---- what an instruction gives

unfoldable pub write_kind : List RegType → ℕ → RegType → Kind → List RegType
write_kind registers to a kind.Wide = write_long registers to
write_kind registers to a _ = write registers to a

-- a value of a declared type is written: an int, a long, or a reference of the held type
unfoldable pub write_declared : Program → List RegType → ℕ → DexType → List RegType
write_declared program registers to type = write_kind registers to (register_of program type) (kind_of type)

unfoldable pub write_pending : Program → List RegType → ℕ → Pending → List RegType
write_pending program registers to Nothing = registers
write_pending program registers to (Result type) = write_declared program registers to type
write_pending program registers to (Exception type) = write registers to (Reference type)

-- the literal 0 is an int and null
unfoldable pub int_constant : ℤ → RegType
int_constant (pos zero) = Zero
int_constant (pos (suc n)) = Int
int_constant (negsuc n) = Int

-- a reference of the type that is named
unfoldable pub write_named : Program → List RegType → ℕ → TypeRef → List RegType
write_named program registers to (type.Row row) = registers
write_named program registers to (type.Known type) = write registers to (Reference (held program type))

-- what an array gives to a form that reads references: registers know arrays by held types, so the elements' type is held
unfoldable pub element_known : RegType → RegType
element_known (Reference type) = Reference (element_of type)
element_known a = a

unfoldable pub element_for : Kind → RegType → RegType
element_for kind.Object array = element_known array
element_for _ array = Int

unfoldable pub write_field : Program → List RegType → ℕ → Option Field → List RegType
write_field program registers to None = registers
write_field program registers to (Some field) = write_declared program registers to field.ty

-- a constructor of its class constructs an object, in all registers that know it
unfoldable pub construct_known : Program → List RegType → ℕ → RegType → List RegType
construct_known program registers class (Fresh at) = construct registers at (held program (class_type class))
construct_known program registers class _ = registers

unfoldable pub registers_called : Program → List RegType → How → MethodRef → List ℕ → List RegType
registers_called program registers how.Direct (ref.Known class method) (receiver ∷ args) = construct_known program registers class (register_at registers receiver)
registers_called program registers _ _ _ = registers

unfoldable pub registers_converted : List RegType → Conversion → ℕ → List RegType
registers_converted registers conversion.IntToLong to = write_long registers to
registers_converted registers _ to = write registers to Int

unfoldable pub registers_after : Program → ℕ → List RegType → Pending → Insn → List RegType
registers_after program at registers pending (insn.Move kind to from) = write_kind registers to (register_at registers from) kind
registers_after program at registers pending (insn.MoveResult kind to) = write_pending program registers to pending
registers_after program at registers pending (insn.MoveException to) = write_pending program registers to pending
registers_after program at registers pending (insn.ConstInt to value) = write registers to (int_constant value)
registers_after program at registers pending (insn.ConstLong to value) = write_long registers to
registers_after program at registers pending (insn.ConstText to text) = write registers to (Reference (string_type program))
registers_after program at registers pending (insn.ConstClass to named) = write registers to (Reference (object_type program))
registers_after program at registers pending (insn.CheckCast object named) = write_named program registers object named
registers_after program at registers pending (insn.InstanceOf to object named) = write registers to Int
registers_after program at registers pending (insn.ArrayLength to array) = write registers to Int
registers_after program at registers pending (insn.NewInstance to named) = write (forget_fresh registers at) to (Fresh at)
registers_after program at registers pending (insn.NewArray to length named) = write_named program registers to named
registers_after program at registers pending (insn.CompareLong to left right) = write registers to Int
registers_after program at registers pending (insn.ArrayGet kind to array index) = write_kind registers to (element_for kind (register_at registers array)) kind
registers_after program at registers pending (insn.FieldGet kind to object field) = write_field program registers to (slice_get program.fields field)
registers_after program at registers pending (insn.StaticGet kind to field) = write_field program registers to (slice_get program.fields field)
registers_after program at registers pending (insn.Invoke how named args) = registers_called program registers how named args
registers_after program at registers pending (insn.IntUnary op to from) = write registers to Int
registers_after program at registers pending (insn.LongUnary op to from) = write_long registers to
registers_after program at registers pending (insn.Convert op to from) = registers_converted registers op to
registers_after program at registers pending (insn.IntOp op to left right) = write registers to Int
registers_after program at registers pending (insn.LongOp op to left right) = write_long registers to
registers_after program at registers pending (insn.IntLit op reversed to left literal) = write registers to Int
registers_after program at registers pending _ = registers

unfoldable pub pending_result : Option DexType → Pending
pending_result None = Nothing
pending_result (Some type) = Result type

unfoldable pub result_of : Option Method → Pending
result_of None = Nothing
result_of (Some callee) = pending_result callee.result

unfoldable pub pending_call : Program → MethodRef → Pending
pending_call program (ref.Row row) = Nothing
pending_call program (ref.Known class method) = result_of (slice_get program.methods method)

unfoldable pub pending_array : TypeRef → Pending
pending_array (type.Row row) = Nothing
pending_array (type.Known type) = Result type

-- what is pending and isn't taken is dropped
unfoldable pub pending_after : Program → Insn → Pending
pending_after program (insn.Invoke how named args) = pending_call program named
pending_after program (insn.FilledNewArray named args) = pending_array named
pending_after program _ = Nothing

-- the state behind an instruction
unfoldable pub after : Program → ℕ → State → Insn → State
after program at s insn = record { registers = registers_after program at s.registers s.pending insn; pending = pending_after program insn }

unfoldable pub caught_type : Program → Option DexType → DexType
caught_type program None = throwable_type program
caught_type program (Some type) = held program type

-- a handler begins with the state before the instruction, and the exception pending
unfoldable pub handler_state : Program → State → Catch → State
handler_state program s catch = record { registers = s.registers; pending = Exception (caught_type program catch.kind) }
