-- A worked example of each rule, computed from the definitions.
use Rattle.std.specs.Prelude.{◌≡◌, ℕ, true, false, List, [], ◌∷◌, Option, Some, None, codes, pos, negsuc}
use Rattle.cc_meaning.specs.declared.instruction.Conversion.TheVariants as conversion
use Rattle.cc_meaning.specs.declared.instruction.How.TheVariants as how
use Rattle.cc_meaning.specs.declared.instruction.Insn.{Insn}
use Rattle.cc_meaning.specs.declared.instruction.Insn.TheVariants as insn
use Rattle.cc_meaning.specs.declared.instruction.IntOp.TheVariants as op
use Rattle.cc_meaning.specs.declared.instruction.Kind.TheVariants as kind
use Rattle.cc_meaning.specs.declared.instruction.MethodRef.TheVariants as ref
use Rattle.cc_meaning.specs.declared.instruction.Test.TheVariants as test
use Rattle.cc_meaning.specs.declared.instruction.TypeRef.TheVariants as type
use Rattle.cc_meaning.specs.declared.instruction.UnaryOp.TheVariants as unary
use Rattle.cc_meaning.specs.declared.program.Base.TheVariants as base
use Rattle.cc_meaning.specs.declared.program.Catch.{Catch}
use Rattle.cc_meaning.specs.declared.program.Class.{Class}
use Rattle.cc_meaning.specs.declared.program.ClassKind.{ClassKind}
use Rattle.cc_meaning.specs.declared.program.ClassKind.TheVariants as origin
use Rattle.cc_meaning.specs.declared.program.Code.{Code}
use Rattle.cc_meaning.specs.declared.program.DexType.{DexType}
use Rattle.cc_meaning.specs.declared.program.Field.{Field}
use Rattle.cc_meaning.specs.declared.program.Method.{Method}
use Rattle.cc_meaning.specs.declared.program.MethodKind.TheVariants as kinds
use Rattle.cc_meaning.specs.declared.program.Placed.{Placed}
use Rattle.cc_meaning.specs.declared.program.Program.{Program}
use Rattle.cc_meaning.specs.declared.program.RegType.{RegType}
use Rattle.cc_meaning.specs.declared.program.RegType.TheVariants.{Unset, Int, Zero, LongLow, LongHigh, Reference, Fresh}
use Rattle.cc_meaning.specs.BuiltIn.{object_name, string_name, throwable_name}
use Rattle.cc_meaning_typing.specs.declared.state.Pending.{Pending}
use Rattle.cc_meaning_typing.specs.declared.state.Pending.TheVariants.{Nothing, Result, Exception}
use Rattle.cc_meaning_typing.specs.declared.state.State.{State}
use Rattle.cc_meaning_typing.specs.Hierarchy.{IsHierarchy}
use Rattle.cc_meaning_typing.specs.Types.{typed, class_type, held, least_above}
use Rattle.cc_meaning_typing.specs.Registers.{Fits, join}
use Rattle.cc_meaning_typing.specs.States.{write, write_long, opening}
use Rattle.cc_meaning_typing.specs.Code.{Body, successors, handlers, type_of_class}
use Rattle.cc_meaning_typing.specs.Rules.{Accepts, after, handler_state}

-- ---- the program

abbrev pub class_of : List ℕ → ClassKind → Option ℕ → Class
class_of name kind superclass = record { name = name; kind = kind; superclass = superclass; interfaces = []; is_interface = false; is_abstract = false; layout = []; initialiser = None; values = [] }

-- LA;, LB; and LC; below it, the interface LI;, the outside class LX; with LY; and LZ; below it, Object, String, Throwable, [I
abbrev pub classes : List Class
classes =
    class_of (codes "LA;") origin.File (Some 7)
    ∷ class_of (codes "LB;") origin.File (Some 0)
    ∷ class_of (codes "LC;") origin.File (Some 0)
    ∷ record (class_of (codes "LI;") origin.File (Some 7)) { is_interface = true }
    ∷ class_of (codes "LX;") origin.Outside (Some 7)
    ∷ class_of (codes "LY;") origin.File (Some 4)
    ∷ class_of (codes "LZ;") origin.File (Some 4)
    ∷ class_of object_name origin.BuiltIn None
    ∷ class_of string_name origin.BuiltIn (Some 7)
    ∷ class_of throwable_name origin.BuiltIn (Some 7)
    ∷ class_of (codes "[I") origin.Array (Some 7)
    ∷ []

abbrev pub a_type : DexType
a_type = class_type 0

abbrev pub b_type : DexType
b_type = class_type 1

abbrev pub c_type : DexType
c_type = class_type 2

abbrev pub i_type : DexType
i_type = class_type 3

abbrev pub x_type : DexType
x_type = class_type 4

abbrev pub y_type : DexType
y_type = class_type 5

abbrev pub z_type : DexType
z_type = class_type 6

abbrev pub objects : DexType
objects = class_type 7

abbrev pub strings : DexType
strings = class_type 8

abbrev pub throwables : DexType
throwables = class_type 9

abbrev pub int_type : DexType
int_type = typed 0 base.Int

abbrev pub long_type : DexType
long_type = typed 0 base.Long

abbrev pub boolean_type : DexType
boolean_type = typed 0 base.Boolean

abbrev pub ints : DexType
ints = typed 1 base.Int

-- LA;'s fields of an int, a long and an LI;, each of instances and static
abbrev pub field_of : DexType → Field
field_of type = record { class = 0; name = codes "f"; ty = type; is_static = false }

-- a method of LA; with these parameters and this result
abbrev pub method_of : List ℕ → List DexType → Option DexType → Method
method_of name params answer = record { class = 0; name = name; params = params; result = answer; is_static = false; is_virtual = true; kind = kinds.Native }

abbrev pub program : Program
program = record {
  classes = classes;
  methods = method_of (codes "m") (int_type ∷ long_type ∷ []) (Some i_type) ∷ method_of (codes "<init>") [] None ∷ [];
  fields = field_of int_type ∷ field_of long_type ∷ field_of i_type ∷ [];
  texts = [];
  main = 0;
}

-- ---- the code

abbrev pub place : ℕ → ℕ → Insn → Placed
place at units i = record { at = at; units = units; insn = i }

abbrev pub catch_of : Option DexType → ℕ → Catch
catch_of kind at = record { kind = kind; at = at }

-- An object of LA; is made at 2, the payloads stand at 20, 40 and 60. A try covers 2 to 4, and another one 3 to 10.
abbrev pub code : Code
code = record {
  registers = 6;
  ins = 0;
  insns =
      place 0 1 insn.Nop
      ∷ place 2 2 (insn.NewInstance 0 (type.Known a_type))
      ∷ place 4 3 (insn.Switch true 0 (pos 16))
      ∷ place 20 8 (insn.PackedPayload (pos 5) (pos 3 ∷ negsuc 3 ∷ []))
      ∷ place 40 6 (insn.ArrayPayload 4 [])
      ∷ [];
  tries =
      record { start = 2; end = 4; catches = catch_of (Some x_type) 7 ∷ catch_of None 9 ∷ [] }
      ∷ record { start = 3; end = 10; catches = catch_of (Some throwables) 8 ∷ [] }
      ∷ [];
}

-- the method of LA; that the examples stand in, with this result
abbrev pub body_with : Option DexType → Body
body_with answer = record { program = program; method = method_of (codes "m") [] answer; code = code }

abbrev pub body : Body
body = body_with None

abbrev pub holding : List RegType → Pending → State
holding registers pending = record { registers = registers; pending = pending }

-- six registers, of which the last two hold nothing
abbrev pub four : RegType → RegType → RegType → RegType → State
four a b c d = holding (a ∷ b ∷ c ∷ d ∷ Unset ∷ Unset ∷ []) Nothing

-- the rule of an instruction at 2 accepts a state, and gives this one
abbrev pub Gives : State → Insn → State → Type 0
Gives s i t = Accepts body 2 s i × (after program 2 s i ≡ t)

abbrev pub Refuses : State → Insn → Type 0
Refuses s i = Accepts body 2 s i → ⊥

-- ---- types

pub record TypesHold : Type 0 where
  pub hierarchy : IsHierarchy program
  pub outside : held program x_type ≡ objects
  pub «interface» : held program (typed 2 (base.Class 3)) ≡ typed 2 (base.Class 7)
  pub file : held program b_type ≡ b_type
  pub siblings : least_above program b_type c_type ≡ a_type
  pub ancestor : least_above program b_type a_type ≡ a_type
  pub under_outside : least_above program y_type z_type ≡ objects
  pub arrays : least_above program (typed 2 (base.Class 1)) (typed 2 (base.Class 2)) ≡ typed 2 (base.Class 0)
  pub numbers : least_above program (typed 2 base.Int) (typed 2 base.Long) ≡ typed 1 (base.Class 7)
  pub number_arrays : least_above program ints (typed 1 base.Long) ≡ objects
  pub unlike_dims : least_above program ints (typed 1 (base.Class 1)) ≡ objects
  pub array_class : type_of_class program 10 ≡ ints

pub record JoinsHold : Type 0 where
  pub equal : join program LongLow LongLow ≡ LongLow
  pub zero_int : join program Zero Int ≡ Int
  pub zero_reference : join program Zero (Reference a_type) ≡ Reference a_type
  pub references : join program (Reference b_type) (Reference c_type) ≡ Reference a_type
  pub int_reference : join program Int (Reference a_type) ≡ Unset
  pub halves : join program LongLow LongHigh ≡ Unset
  pub fresh : join program (Fresh 2) (Fresh 2) ≡ Fresh 2
  pub other_fresh : join program (Fresh 2) (Fresh 4) ≡ Unset
  pub loose : Fits program (Reference a_type) x_type
  pub loose_array : Fits program (Reference (typed 1 (base.Class 1))) (typed 1 (base.Class 3))
  pub superclass : Fits program (Reference b_type) a_type
  pub null : Fits program Zero a_type
  pub boolean : Fits program Zero boolean_type
  pub long : Fits program LongLow long_type
  pub not_subclass : Fits program (Reference a_type) b_type → ⊥
  pub not_number : Fits program Int a_type → ⊥
  pub not_half : Fits program LongHigh long_type → ⊥

-- ---- moves, results and returns

abbrev pub pending_with : Pending → State
pending_with pending = holding (Unset ∷ Unset ∷ Unset ∷ Unset ∷ Unset ∷ Unset ∷ []) pending

pub record MovesHold : Type 0 where
  pub int : Gives (four Zero Unset Unset Unset) (insn.Move kind.Plain 1 0) (four Zero Zero Unset Unset)
  pub no_int : Refuses (four (Reference a_type) Unset Unset Unset) (insn.Move kind.Plain 1 0)
  pub past_the_last : Refuses (four Int Unset Unset Unset) (insn.Move kind.Plain 6 0)
  pub long : Gives (four LongLow LongHigh Unset Unset) (insn.Move kind.Wide 2 0) (four LongLow LongHigh LongLow LongHigh)
  pub half : Refuses (four LongLow Unset Unset Unset) (insn.Move kind.Wide 2 0)
  pub reference : Gives (four (Reference b_type) Unset Unset Unset) (insn.Move kind.Object 1 0) (four (Reference b_type) (Reference b_type) Unset Unset)
  pub fresh : Gives (four (Fresh 2) Unset Unset Unset) (insn.Move kind.Object 1 0) (four (Fresh 2) (Fresh 2) Unset Unset)
  pub no_reference : Refuses (four Int Unset Unset Unset) (insn.Move kind.Object 1 0)

pub record ResultsHold : Type 0 where
  pub boolean : Gives (pending_with (Result boolean_type)) (insn.MoveResult kind.Plain 0) (four Int Unset Unset Unset)
  pub long : Gives (pending_with (Result long_type)) (insn.MoveResult kind.Wide 0) (four LongLow LongHigh Unset Unset)
  pub loose : Gives (pending_with (Result x_type)) (insn.MoveResult kind.Object 0) (four (Reference objects) Unset Unset Unset)
  pub other_form : Refuses (pending_with (Result long_type)) (insn.MoveResult kind.Plain 0)
  pub nothing : Refuses (pending_with Nothing) (insn.MoveResult kind.Plain 0)
  pub no_result : Refuses (pending_with (Exception throwables)) (insn.MoveResult kind.Object 0)
  pub caught : Gives (pending_with (Exception throwables)) (insn.MoveException 1) (four Unset (Reference throwables) Unset Unset)
  pub not_caught : Refuses (pending_with (Result throwables)) (insn.MoveException 1)
  pub dropped : Gives (pending_with (Result int_type)) insn.Nop (pending_with Nothing)

pub record ReturnsHold : Type 0 where
  pub nothing : Accepts (body_with None) 0 (four Unset Unset Unset Unset) insn.ReturnVoid
  pub nothing_for_int : Accepts (body_with (Some int_type)) 0 (four Unset Unset Unset Unset) insn.ReturnVoid → ⊥
  pub boolean : Accepts (body_with (Some boolean_type)) 0 (four Zero Unset Unset Unset) (insn.Return kind.Plain 0)
  pub long : Accepts (body_with (Some long_type)) 0 (four LongLow LongHigh Unset Unset) (insn.Return kind.Wide 0)
  pub superclass : Accepts (body_with (Some a_type)) 0 (four (Reference b_type) Unset Unset Unset) (insn.Return kind.Object 0)
  pub other_form : Accepts (body_with (Some int_type)) 0 (four Zero Unset Unset Unset) (insn.Return kind.Object 0) → ⊥
  pub subclass : Accepts (body_with (Some b_type)) 0 (four (Reference a_type) Unset Unset Unset) (insn.Return kind.Object 0) → ⊥

-- ---- constants and objects

abbrev pub none : State
none = four Unset Unset Unset Unset

pub record ConstantsHold : Type 0 where
  pub zero : Gives none (insn.ConstInt 0 (pos 0)) (four Zero Unset Unset Unset)
  pub seven : Gives none (insn.ConstInt 0 (pos 7)) (four Int Unset Unset Unset)
  pub negative : Gives none (insn.ConstInt 0 (negsuc 0)) (four Int Unset Unset Unset)
  pub long : Gives none (insn.ConstLong 0 (pos 0)) (four LongLow LongHigh Unset Unset)
  pub long_past : Refuses none (insn.ConstLong 5 (pos 0))
  pub text : Gives none (insn.ConstText 0 0) (four (Reference strings) Unset Unset Unset)
  pub class : Gives none (insn.ConstClass 0 (type.Known a_type)) (four (Reference objects) Unset Unset Unset)
  pub number_class : Refuses none (insn.ConstClass 0 (type.Known int_type))

pub record ObjectsHold : Type 0 where
  pub monitor : Gives (four Zero Unset Unset Unset) (insn.Monitor true 0) (four Zero Unset Unset Unset)
  pub no_monitor : Refuses (four Int Unset Unset Unset) (insn.Monitor false 0)
  pub cast : Gives (four (Reference objects) Unset Unset Unset) (insn.CheckCast 0 (type.Known a_type)) (four (Reference a_type) Unset Unset Unset)
  pub loose_cast : Gives (four (Reference b_type) Unset Unset Unset) (insn.CheckCast 0 (type.Known i_type)) (four (Reference objects) Unset Unset Unset)
  pub number_cast : Refuses (four Zero Unset Unset Unset) (insn.CheckCast 0 (type.Known int_type))
  pub instance : Gives (four (Reference b_type) Unset Unset Unset) (insn.InstanceOf 1 0 (type.Known a_type)) (four (Reference b_type) Int Unset Unset)
  pub fresh_instance : Refuses (four (Fresh 2) Unset Unset Unset) (insn.InstanceOf 1 0 (type.Known a_type))
  pub new : Gives (four Unset (Fresh 2) (Fresh 4) Unset) (insn.NewInstance 0 (type.Known a_type)) (four (Fresh 2) Unset (Fresh 4) Unset)
  pub throw : Gives (four (Reference throwables) Unset Unset Unset) (insn.Throw 0) (four (Reference throwables) Unset Unset Unset)
  pub no_throw : Refuses (four (Reference a_type) Unset Unset Unset) (insn.Throw 0)

-- ---- arrays

pub record ArraysHold : Type 0 where
  pub size : Gives (four (Reference ints) Unset Unset Unset) (insn.ArrayLength 1 0) (four (Reference ints) Int Unset Unset)
  pub null_size : Gives (four Zero Unset Unset Unset) (insn.ArrayLength 1 0) (four Zero Int Unset Unset)
  pub no_array : Refuses (four (Reference a_type) Unset Unset Unset) (insn.ArrayLength 1 0)
  pub new : Gives (four Int Unset Unset Unset) (insn.NewArray 1 0 (type.Known (typed 1 (base.Class 3)))) (four Int (Reference (typed 1 (base.Class 7))) Unset Unset)
  pub new_class : Refuses (four Int Unset Unset Unset) (insn.NewArray 1 0 (type.Known a_type))
  pub filled : Gives (four Int Zero Unset Unset) (insn.FilledNewArray (type.Known ints) (0 ∷ 1 ∷ [])) (holding (Int ∷ Zero ∷ Unset ∷ Unset ∷ Unset ∷ Unset ∷ []) (Result ints))
  pub filled_with_longs : Refuses (four LongLow LongHigh Unset Unset) (insn.FilledNewArray (type.Known (typed 1 base.Long)) [])
  pub filling : Gives (four (Reference ints) Unset Unset Unset) (insn.FillArray 0 (pos 38)) (four (Reference ints) Unset Unset Unset)
  pub other_width : Refuses (four (Reference (typed 1 base.Short)) Unset Unset Unset) (insn.FillArray 0 (pos 38))
  pub get : Gives (four (Reference ints) Int Unset Unset) (insn.ArrayGet kind.Plain 2 0 1) (four (Reference ints) Int Int Unset)
  pub get_boolean : Refuses (four (Reference (typed 1 base.Boolean)) Int Unset Unset) (insn.ArrayGet kind.Plain 2 0 1)
  pub get_long : Gives (four (Reference (typed 1 base.Long)) Zero Unset Unset) (insn.ArrayGet kind.Wide 2 0 1) (four (Reference (typed 1 base.Long)) Zero LongLow LongHigh)
  pub get_array : Gives (four (Reference (typed 2 base.Int)) Zero Unset Unset) (insn.ArrayGet kind.Object 2 0 1) (four (Reference (typed 2 base.Int)) Zero (Reference ints) Unset)
  pub get_null : Gives (four Zero Zero Unset Unset) (insn.ArrayGet kind.Object 2 0 1) (four Zero Zero Zero Unset)
  pub put : Gives (four (Reference (typed 1 (base.Class 1))) Int (Reference x_type) Unset) (insn.ArrayPut kind.Object 2 0 1) (four (Reference (typed 1 (base.Class 1))) Int (Reference x_type) Unset)
  pub put_int : Refuses (four (Reference (typed 1 (base.Class 1))) Int Int Unset) (insn.ArrayPut kind.Object 2 0 1)

-- ---- fields

pub record FieldsHold : Type 0 where
  pub get : Gives (four (Reference b_type) Unset Unset Unset) (insn.FieldGet kind.Plain 1 0 0) (four (Reference b_type) Int Unset Unset)
  pub get_loose : Gives (four (Reference a_type) Unset Unset Unset) (insn.FieldGet kind.Object 0 0 2) (four (Reference objects) Unset Unset Unset)
  pub get_of_other : Refuses (four (Reference y_type) Unset Unset Unset) (insn.FieldGet kind.Plain 1 0 0)
  pub put_long : Gives (four (Reference a_type) Unset LongLow LongHigh) (insn.FieldPut kind.Wide 2 0 1) (four (Reference a_type) Unset LongLow LongHigh)
  pub put_half : Refuses (four (Reference a_type) Unset LongLow Unset) (insn.FieldPut kind.Wide 2 0 1)
  pub get_static : Gives none (insn.StaticGet kind.Wide 2 1) (four Unset Unset LongLow LongHigh)
  pub other_form : Refuses none (insn.StaticGet kind.Plain 0 1)
  pub put_static : Gives (four (Reference y_type) Unset Unset Unset) (insn.StaticPut kind.Object 0 2) (four (Reference y_type) Unset Unset Unset)
  pub put_int : Refuses (four Int Unset Unset Unset) (insn.StaticPut kind.Object 0 2)

-- ---- calls

abbrev pub given : Pending → State
given pending = holding (Reference b_type ∷ Int ∷ LongLow ∷ LongHigh ∷ Unset ∷ Unset ∷ []) pending

pub record CallsHold : Type 0 where
  pub virtual : Gives (given Nothing) (insn.Invoke how.Virtual (ref.Known 0 0) (0 ∷ 1 ∷ 2 ∷ 3 ∷ [])) (given (Result i_type))
  pub by_interface : Gives (given Nothing) (insn.Invoke how.Interface (ref.Known 3 0) (0 ∷ 1 ∷ 2 ∷ 3 ∷ [])) (given (Result i_type))
  pub static : Gives (given Nothing) (insn.Invoke how.Static (ref.Known 0 0) (1 ∷ 2 ∷ 3 ∷ [])) (given (Result i_type))
  pub super : Gives (given Nothing) (insn.Invoke how.Super (ref.Known 0 0) (0 ∷ 1 ∷ 2 ∷ 3 ∷ [])) (given (Result i_type))
  pub other_receiver : Refuses (given Nothing) (insn.Invoke how.Virtual (ref.Known 2 0) (0 ∷ 1 ∷ 2 ∷ 3 ∷ []))
  pub not_behind : Refuses (given Nothing) (insn.Invoke how.Virtual (ref.Known 0 0) (0 ∷ 1 ∷ 2 ∷ 4 ∷ []))
  pub too_few : Refuses (given Nothing) (insn.Invoke how.Virtual (ref.Known 0 0) (0 ∷ 1 ∷ []))
  pub too_many : Refuses (given Nothing) (insn.Invoke how.Virtual (ref.Known 0 0) (0 ∷ 1 ∷ 2 ∷ 3 ∷ 0 ∷ []))
  pub constructor : Gives (four (Fresh 2) Int (Fresh 2) (Fresh 4)) (insn.Invoke how.Direct (ref.Known 0 1) (0 ∷ [])) (four (Reference a_type) Int (Reference a_type) (Fresh 4))
  pub constructed : Gives (four (Reference b_type) Unset Unset Unset) (insn.Invoke how.Direct (ref.Known 0 1) (0 ∷ [])) (four (Reference b_type) Unset Unset Unset)
  pub of_other_class : Refuses (four (Fresh 2) Unset Unset Unset) (insn.Invoke how.Direct (ref.Known 7 1) (0 ∷ []))
  pub no_constructor : Refuses (four (Fresh 2) Int LongLow LongHigh) (insn.Invoke how.Direct (ref.Known 0 0) (0 ∷ 1 ∷ 2 ∷ 3 ∷ []))

-- ---- operations and comparisons

pub record OperationsHold : Type 0 where
  pub negated : Gives (four Int Unset Unset Unset) (insn.IntUnary unary.Negate 1 0) (four Int Int Unset Unset)
  pub negated_long : Gives (four LongLow LongHigh Unset Unset) (insn.LongUnary unary.Not 2 0) (four LongLow LongHigh LongLow LongHigh)
  pub widened : Gives (four Zero Unset Unset Unset) (insn.Convert conversion.IntToLong 1 0) (four Zero LongLow LongHigh Unset)
  pub narrowed : Gives (four LongLow LongHigh Unset Unset) (insn.Convert conversion.LongToInt 2 0) (four LongLow LongHigh Int Unset)
  pub to_byte : Gives (four Int Unset Unset Unset) (insn.Convert conversion.IntToByte 0 0) (four Int Unset Unset Unset)
  pub added : Gives (four Int Zero Unset Unset) (insn.IntOp op.Add 2 0 1) (four Int Zero Int Unset)
  pub no_sum : Refuses (four Int (Reference a_type) Unset Unset) (insn.IntOp op.Add 2 0 1)
  pub long_sum : Gives (four LongLow LongHigh LongLow LongHigh) (insn.LongOp op.Add 0 0 2) (four LongLow LongHigh LongLow LongHigh)
  pub shifted : Gives (four LongLow LongHigh Int Unset) (insn.LongOp op.Shl 0 0 2) (four LongLow LongHigh Int Unset)
  pub shifted_by_long : Refuses (four LongLow LongHigh LongLow LongHigh) (insn.LongOp op.Shl 0 0 2)
  pub literal : Gives (four Int Unset Unset Unset) (insn.IntLit op.Mul false 0 0 (pos 3)) (four Int Unset Unset Unset)
  pub compared : Gives (four LongLow LongHigh LongLow LongHigh) (insn.CompareLong 4 0 2) (holding (LongLow ∷ LongHigh ∷ LongLow ∷ LongHigh ∷ Int ∷ Unset ∷ []) Nothing)

pub record BranchesHold : Type 0 where
  pub goto : Gives none (insn.Goto (pos 0)) none
  pub switch : Gives (four Int Unset Unset Unset) (insn.Switch true 0 (pos 16)) (four Int Unset Unset Unset)
  pub no_switch : Refuses (four (Reference a_type) Unset Unset Unset) (insn.Switch true 0 (pos 16))
  pub less : Gives (four Int Zero Unset Unset) (insn.If test.Lt 0 1 (pos 2)) (four Int Zero Unset Unset)
  pub less_references : Refuses (four Zero (Reference a_type) Unset Unset) (insn.If test.Lt 0 1 (pos 2))
  pub equal_references : Gives (four Zero (Reference a_type) Unset Unset) (insn.If test.Eq 0 1 (pos 2)) (four Zero (Reference a_type) Unset Unset)
  pub unlike : Refuses (four Int (Reference a_type) Unset Unset) (insn.If test.Eq 0 1 (pos 2))
  pub null : Gives (four (Reference a_type) Unset Unset Unset) (insn.IfZero test.Ne 0 (pos 2)) (four (Reference a_type) Unset Unset Unset)
  pub negative : Refuses (four (Reference a_type) Unset Unset Unset) (insn.IfZero test.Lt 0 (pos 2))
  pub payload : Refuses none (insn.ArrayPayload 4 [])

-- ---- halves of longs, successors, handlers, the opening state

pub record StatesHold : Type 0 where
  pub second_written : write (LongLow ∷ LongHigh ∷ Int ∷ []) 1 Int ≡ Unset ∷ Int ∷ Int ∷ []
  pub first_written : write (LongLow ∷ LongHigh ∷ Int ∷ []) 0 Zero ≡ Zero ∷ Unset ∷ Int ∷ []
  pub between : write_long (LongLow ∷ LongHigh ∷ LongLow ∷ LongHigh ∷ []) 1 ≡ Unset ∷ LongLow ∷ LongHigh ∷ Unset ∷ []
  pub half_alone : write (Int ∷ LongHigh ∷ []) 0 Int ≡ Int ∷ Unset ∷ []
  pub cases : successors code (place 4 3 (insn.Switch true 0 (pos 16))) ≡ Some 7 ∷ Some 7 ∷ Some 0 ∷ []
  pub no_case : successors code (place 3 3 (insn.Switch false 0 (pos 17))) ≡ Some 6 ∷ []
  pub before_the_first : successors code (place 0 1 (insn.Goto (negsuc 0))) ≡ None ∷ []
  pub ended : successors code (place 0 1 (insn.Throw 0)) ≡ []
  pub first_try : handlers code (place 3 1 (insn.Throw 0)) ≡ catch_of (Some x_type) 7 ∷ catch_of None 9 ∷ []
  pub past_the_first : handlers code (place 4 1 (insn.Throw 0)) ≡ catch_of (Some throwables) 8 ∷ []
  pub throws_nothing : handlers code (place 3 1 (insn.Goto (pos 1))) ≡ []
  pub divided : handlers code (place 4 2 (insn.IntOp op.Rem 0 0 0)) ≡ catch_of (Some throwables) 8 ∷ []
  pub added : handlers code (place 4 2 (insn.IntOp op.Add 0 0 0)) ≡ []
  pub handled : handler_state program (four LongLow LongHigh (Fresh 2) Unset) (catch_of None 9) ≡ holding (LongLow ∷ LongHigh ∷ Fresh 2 ∷ Unset ∷ Unset ∷ Unset ∷ []) (Exception throwables)
  pub loosely : handler_state program none (catch_of (Some x_type) 7) ≡ holding (Unset ∷ Unset ∷ Unset ∷ Unset ∷ Unset ∷ Unset ∷ []) (Exception objects)
  pub opens : opening program (method_of (codes "m") (boolean_type ∷ long_type ∷ i_type ∷ []) None) code ≡ holding (Unset ∷ Reference a_type ∷ Int ∷ LongLow ∷ LongHigh ∷ Reference objects ∷ []) Nothing
