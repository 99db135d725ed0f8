-- What it is for a world and a frame to fit: by the program's types, and by a state of a typing.
use Rattle.std.specs.Prelude.{◌≡◌, ℕ, ℤ, pos, true, cond, List, [], ◌∷◌, Option, Some, None, slice_get, option_map, Contains}
use Rattle.cc_meaning.specs.declared.instruction.TypeRef.{TypeRef}
use Rattle.cc_meaning.specs.declared.instruction.TypeRef.TheVariants as type
use Rattle.cc_meaning.specs.declared.program.Code.{Code}
use Rattle.cc_meaning.specs.declared.program.DexType.{DexType}
use Rattle.cc_meaning.specs.declared.program.Field.{Field}
use Rattle.cc_meaning.specs.declared.program.Method.{Method}
use Rattle.cc_meaning.specs.declared.program.MethodKind.TheVariants as kinds
use Rattle.cc_meaning.specs.declared.program.Placed.{Placed}
use Rattle.cc_meaning.specs.declared.program.Program.{Program}
use Rattle.cc_meaning.specs.declared.program.RegType.{RegType}
use Rattle.cc_meaning.specs.declared.program.RegType.TheVariants.{Unset, Int, Zero, LongLow, LongHigh, Reference, Fresh}
use Rattle.cc_meaning.specs.declared.value.Cell.{Cell}
use Rattle.cc_meaning.specs.declared.value.Cell.TheVariants as cell
use Rattle.cc_meaning.specs.declared.value.Made.{Made}
use Rattle.cc_meaning.specs.declared.value.Object.{Object}
use Rattle.cc_meaning.specs.declared.value.Object.TheVariants as object
use Rattle.cc_meaning.specs.declared.value.Value.{Value}
use Rattle.cc_meaning.specs.declared.value.Value.TheVariants as value
use Rattle.cc_meaning.specs.BuiltIn.{string_builder_name}
use Rattle.cc_meaning_typing.specs.declared.state.Pending.{Pending}
use Rattle.cc_meaning_typing.specs.declared.state.Pending.TheVariants.{Nothing, Result, Exception}
use Rattle.cc_meaning_typing.specs.declared.state.State.{State}
use Rattle.cc_meaning_typing.specs.Types.{class_type, array_of, held, IsBelow}
use Rattle.cc_meaning_typing.specs.Registers.{register_of}
use Rattle.cc_meaning_typing.specs.Code.{Body, throwable_type, type_of_class, type_made_at, successors, can_throw}
use Rattle.cc_meaning_typing.specs.Rules.{after}
use Rattle.cc_meaning_typing.specs.WellTyped.{can_be_made}
use Rattle.cc_meaning_world.specs.Acts.{units_of, Outcome, Next, Enter, Returns, Throws, Stops, Stuck}
use Rattle.cc_meaning_world.specs.Layouts.{shape}
use Rattle.cc_meaning_world.specs.Sorts.{Sort, Instance, Array, Text, Constant, sort_of, number_of, type_of}
use Rattle.cc_meaning_world.specs.World.{World, Locals}

-- ---- what stays of a heap

-- The objects of a heap by what never changes of them. All that follows is said of this, so that it outlasts every write.
abbrev pub Heap : Type 0
Heap = ℕ → Option Sort

abbrev pub heap_of : World → Heap
heap_of w a = option_map sort_of (slice_get w.objects a)

-- the second has each object of the first, at its number and with its sort
abbrev pub Grows : Heap → Heap → Type 0
Grows h h' = (a : ℕ) (sort : Sort) → h a ≡ Some sort → h' a ≡ Some sort

-- ---- the classes of objects

-- An instance's class is one that can be made: no interface or abstract class of the file, no array's class, neither String nor StringBuilder (texts and builders
-- have forms of their own), System or PrintStream. An image that is read may have no others.
pub record IsInstanceClass (p : Program) (class : ℕ) : Type 0 where
  pub made : can_be_made (slice_get p.classes class) ≡ true
  pub no_builder : class ≡ number_of p string_builder_name → ⊥
  pub no_array : type_of_class p class ≡ class_type class

-- an instance's class is one that has instances, and an array's class is an array
abbrev pub SortFits : Program → Sort → Type 0
SortFits p (Instance class fields) = IsInstanceClass p class
SortFits p (Array class elements) = (element : DexType) × (type_of_class p class ≡ array_of element)
SortFits p _ = Unit {0}

-- ---- values

-- null, or an object whose type, as it is held, is below a held type
abbrev pub RefFits : Program → Heap → DexType → Option ℕ → Type 0
RefFits p h type None = Unit {0}
RefFits p h type (Some a) = (sort : Sort) × (h a ≡ Some sort) × IsBelow p (held p (type_of p sort)) type × SortFits p sort

-- A value is what a register type says of the first register of a declared type. It is as fields, elements, arguments and results hold it: null is no number.
pub data ValueFits (p : Program) (h : Heap) : RegType → Value → Type 0 where
  int : {n : ℤ} → ValueFits p h Int (value.Int n)
  long : {n : ℤ} → ValueFits p h LongLow (value.Long n)
  reference : {type : DexType} {o : Option ℕ} → RefFits p h type o → ValueFits p h (Reference type) (value.Obj o)

-- a value fits a declared type
abbrev pub FitsType : Program → Heap → DexType → Value → Type 0
FitsType p h type v = ValueFits p h (register_of p type) v

-- ---- objects

-- at each place that has a declared type stands a value that fits it
abbrev pub ValuesFit : Program → Heap → List DexType → List Value → Type 0
ValuesFit p h types values = (i : ℕ) (type : DexType) → slice_get types i ≡ Some type → (v : Value) × (slice_get values i ≡ Some v) × FitsType p h type v

-- each element fits the type of an array's elements
abbrev pub ElementsFit : Program → Heap → DexType → List Value → Type 0
ElementsFit p h element values = (i : ℕ) (v : Value) → slice_get values i ≡ Some v → FitsType p h element v

-- an instance's values fit the types of its class's fields, an array's elements the type of its elements
abbrev pub ObjectFits : Program → Heap → Object → Type 0
ObjectFits p h (object.Instance class values) = IsInstanceClass p class × ValuesFit p h (shape p class) values
ObjectFits p h (object.Array class values) = (element : DexType) × (type_of_class p class ≡ array_of element) × ElementsFit p h element values
ObjectFits p h _ = Unit {0}

-- ---- the world

-- what a literal of this number makes
abbrev pub literal_sort : Program → ℕ → Sort
literal_sort p text = Text (units_of (slice_get p.texts text))

-- A world fits a program: its objects, its static fields, its literals and its class constants do. Of statuses, counters, cursors and events nothing is said.
pub record WorldFits (p : Program) (w : World) : Type 0 where
  pub objects : (a : ℕ) (o : Object) → slice_get w.objects a ≡ Some o → ObjectFits p (heap_of w) o
  pub statics : (f : ℕ) (field : Field) → slice_get p.fields f ≡ Some field → field.is_static ≡ true → (v : Value) × (slice_get w.statics f ≡ Some v) × FitsType p (heap_of w) field.ty v
  -- what was made for a literal is its text, and what was made for a class constant is that of its class
  pub literals : (i : ℕ) (made : Made) → slice_get w.literals i ≡ Some made → heap_of w made.number ≡ Some (literal_sort p made.what)
  pub constants : (i : ℕ) (made : Made) → slice_get w.constants i ≡ Some made → heap_of w made.number ≡ Some (Constant made.what)

-- ---- frames

-- A register's cell is what a register type says, where `made` gives the types that addresses make. Of Unset nothing is said. The literal 0 stands as an int
-- also where it is known as a reference, since it may be either. Half of a long stands by itself. A fresh object is one of exactly the class that its address makes.
pub data CellFits (p : Program) (made : ℕ → Option TypeRef) (h : Heap) : RegType → Cell → Type 0 where
  unset : {c : Cell} → CellFits p made h Unset c
  int : {n : ℤ} → CellFits p made h Int (cell.Value (value.Int n))
  zero_int : CellFits p made h Zero (cell.Value (value.Int (pos 0)))
  low : {n : ℤ} → CellFits p made h LongLow (cell.Value (value.Long n))
  high : CellFits p made h LongHigh cell.High
  zero_null : {type : DexType} → CellFits p made h (Reference type) (cell.Value (value.Int (pos 0)))
  reference : {type : DexType} {o : Option ℕ} → RefFits p h type o → CellFits p made h (Reference type) (cell.Value (value.Obj o))
  fresh : {at a : ℕ} (sort : Sort) → h a ≡ Some sort → SortFits p sort → made at ≡ Some (type.Known (type_of p sort)) → CellFits p made h (Fresh at) (cell.Value (value.Obj (Some a)))

-- each register's cell is what its register type says, one by one
pub data AllFit (p : Program) (made : ℕ → Option TypeRef) (h : Heap) : List RegType → List Cell → Type 0 where
  none : AllFit p made h [] []
  each : {a : RegType} {c : Cell} {rs : List RegType} {cs : List Cell} → CellFits p made h a c → AllFit p made h rs cs → AllFit p made h (a ∷ rs) (c ∷ cs)

-- what is pending is a result of its declared type, or an exception of its held one
pub data PendingFits (p : Program) (h : Heap) : Pending → Option Value → Type 0 where
  nothing : {v : Option Value} → PendingFits p h Nothing v
  result : {type : DexType} {v : Value} → FitsType p h type v → PendingFits p h (Result type) (Some v)
  exception : {type : DexType} {a : ℕ} → RefFits p h type (Some a) → PendingFits p h (Exception type) (Some (value.Obj (Some a)))

-- a frame fits a state: its registers do, and what is pending
pub record FrameFits (p : Program) (code : Code) (h : Heap) (s : State) (locals : Locals) : Type 0 where
  pub registers : AllFit p (type_made_at code) h s.registers locals.cells
  pub pending : PendingFits p h s.pending locals.pending

-- ---- calls

-- a result fits a method's: none where it has none, else a value of its type
pub data ResultFits (p : Program) (h : Heap) : Option DexType → Option Value → Type 0 where
  void : ResultFits p h None None
  gives : {type : DexType} {v : Value} → FitsType p h type v → ResultFits p h (Some type) (Some v)

-- values fit declared types, one by one
pub data ArgumentsFit (p : Program) (h : Heap) : List DexType → List Value → Type 0 where
  no_more : ArgumentsFit p h [] []
  one : {type : DexType} {types : List DexType} {v : Value} {vs : List Value} → FitsType p h type v → ArgumentsFit p h types vs → ArgumentsFit p h (type ∷ types) (v ∷ vs)

-- the declared types of a method's arguments, the receiver's first
unfoldable pub argument_types : Method → List DexType
argument_types method = cond method.is_static method.params (class_type method.class ∷ method.params)

-- a value's object is there
abbrev pub IsThere : Heap → Value → Type 0
IsThere h (value.Obj (Some a)) = (sort : Sort) × (h a ≡ Some sort)
IsThere h _ = Unit {0}

-- the objects of all these values are there
abbrev pub AreThere : Heap → List Value → Type 0
AreThere h [] = Unit {0}
AreThere h (v ∷ vs) = IsThere h v × AreThere h vs

-- what an entered method is: one with code, whose arguments fit
pub record CallFits (p : Program) (h : Heap) (m : ℕ) (args : List Value) : Type 0 where
  pub callee : Method
  pub code : Code
  pub named : slice_get p.methods m ≡ Some callee
  pub kind : callee.kind ≡ kinds.Code code
  pub arguments : ArgumentsFit p h (argument_types callee) args

-- ---- where an instruction leads

-- an object that can be thrown
abbrev pub ThrownFits : Program → Heap → ℕ → Type 0
ThrownFits p h a = RefFits p h (throwable_type p) (Some a)

-- Where an instruction at an address leads whose frame fitted a state: never to Stuck; on to a successor with a frame that fits the state after; into a method
-- whose arguments fit, and back with each result of it to a frame that fits then; to a result that fits the method's; and to an exception only where
-- handlers are looked for.
abbrev pub OutcomeFits : Body → Placed → State → Locals → Heap → Outcome → Type 0
OutcomeFits body placed s locals h (Next pc locals') =
    Contains (successors body.code placed) (Some pc) × FrameFits body.program body.code h (after body.program placed.at s placed.insn) locals'
OutcomeFits body placed s locals h (Enter m args next) =
    (call : CallFits body.program h m args) × Contains (successors body.code placed) (Some next) × (can_throw placed.insn ≡ true)
    × ((h' : Heap) (v : Option Value) → Grows h h' → ResultFits body.program h' call.callee.result v → FrameFits body.program body.code h' (after body.program placed.at s placed.insn) (record locals { pending = v }))
OutcomeFits body placed s locals h (Returns v) = ResultFits body.program h body.method.result v
OutcomeFits body placed s locals h (Throws a) = ThrownFits body.program h a × (can_throw placed.insn ≡ true)
OutcomeFits body placed s locals h (Stops c) = Unit {0}
OutcomeFits body placed s locals h Stuck = ⊥
