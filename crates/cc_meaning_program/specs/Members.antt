-- The methods and fields of a program.
use Rattle.std.specs.Prelude.{◌≡◌, ◌≢◌, ℕ, Bool, true, false, not, List, [], ◌∷◌, ◌++◌, map, Option, Some, None, slice_get, Contains, codes}
use Rattle.cc_meaning.specs.declared.file.FieldRow.{FieldRow}
use Rattle.cc_meaning.specs.declared.file.Ids.{Ids}
use Rattle.cc_meaning.specs.declared.file.MethodRow.{MethodRow}
use Rattle.cc_meaning.specs.declared.file.ProtoRow.{ProtoRow}
use Rattle.cc_meaning.specs.declared.file.RawCatch.{RawCatch}
use Rattle.cc_meaning.specs.declared.file.RawClass.{RawClass}
use Rattle.cc_meaning.specs.declared.file.RawCode.{RawCode}
use Rattle.cc_meaning.specs.declared.file.RawField.{RawField}
use Rattle.cc_meaning.specs.declared.file.RawMethod.{RawMethod}
use Rattle.cc_meaning.specs.declared.file.RawTry.{RawTry}
use Rattle.cc_meaning.specs.declared.instruction.How.{How}
use Rattle.cc_meaning.specs.declared.instruction.How.TheVariants as how
use Rattle.cc_meaning.specs.declared.instruction.Insn.{Insn}
use Rattle.cc_meaning.specs.declared.instruction.Insn.TheVariants as insn
use Rattle.cc_meaning.specs.declared.program.Catch.{Catch}
use Rattle.cc_meaning.specs.declared.program.Code.{Code}
use Rattle.cc_meaning.specs.declared.program.DexType.{DexType}
use Rattle.cc_meaning.specs.declared.program.Field.{Field}
use Rattle.cc_meaning.specs.declared.program.Method.{Method}
use Rattle.cc_meaning.specs.declared.program.MethodKind.{MethodKind}
use Rattle.cc_meaning.specs.declared.program.MethodKind.TheVariants as kinds
use Rattle.cc_meaning.specs.declared.program.Placed.{Placed}
use Rattle.cc_meaning.specs.declared.program.Program.{Program}
use Rattle.cc_meaning.specs.declared.program.Try.{Try}
use Rattle.cc_meaning.specs.BuiltIn.{system_name, out_name, print_stream_name}
use Rattle.cc_built_in.specs.BuiltInMethods.{BuiltInMethod}
use Rattle.cc_meaning_dex.specs.CodeItems.{has_flag}
use Rattle.cc_meaning_program.specs.ClassNames.{IsClassName}
use Rattle.cc_meaning_program.specs.Instructions.{AreInstructions}
use Rattle.cc_meaning_program.specs.Named.{text_of, type_name}
use Rattle.cc_meaning_program.specs.OwnMembers.{method_defined, field_defined, method_listed, is_constructor}
use Rattle.cc_meaning_program.specs.Naming.{ClassesAre, NamesMethod, NamesField}
use Rattle.cc_meaning_program.specs.declared.reference.Reference.TheVariants as reference
use Rattle.cc_meaning_program.specs.References.{reference_of}
use Rattle.cc_meaning_program.specs.TypeNames.{Spells}
use Rattle.cc_meaning_program.specs.Resolved.{names_of, PlacedResolved}
use Rattle.cc_meaning_program.specs.Searches.{First}

-- each of the ones goes with the other in its place, and there are as many
pub data Pairs {A B : Type 0} (holds : A → B → Type 0) : List A → List B → Type 0 where
  none : Pairs holds [] []
  next : {x : A} {y : B} {xs : List A} {ys : List B} → holds x y → Pairs holds xs ys → Pairs holds (x ∷ xs) (y ∷ ys)

-- ---- the first instruction that names a member

unfoldable pub how_invoked : Insn → Option How
how_invoked (insn.Invoke how named args) = Some how
how_invoked other = None

unfoldable pub is_static_call : Option How → Bool
is_static_call (Some how.Static) = true
is_static_call _ = false

unfoldable pub is_virtual_call : Option How → Bool
is_virtual_call (Some how.Static) = false
is_virtual_call (Some how.Direct) = false
is_virtual_call _ = true

-- ---- a method's code

abbrev pub CatchKind : Ids → Program → Option ℕ → Option DexType → Type 0
CatchKind ids program None None = Unit {0}
CatchKind ids program (Some row) (Some type) = Spells (names_of program) type (type_name ids row)
CatchKind ids program _ _ = ⊥

pub record CatchResolved (ids : Ids) (program : Program) (raw : RawCatch) (catch : Catch) : Type 0 where
  pub at : catch.at ≡ raw.at
  pub kind : CatchKind ids program raw.row catch.kind

pub record TryResolved (ids : Ids) (program : Program) (raw : RawTry) (try : Try) : Type 0 where
  pub start : try.start ≡ raw.start
  pub end : try.end ≡ raw.end
  pub catches : Pairs (CatchResolved ids program) raw.catches try.catches

pub record CodeResolved (ids : Ids) (classes : List RawClass) (program : Program) (raw : RawCode) (code : Code) : Type 0 where
  pub registers : code.registers ≡ raw.registers
  pub ins : code.ins ≡ raw.ins
  pub decoded : List Placed
  pub instructions : AreInstructions raw.units decoded
  pub insns : Pairs (PlacedResolved ids classes program) decoded code.insns
  pub tries : Pairs (TryResolved ids program) raw.tries code.tries

-- native before abstract, and code for what is neither
pub data KindResolved (ids : Ids) (classes : List RawClass) (program : Program) (raw : RawMethod) : MethodKind → Type 0 where
  native : has_flag raw.flags 256 ≡ true → KindResolved ids classes program raw kinds.Native
  abstract : has_flag raw.flags 256 ≡ false → has_flag raw.flags 1024 ≡ true → KindResolved ids classes program raw kinds.Abstract
  code : {units : RawCode} {code : Code} → has_flag raw.flags 256 ≡ false → has_flag raw.flags 1024 ≡ false → raw.code ≡ Some units → CodeResolved ids classes program units code → KindResolved ids classes program raw (kinds.Code code)

-- ---- methods

-- the descriptor of a result: V where there is none
abbrev pub ResultSpelled : List (List ℕ) → Option DexType → List ℕ → Type 0
ResultSpelled names None text = text ≡ codes "V"
ResultSpelled names (Some type) text = Spells names type text

-- a method's name and types are those of a row of methods
pub record IsNamedBy (ids : Ids) (program : Program) (row : ℕ) (method : Method) : Type 0 where
  pub stated : MethodRow
  pub there : slice_get ids.methods row ≡ Some stated
  pub prototype : ProtoRow
  pub typed : slice_get ids.protos stated.proto ≡ Some prototype
  pub name : method.name ≡ text_of ids stated.name
  pub params : Pairs (Spells (names_of program)) method.params (map (type_name ids) prototype.params)
  pub result : ResultSpelled (names_of program) method.result (type_name ids prototype.result)

-- A method of a class, by its name within the class: one that the file defines, a built-in one, or one that only instructions name.
pub data IsMethod (ids : Ids) (classes : List RawClass) (program : Program) (owner member : List ℕ) (method : Method) : Type 0 where
  defined : {raw : RawMethod} → method_defined ids classes owner member ≡ Some raw → IsNamedBy ids program raw.row method → method.is_static ≡ has_flag raw.flags 8 → method.is_virtual ≡ not raw.is_direct → KindResolved ids classes program raw method.kind → IsMethod ids classes program owner member method
  built_in : {listed : BuiltInMethod} → method_defined ids classes owner member ≡ None → method_listed ids owner member ≡ Some listed → method.name ≡ listed.name → Pairs (Spells (names_of program)) method.params listed.params → ResultSpelled (names_of program) method.result listed.result → method.is_static ≡ false → method.is_virtual ≡ not (is_constructor member) → method.kind ≡ kinds.BuiltIn → IsMethod ids classes program owner member method
  outside : {all : List Placed} {first : Placed} {row : ℕ} → method_defined ids classes owner member ≡ None → method_listed ids owner member ≡ None → ClassesAre classes all → First (NamesMethod ids classes owner member) all first → reference_of first.insn ≡ Some (reference.Method row) → IsNamedBy ids program row method → method.is_static ≡ is_static_call (how_invoked first.insn) → method.is_virtual ≡ is_virtual_call (how_invoked first.insn) → method.kind ≡ kinds.Outside → IsMethod ids classes program owner member method

-- which methods a program has: those that the file defines, the built-in ones of its classes, and those that its instructions name
pub data BelongsMethod (ids : Ids) (classes : List RawClass) (owner member : List ℕ) : Type 0 where
  defined : {raw : RawMethod} → method_defined ids classes owner member ≡ Some raw → BelongsMethod ids classes owner member
  built_in : {listed : BuiltInMethod} → IsClassName ids owner → method_listed ids owner member ≡ Some listed → BelongsMethod ids classes owner member
  named : {all : List Placed} {placed : Placed} → ClassesAre classes all → Contains all placed → NamesMethod ids classes owner member placed → BelongsMethod ids classes owner member

-- ---- fields

-- `System.out` within its class
unfoldable pub out_member : List ℕ
out_member = out_name ++ codes ":" ++ print_stream_name

pub record FieldIsNamedBy (ids : Ids) (program : Program) (row : ℕ) (field : Field) : Type 0 where
  pub stated : FieldRow
  pub there : slice_get ids.fields row ≡ Some stated
  pub name : field.name ≡ text_of ids stated.name
  pub ty : Spells (names_of program) field.ty (type_name ids stated.kind)

-- A field of a class, by its name within the class. One that no class of the file has is static, as `System.out` is.
pub data IsField (ids : Ids) (classes : List RawClass) (program : Program) (owner member : List ℕ) (field : Field) : Type 0 where
  defined : {raw : RawField} → field_defined ids classes owner member ≡ Some raw → FieldIsNamedBy ids program raw.row field → field.is_static ≡ raw.is_static → IsField ids classes program owner member field
  out : owner ≡ system_name → member ≡ out_member → field_defined ids classes owner member ≡ None → field.name ≡ out_name → Spells (names_of program) field.ty print_stream_name → field.is_static ≡ true → IsField ids classes program owner member field
  outside : {all : List Placed} {first : Placed} {row : ℕ} → (member ≡ out_member → owner ≢ system_name) → field_defined ids classes owner member ≡ None → ClassesAre classes all → First (NamesField ids classes owner member) all first → reference_of first.insn ≡ Some (reference.Field row) → FieldIsNamedBy ids program row field → field.is_static ≡ true → IsField ids classes program owner member field

-- which fields a program has: those that the file defines, `System.out`, and those that its instructions name
pub data BelongsField (ids : Ids) (classes : List RawClass) (owner member : List ℕ) : Type 0 where
  defined : {raw : RawField} → field_defined ids classes owner member ≡ Some raw → BelongsField ids classes owner member
  out : owner ≡ system_name → member ≡ out_member → BelongsField ids classes owner member
  named : {all : List Placed} {placed : Placed} → ClassesAre classes all → Contains all placed → NamesField ids classes owner member placed → BelongsField ids classes owner member
