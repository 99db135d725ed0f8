-- A worked example of outside exceptions, which aren't loose: what registers hold of one, what is below it, and where it is thrown, caught and handed on.
use Rattle.std.specs.Prelude.{◌≡◌, ℕ, true, false, List, [], ◌∷◌, Option, Some, None, codes}
use Rattle.cc_meaning.specs.declared.instruction.How.TheVariants as how
use Rattle.cc_meaning.specs.declared.instruction.Insn.{Insn}
use Rattle.cc_meaning.specs.declared.instruction.Insn.TheVariants as insn
use Rattle.cc_meaning.specs.declared.instruction.Kind.TheVariants as kind
use Rattle.cc_meaning.specs.declared.instruction.MethodRef.TheVariants as ref
use Rattle.cc_meaning.specs.declared.instruction.TypeRef.TheVariants as type
use Rattle.cc_meaning.specs.declared.program.Class.{Class}
use Rattle.cc_meaning.specs.declared.program.ClassKind.TheVariants as origin
use Rattle.cc_meaning.specs.declared.program.Code.{Code}
use Rattle.cc_meaning.specs.declared.program.DexType.{DexType}
use Rattle.cc_meaning.specs.declared.program.Field.{Field}
use Rattle.cc_meaning.specs.declared.program.Method.{Method}
use Rattle.cc_meaning.specs.declared.program.MethodKind.TheVariants as kinds
use Rattle.cc_meaning.specs.declared.program.Program.{Program}
use Rattle.cc_meaning.specs.declared.program.RegType.{RegType}
use Rattle.cc_meaning.specs.declared.program.RegType.TheVariants.{Unset, Int, Reference, Fresh}
use Rattle.cc_meaning.specs.BuiltIn.{object_name, string_name, throwable_name, exception_name}
use Rattle.cc_meaning_typing.specs.declared.state.Pending.{Pending}
use Rattle.cc_meaning_typing.specs.declared.state.Pending.TheVariants.{Nothing, Result, Exception}
use Rattle.cc_meaning_typing.specs.declared.state.State.{State}
use Rattle.cc_meaning_typing.specs.Hierarchy.{IsHierarchy}
use Rattle.cc_meaning_typing.specs.Types.{class_type, array_of, held, least_above, IsBelow, fits_class}
use Rattle.cc_meaning_typing.specs.Registers.{Fits, join}
use Rattle.cc_meaning_typing.specs.States.{opening}
use Rattle.cc_meaning_typing.specs.Code.{Body}
use Rattle.cc_meaning_typing.specs.Rules.{Accepts, after, handler_state}
use Rattle.cc_meaning_typing.specs.Worked.{class_of, place, catch_of, holding}

-- LA;, and LE; and LF; below the outside exception Lx/FooException;, which stands below Exception
abbrev pub classes : List Class
classes =
    class_of (codes "LA;") origin.File (Some 4)
    ∷ class_of (codes "LE;") origin.File (Some 7)
    ∷ class_of (codes "LF;") origin.File (Some 7)
    ∷ class_of exception_name origin.BuiltIn (Some 6)
    ∷ class_of object_name origin.BuiltIn None
    ∷ class_of string_name origin.BuiltIn (Some 4)
    ∷ class_of throwable_name origin.BuiltIn (Some 4)
    ∷ class_of (codes "Lx/FooException;") origin.OutsideError (Some 3)
    ∷ []

abbrev pub a_type : DexType
a_type = class_type 0

abbrev pub e_type : DexType
e_type = class_type 1

abbrev pub f_type : DexType
f_type = class_type 2

abbrev pub exceptions : DexType
exceptions = class_type 3

abbrev pub objects : DexType
objects = class_type 4

abbrev pub strings : DexType
strings = class_type 5

abbrev pub throwables : DexType
throwables = class_type 6

abbrev pub foo : DexType
foo = class_type 7

-- a method of a class with these parameters and this result
abbrev pub method_of : ℕ → List ℕ → List DexType → Option DexType → Method
method_of class name params answer = record { class = class; name = name; params = params; result = answer; is_static = false; is_virtual = true; kind = kinds.Outside }

-- a method that takes and gives an exception
abbrev pub passes : Method
passes = method_of 0 (codes "m") (foo ∷ []) (Some foo)

abbrev pub makes : Method
makes = method_of 7 (codes "<init>") [] None

abbrev pub foo_field : Field
foo_field = record { class = 0; name = codes "f"; ty = foo; is_static = false }

abbrev pub program : Program
program = record { classes = classes; methods = passes ∷ makes ∷ []; fields = foo_field ∷ []; texts = []; main = 0 }

-- an exception is made at 2
abbrev pub code : Code
code = record { registers = 6; ins = 0; insns = place 2 2 (insn.NewInstance 0 (type.Known foo)) ∷ []; tries = [] }

abbrev pub body : Body
body = record { program = program; method = passes; code = code }

abbrev pub Gives : State → Insn → State → Type 0
Gives s i t = Accepts body 2 s i × (after program 2 s i ≡ t)

abbrev pub Refuses : State → Insn → Type 0
Refuses s i = Accepts body 2 s i → ⊥

-- one register holds a reference, and something is pending
abbrev pub one : RegType → Pending → State
one a pending = holding (a ∷ Unset ∷ Unset ∷ Unset ∷ Unset ∷ Unset ∷ []) pending

abbrev pub two : DexType → RegType → Pending → State
two a b pending = holding (Reference a ∷ b ∷ Unset ∷ Unset ∷ Unset ∷ Unset ∷ []) pending

pub record ErrorTypesHold : Type 0 where
  pub hierarchy : IsHierarchy program
  pub itself : held program foo ≡ foo
  pub in_array : held program (array_of foo) ≡ array_of foo
  pub siblings : least_above program e_type f_type ≡ foo
  pub joined : join program (Reference e_type) (Reference f_type) ≡ Reference foo
  pub with_built_in : least_above program e_type exceptions ≡ exceptions
  pub with_text : least_above program foo strings ≡ objects
  pub arrays : least_above program (array_of e_type) (array_of f_type) ≡ array_of foo
  pub below : IsBelow program foo throwables
  pub fits : Fits program (Reference e_type) foo
  pub no_text : Fits program (Reference strings) foo → ⊥
  pub no_exception : Fits program (Reference exceptions) foo → ⊥
  pub no_array_of_texts : Fits program (Reference (array_of strings)) (array_of foo) → ⊥
  pub by_number : fits_class program 1 7 ≡ true
  pub no_text_by_number : fits_class program 5 7 ≡ false

pub record ErrorsHold : Type 0 where
  pub made : Gives (one (Fresh 2) Nothing) (insn.Invoke how.Direct (ref.Known 7 1) (0 ∷ [])) (one (Reference foo) Nothing)
  pub thrown : Gives (one (Reference foo) Nothing) (insn.Throw 0) (one (Reference foo) Nothing)
  pub subclass_thrown : Gives (one (Reference e_type) Nothing) (insn.Throw 0) (one (Reference e_type) Nothing)
  pub handled : handler_state program (one Int Nothing) (catch_of (Some foo) 7) ≡ one Int (Exception foo)
  pub caught : Gives (one Int (Exception foo)) (insn.MoveException 0) (one (Reference foo) Nothing)
  pub cast : Gives (one (Reference objects) Nothing) (insn.CheckCast 0 (type.Known foo)) (one (Reference foo) Nothing)
  pub argument : Gives (two a_type (Reference e_type) Nothing) (insn.Invoke how.Virtual (ref.Known 0 0) (0 ∷ 1 ∷ [])) (two a_type (Reference e_type) (Result foo))
  pub no_text_as_argument : Refuses (two a_type (Reference strings) Nothing) (insn.Invoke how.Virtual (ref.Known 0 0) (0 ∷ 1 ∷ []))
  pub result : Gives (one Int (Result foo)) (insn.MoveResult kind.Object 0) (one (Reference foo) Nothing)
  pub returned : Accepts body 2 (one (Reference e_type) Nothing) (insn.Return kind.Object 0)
  pub no_text_returned : Refuses (one (Reference strings) Nothing) (insn.Return kind.Object 0)
  pub got : Gives (two a_type Unset Nothing) (insn.FieldGet kind.Object 1 0 0) (two a_type (Reference foo) Nothing)
  pub put : Gives (two a_type (Reference f_type) Nothing) (insn.FieldPut kind.Object 1 0 0) (two a_type (Reference f_type) Nothing)
  pub no_text_put : Refuses (two a_type (Reference strings) Nothing) (insn.FieldPut kind.Object 1 0 0)
  pub element : Gives (two (array_of foo) Int Nothing) (insn.ArrayGet kind.Object 1 0 1) (two (array_of foo) (Reference foo) Nothing)
  pub filled : Gives (one (Reference e_type) Nothing) (insn.FilledNewArray (type.Known (array_of foo)) (0 ∷ [])) (one (Reference e_type) (Result (array_of foo)))
  pub no_text_filled : Refuses (one (Reference strings) Nothing) (insn.FilledNewArray (type.Known (array_of foo)) (0 ∷ []))
  pub opens : opening program passes code ≡ holding (Unset ∷ Unset ∷ Unset ∷ Unset ∷ Reference a_type ∷ Reference foo ∷ []) Nothing
