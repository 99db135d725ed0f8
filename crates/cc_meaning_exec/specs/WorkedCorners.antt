-- Worked examples: corners of casts, calls, starts and scripts.
use Rattle.std.specs.Prelude.{◌≡◌, ℕ, pos, true, false, List, [], ◌∷◌, codes, Option, Some, None, slice_get}
use Rattle.cc_meaning.specs.declared.instruction.How.TheVariants as how
use Rattle.cc_meaning.specs.declared.instruction.Insn.{Insn}
use Rattle.cc_meaning.specs.declared.instruction.Insn.TheVariants as insn
use Rattle.cc_meaning.specs.declared.instruction.IntOp.TheVariants as op
use Rattle.cc_meaning.specs.declared.instruction.Kind.TheVariants as kind
use Rattle.cc_meaning.specs.declared.instruction.MethodRef.TheVariants as ref
use Rattle.cc_meaning.specs.declared.instruction.Test.TheVariants as test
use Rattle.cc_meaning.specs.declared.instruction.TypeRef.TheVariants as type
use Rattle.cc_meaning.specs.declared.program.Base.TheVariants as base
use Rattle.cc_meaning.specs.declared.program.Class.{Class}
use Rattle.cc_meaning.specs.declared.program.Code.{Code}
use Rattle.cc_meaning.specs.declared.program.DexType.{DexType}
use Rattle.cc_meaning.specs.declared.program.Method.{Method}
use Rattle.cc_meaning.specs.declared.program.MethodKind.TheVariants as kinds
use Rattle.cc_meaning.specs.declared.program.Program.{Program}
use Rattle.cc_meaning.specs.declared.program.StaticValue.TheVariants as static
use Rattle.cc_meaning.specs.declared.report.Answer.TheVariants as answer
use Rattle.cc_meaning.specs.declared.report.StopCause.TheVariants as cause
use Rattle.cc_meaning.specs.declared.script.Given.{Given}
use Rattle.cc_meaning.specs.declared.script.Script.{Script}
use Rattle.cc_meaning.specs.BuiltIn.{abstract_method_error_name, class_cast_exception_name, incompatible_class_change_error_name, no_class_def_found_error_name, stack_overflow_error_name}
use Rattle.cc_meaning_world.specs.Scripts.{is_held}
use Rattle.cc_meaning_exec.specs.Eval.{Ran, ran}
use Rattle.cc_meaning_exec.specs.WorkedPrograms.{file_class, interface, outside_class, array_class_named, code, code_with, try_of, catch_of, static_method, virtual_method, field_of, program_of, no_script, limits, int_type, class_type_of, ints, called_with, shown_end, Shown, Throws, Stops, gives_int}

-- Classes 0 to 11: A; J, an interface whose superclass is A; an outside class O; arrays of ints, of A, of J, of O and of texts; E, whose initialiser throws an
-- error, and F below it; D, whose initialiser divides by zero; S, whose static is stated as a text. Object is 12, String 13, PrintStream 16.
abbrev pub classes : List Class
classes =
    file_class (codes "LA;") 12
    ∷ interface (codes "LJ;") 0
    ∷ outside_class (codes "LO;") 12
    ∷ array_class_named (codes "[I") 12
    ∷ array_class_named (codes "[LA;") 12
    ∷ array_class_named (codes "[LJ;") 12
    ∷ array_class_named (codes "[LO;") 12
    ∷ array_class_named (codes "[Ljava/lang/String;") 12
    ∷ record (file_class (codes "LE;") 12) { initialiser = Some 4 }
    ∷ file_class (codes "LF;") 8
    ∷ record (file_class (codes "LD;") 12) { initialiser = Some 8 }
    ∷ record (file_class (codes "LS;") 12) { values = static.Text 0 ∷ [] }
    ∷ []

abbrev pub new : ℕ → ℕ → Insn
new to class = insn.NewInstance to (type.Known (class_type_of class))

-- StackOverflowError is 37 here
abbrev pub methods : Code → List Method
methods body =
    static_method 0 (codes "f") [] None (kinds.Code body)
    ∷ virtual_method 1 (codes "g") [] (Some int_type) kinds.Abstract
    ∷ static_method 0 (codes "a") [] None kinds.Abstract
    ∷ static_method 8 (codes "a") [] None kinds.Abstract
    ∷ static_method 8 (codes "<clinit>") [] None (kinds.Code (code 1 (new 0 37 ∷ insn.Throw 0 ∷ [])))
    ∷ virtual_method 3 (codes "clone") [] (Some (class_type_of 12)) kinds.BuiltIn
    ∷ virtual_method 2 (codes "h") [] (Some int_type) kinds.Outside
    ∷ static_method 2 (codes "t") (class_type_of 12 ∷ []) (Some (class_type_of 13)) kinds.Outside
    ∷ static_method 10 (codes "<clinit>") [] None (kinds.Code (code 1 (insn.ConstInt 0 (pos 0) ∷ insn.IntOp op.Div 0 0 0 ∷ insn.ReturnVoid ∷ [])))
    ∷ virtual_method 16 (codes "println") [] None kinds.BuiltIn
    ∷ static_method 2 (codes "n") [] (Some int_type) kinds.Outside
    ∷ []

abbrev pub program : Code → Program
program body = program_of classes (methods body)
    (field_of 10 (codes "d") int_type true ∷ field_of 9 (codes "x") int_type true ∷ field_of 11 (codes "t") (class_type_of 13) true ∷ []) (codes "a" ∷ [])

unfoldable pub does_in_words : ℕ → Script → Code → Shown
does_in_words words script body = shown_end (program body) (called_with script (program body) (limits 100 words) 0 [])

unfoldable pub does : List Insn → Shown
does insns = does_in_words 100 no_script (code 4 insns)

unfoldable pub status_in : {T : Type 0} → ℕ → Ran T → Option ℕ
status_in class (ran e w t) = slice_get w.counters.statuses class

-- the status of a class where code stops that has so many words
unfoldable pub status_after : (class words : ℕ) → Code → Option ℕ
status_after class words body = status_in class (called_with no_script (program body) (limits 100 words) 0 [])

-- ---- casts

abbrev pub array_of_class : ℕ → DexType
array_of_class class = record { dims = 1; base = base.Class class }

-- an empty array of the first type, cast to the second, and then tested for it
abbrev pub cast : DexType → DexType → List Insn
cast from to = insn.ConstInt 0 (pos 0) ∷ insn.NewArray 0 0 (type.Known from) ∷ insn.CheckCast 0 (type.Known to) ∷ insn.InstanceOf 0 0 (type.Known to) ∷ insn.Return kind.Plain 0 ∷ []

pub record ArrayCastsHold : Type 0 where
  -- each reference passes as an element of an outside class, and none is an instance of it; a number is no reference
  pub outside : does (cast (array_of_class 0) (array_of_class 2)) ≡ gives_int (pos 0)
  pub numbers : does (cast ints (array_of_class 2)) ≡ Throws class_cast_exception_name
  -- the superclass of an interface isn't climbed
  pub interface_as_itself : does (cast (array_of_class 1) (array_of_class 1)) ≡ gives_int (pos 1)
  pub above_interface : does (cast (array_of_class 1) (array_of_class 0)) ≡ Throws class_cast_exception_name

-- ---- calls

abbrev pub result : List Insn
result = insn.MoveResult kind.Plain 0 ∷ insn.Return kind.Plain 0 ∷ []

-- 1 where two registers are the same object, else 0
abbrev pub same : List Insn
same = insn.If test.Eq 0 1 (pos 3) ∷ insn.ConstInt 2 (pos 0) ∷ insn.Return kind.Plain 2 ∷ insn.ConstInt 2 (pos 1) ∷ insn.Return kind.Plain 2 ∷ []

pub record OtherCallsHold : Type 0 where
  -- a call by super that names an interface asks for it; a direct call doesn't
  pub by_super : does (new 0 0 ∷ insn.Invoke how.Super (ref.Known 1 1) (0 ∷ []) ∷ result) ≡ Throws incompatible_class_change_error_name
  pub direct : does (new 0 0 ∷ insn.Invoke how.Direct (ref.Known 1 1) (0 ∷ []) ∷ result) ≡ Throws abstract_method_error_name
  pub static_abstract : does (insn.Invoke how.Static (ref.Known 0 2) [] ∷ insn.ReturnVoid ∷ []) ≡ Throws abstract_method_error_name
  -- its class is started first
  pub started_abstract : does (insn.Invoke how.Static (ref.Known 8 3) [] ∷ insn.ReturnVoid ∷ []) ≡ Throws stack_overflow_error_name
  -- an outside method that no class of the receiver has is asked of the script
  pub outside : does (new 0 0 ∷ insn.Invoke how.Virtual (ref.Known 2 6) (0 ∷ []) ∷ result) ≡ Stops (cause.ScriptEnd 2)
  pub copied : does (insn.ConstInt 0 (pos 5) ∷ insn.NewArray 0 0 (type.Known ints) ∷ insn.Invoke how.Virtual (ref.Known 3 5) (0 ∷ []) ∷ insn.MoveResult kind.Object 1
      ∷ insn.ArrayLength 2 1 ∷ insn.Return kind.Plain 2 ∷ [])
      ≡ gives_int (pos 5)
  pub another : does (insn.ConstInt 0 (pos 5) ∷ insn.NewArray 0 0 (type.Known ints) ∷ insn.Invoke how.Virtual (ref.Known 3 5) (0 ∷ []) ∷ insn.MoveResult kind.Object 1 ∷ same)
      ≡ gives_int (pos 0)

-- ---- starts

abbrev pub reading : ℕ → Insn
reading field = insn.StaticGet kind.Plain 0 field

-- F is read again where its start has failed
abbrev pub again : Code
again = code_with 1 (reading 1 ∷ insn.ReturnVoid ∷ reading 1 ∷ insn.ReturnVoid ∷ []) (try_of 0 1 (catch_of None 2 ∷ []) ∷ [])

pub record OtherStartsHold : Type 0 where
  -- an error of an initialiser goes on as it is, and the class below fails with it
  pub error : does (reading 1 ∷ insn.ReturnVoid ∷ []) ≡ Throws stack_overflow_error_name
  pub below : does_in_words 100 no_script again ≡ Throws no_class_def_found_error_name
  -- a class whose initialiser threw has failed also where there are no words for the exception that wraps it
  pub no_words : does_in_words 5 no_script (code 1 (reading 0 ∷ insn.ReturnVoid ∷ [])) ≡ Stops cause.Heap
  pub failed_already : status_after 10 5 (code 1 (reading 0 ∷ insn.ReturnVoid ∷ [])) ≡ Some 3
  -- and it is in progress where there are none for what its initialiser throws
  pub in_progress : status_after 10 2 (code 1 (reading 0 ∷ insn.ReturnVoid ∷ [])) ≡ Some 1
  -- a text that is stated for a static is the literal of that text
  pub stated_text : does (insn.StaticGet kind.Object 0 2 ∷ insn.ConstText 1 0 ∷ same) ≡ gives_int (pos 1)

-- ---- scripts

abbrev pub script_with : List ℕ → List Given → List Given → Script
script_with unpinned free answers = record { classes = record { class = 2; unpinned = unpinned; free = free; answers = answers } ∷ [] }

abbrev pub given : (method number : ℕ) → Given
given m n = record { method = m; answer = answer.Int (pos n) }

-- `t` is asked with a text of one unit, and answers with one of two
abbrev pub asking : Code
asking = code 1 (insn.ConstText 0 0 ∷ insn.Invoke how.Static (ref.Known 2 7) (0 ∷ []) ∷ insn.ConstInt 0 (pos 1) ∷ insn.Return kind.Plain 0 ∷ [])

abbrev pub text_script : Script
text_script = script_with [] [] (record { method = 7; answer = answer.Text (codes "bc") } ∷ [])

pub record HeldCallsHold : Type 0 where
  -- three words for the literal, six for the record, four for the text that answers, which with the record are paid at once
  pub paid : does_in_words 13 text_script asking ≡ gives_int (pos 1)
  pub unpaid : does_in_words 12 text_script asking ≡ Stops cause.Heap
  pub pinned : is_held no_script (program asking) 6 ≡ true
  -- an unpinned method is held as long as one of its class is pinned
  pub beside_pinned : is_held (script_with (6 ∷ []) [] []) (program asking) 6 ≡ true
  pub unpinned : is_held (script_with (6 ∷ 7 ∷ 10 ∷ []) [] []) (program asking) 6 ≡ false
  -- a free one is not, and pins no other
  pub free : is_held (script_with [] (given 6 1 ∷ []) []) (program asking) 6 ≡ false
  pub beside_free : is_held (script_with (7 ∷ 10 ∷ []) (given 6 1 ∷ []) []) (program asking) 7 ≡ false
  pub print : is_held (script_with [] [] []) (program asking) 9 ≡ true
  pub other_built_in : is_held no_script (program asking) 5 ≡ false
