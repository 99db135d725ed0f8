-- Worked examples: calls with their dispatch, wide arguments, handlers, built-in methods, and the exceptions of all of these.
use Rattle.std.specs.Prelude.{◌≡◌, ℕ, pos, negsuc, true, false, List, [], ◌∷◌, ◌++◌, codes, Option, Some, None}
use Rattle.cc_meaning.specs.declared.instruction.Conversion.TheVariants as conversion
use Rattle.cc_meaning.specs.declared.instruction.How.{How}
use Rattle.cc_meaning.specs.declared.instruction.How.TheVariants as how
use Rattle.cc_meaning.specs.declared.instruction.Insn.{Insn}
use Rattle.cc_meaning.specs.declared.instruction.Insn.TheVariants as insn
use Rattle.cc_meaning.specs.declared.instruction.IntOp.TheVariants as op
use Rattle.cc_meaning.specs.declared.instruction.Kind.TheVariants as kind
use Rattle.cc_meaning.specs.declared.instruction.MethodRef.TheVariants as ref
use Rattle.cc_meaning.specs.declared.instruction.TypeRef.TheVariants as type
use Rattle.cc_meaning.specs.declared.program.Base.TheVariants as base
use Rattle.cc_meaning.specs.declared.program.Class.{Class}
use Rattle.cc_meaning.specs.declared.program.Code.{Code}
use Rattle.cc_meaning.specs.declared.program.Method.{Method}
use Rattle.cc_meaning.specs.declared.program.MethodKind.TheVariants as kinds
use Rattle.cc_meaning.specs.declared.program.Program.{Program}
use Rattle.cc_meaning.specs.declared.report.Ending.TheVariants as ending
use Rattle.cc_meaning.specs.declared.report.StopCause.TheVariants as cause
use Rattle.cc_meaning.specs.declared.report.Report.{Report}
use Rattle.cc_meaning.specs.declared.value.Value.{Value}
use Rattle.cc_meaning.specs.BuiltIn.{null_pointer_exception_name, arithmetic_exception_name, abstract_method_error_name, incompatible_class_change_error_name, string_index_out_of_bounds_exception_name, stack_overflow_error_name}
use Rattle.cc_meaning_exec.specs.Runs.{local, invocations}
use Rattle.cc_meaning_exec.specs.WorkedPrograms.{file_class, interface, array_class_named, code, code_with, try_of, catch_of, static_method, virtual_method, field_of, program_of, no_script, limits, type_of_base, int_type, long_type, class_type_of, called_with, shown_end, Shown, Throws, gives_int, gives_long, int, long, null}

-- Classes 0 to 4: A, B below it, an interface I that B lists, an array of texts, and C, which lists I and has nothing of it. Object is 5, String 6, the builder 7,
-- System 8 and PrintStream 9.
abbrev pub classes : List Class
classes =
    file_class (codes "LA;") 5
    ∷ record (file_class (codes "LB;") 0) { interfaces = 2 ∷ [] }
    ∷ interface (codes "LI;") 5
    ∷ array_class_named (codes "[Ljava/lang/String;") 5
    ∷ record (file_class (codes "LC;") 5) { interfaces = 2 ∷ [] }
    ∷ []

-- gives a number
abbrev pub giving : ℕ → Code
giving n = code 1 (insn.ConstInt 0 (pos n) ∷ insn.Return kind.Plain 0 ∷ [])

abbrev pub call : How → (class method : ℕ) → List ℕ → Insn
call h class m rs = insn.Invoke h (ref.Known class m) rs

-- A's `g` gives 1, B's gives 10 and what A's gives; I's is abstract; the next ones are static: `w` adds the long and the int that it takes, and `r` calls itself.
-- Then come built-in methods of String, of the builder and of PrintStream.
abbrev pub methods : Code → List Method
methods body =
    static_method 0 (codes "f") [] None (kinds.Code body)
    ∷ virtual_method 0 (codes "g") [] (Some int_type) (kinds.Code (giving 1))
    ∷ virtual_method 1 (codes "g") [] (Some int_type)
    (kinds.Code (code 2 (call how.Super 0 1 (1 ∷ []) ∷ insn.MoveResult kind.Plain 0 ∷ insn.IntLit op.Add true 0 0 (pos 10) ∷ insn.Return kind.Plain 0 ∷ [])))
    ∷ virtual_method 2 (codes "g") [] (Some int_type) kinds.Abstract
    ∷ static_method 0 (codes "w") (int_type ∷ long_type ∷ int_type ∷ []) (Some long_type)
    (kinds.Code (code 6 (insn.Convert conversion.IntToLong 0 5 ∷ insn.LongOp op.Add 0 0 3 ∷ insn.Return kind.Wide 0 ∷ [])))
    ∷ static_method 0 (codes "r") [] None (kinds.Code (code 100 (call how.Static 0 5 [] ∷ insn.ReturnVoid ∷ [])))
    ∷ virtual_method 6 (codes "charAt") (int_type ∷ []) (Some (type_of_base base.Char)) kinds.BuiltIn
    ∷ virtual_method 7 (codes "append") (int_type ∷ []) (Some (class_type_of 7)) kinds.BuiltIn
    ∷ virtual_method 7 (codes "toString") [] (Some (class_type_of 6)) kinds.BuiltIn
    ∷ virtual_method 6 (codes "length") [] (Some int_type) kinds.BuiltIn
    ∷ virtual_method 9 (codes "println") (int_type ∷ []) None kinds.BuiltIn
    ∷ virtual_method 9 (codes "println") (class_type_of 6 ∷ []) None kinds.BuiltIn
    ∷ []

abbrev pub program : Code → Program
program body = program_of classes (methods body) (field_of 8 (codes "out") (class_type_of 9) true ∷ []) (codes "ab" ∷ [])

unfoldable pub does_code : Code → List Value → Shown
does_code body args = shown_end (program body) (called_with no_script (program body) (limits 10000 100) 0 args)

unfoldable pub does : List Insn → List Value → Shown
does insns args = does_code (code 6 insns) args

abbrev pub new : ℕ → ℕ → Insn
new to class = insn.NewInstance to (type.Known (class_type_of class))

abbrev pub result : List Insn
result = insn.MoveResult kind.Plain 0 ∷ insn.Return kind.Plain 0 ∷ []

pub record CallsHold : Type 0 where
  pub of_above : does (new 0 0 ∷ call how.Virtual 0 1 (0 ∷ []) ∷ result) [] ≡ gives_int (pos 1)
  -- the receiver's own class counts, and by `super` the one above the running method's
  pub of_below : does (new 0 1 ∷ call how.Virtual 0 1 (0 ∷ []) ∷ result) [] ≡ gives_int (pos 11)
  pub by_interface : does (new 0 1 ∷ call how.Interface 2 3 (0 ∷ []) ∷ result) [] ≡ gives_int (pos 11)
  pub direct : does (new 0 1 ∷ call how.Direct 0 1 (0 ∷ []) ∷ result) [] ≡ gives_int (pos 1)
  pub none : does (new 0 4 ∷ call how.Interface 2 3 (0 ∷ []) ∷ result) [] ≡ Throws abstract_method_error_name
  pub no_interface : does (new 0 0 ∷ call how.Interface 2 3 (0 ∷ []) ∷ result) [] ≡ Throws incompatible_class_change_error_name
  pub null_receiver : does (call how.Virtual 0 1 (5 ∷ []) ∷ result) (null ∷ []) ≡ Throws null_pointer_exception_name
  -- a long takes two registers as an argument, as a result and in the new frame
  pub long_argument :
      does (insn.ConstInt 0 (pos 7) ∷ insn.ConstLong 1 (pos 4294967296) ∷ insn.ConstInt 3 (pos 5) ∷ call how.Static 0 4 (0 ∷ 1 ∷ 2 ∷ 3 ∷ [])
      ∷ insn.MoveResult kind.Wide 0 ∷ insn.Return kind.Wide 0 ∷ []) []
      ≡ gives_long (pos 4294967301)

-- ---- handlers

abbrev pub throwing : List Insn
throwing = insn.ConstInt 0 (pos 1) ∷ insn.ConstInt 1 (pos 0) ∷ insn.IntOp op.Div 0 0 1 ∷ insn.Return kind.Plain 0 ∷ insn.MoveException 2 ∷ insn.ConstInt 0 (pos 9)
    ∷ insn.Return kind.Plain 0 ∷ insn.Throw 2 ∷ []

abbrev pub caught_by : ℕ → Code
caught_by class = code_with 3 throwing (try_of 2 3 (catch_of (Some (class_type_of class)) 4 ∷ []) ∷ [])

-- the method that it calls throws, and the handler stands round the call
abbrev pub calling : Code
calling = code_with 6 (insn.ConstInt 5 (pos 0) ∷ call how.Virtual 0 1 (5 ∷ []) ∷ insn.ReturnVoid ∷ insn.MoveException 2 ∷ insn.ConstInt 0 (pos 8) ∷ insn.Return kind.Plain 0 ∷ [])
    (try_of 1 2 (catch_of None 3 ∷ []) ∷ [])

-- Throwable is 10, RuntimeException 13, ArithmeticException 14, NullPointerException 15
pub record HandlersHold : Type 0 where
  pub own_throw : does_code (caught_by 14) [] ≡ gives_int (pos 9)
  pub from_above : does_code (caught_by 10) [] ≡ gives_int (pos 9)
  pub another : does_code (caught_by 15) [] ≡ Throws arithmetic_exception_name
  pub uncovered : does_code (code_with 3 throwing (try_of 0 2 (catch_of None 4 ∷ []) ∷ [])) [] ≡ Throws arithmetic_exception_name
  -- the first handler that takes it
  pub in_order : does_code (code_with 3 throwing (try_of 2 3 (catch_of (Some (class_type_of 15)) 7 ∷ catch_of None 4 ∷ []) ∷ [])) [] ≡ gives_int (pos 9)
  pub of_a_call : does_code calling [] ≡ gives_int (pos 8)
  -- a method finds no room for a frame, and a handler round its call takes what it throws
  pub overflow : does (call how.Static 0 5 [] ∷ insn.ReturnVoid ∷ []) [] ≡ Throws stack_overflow_error_name

-- ---- built-in methods

abbrev pub printing : Code
printing = code 4 (insn.StaticGet kind.Object 0 0 ∷ insn.ConstInt 1 (negsuc 11) ∷ call how.Virtual 9 10 (0 ∷ 1 ∷ []) ∷ insn.ConstInt 1 (pos 0)
    ∷ call how.Virtual 9 11 (0 ∷ 1 ∷ []) ∷ insn.ReturnVoid ∷ [])

abbrev pub printed : Report
printed = record { out = codes "-12" ++ 10 ∷ codes "null" ++ 10 ∷ []; calls = []; ending = ending.Returned; instructions = 6; words = 15 }

pub record BuiltInsHold : Type 0 where
  pub char : does (insn.ConstText 0 0 ∷ insn.ConstInt 1 (pos 1) ∷ call how.Virtual 6 6 (0 ∷ 1 ∷ []) ∷ result) [] ≡ gives_int (pos 98)
  pub no_char : does (insn.ConstText 0 0 ∷ insn.ConstInt 1 (pos 2) ∷ call how.Virtual 6 6 (0 ∷ 1 ∷ []) ∷ result) [] ≡ Throws string_index_out_of_bounds_exception_name
  pub built :
      does (new 0 7 ∷ insn.ConstInt 1 (pos 12) ∷ call how.Virtual 7 7 (0 ∷ 1 ∷ []) ∷ insn.MoveResult kind.Object 0 ∷ call how.Virtual 7 8 (0 ∷ []) ∷ insn.MoveResult kind.Object 0
      ∷ insn.ConstInt 1 (pos 1) ∷ call how.Virtual 6 6 (0 ∷ 1 ∷ []) ∷ result) []
      ≡ gives_int (pos 50)
  -- a print to null throws
  pub null_stream : does (insn.ConstInt 0 (pos 0) ∷ call how.Virtual 9 10 (0 ∷ 0 ∷ []) ∷ insn.ReturnVoid ∷ []) [] ≡ Throws null_pointer_exception_name
  -- two words for the array of no arguments, and two prints of four and five units
  pub prints : local no_script (program printing) [] (limits 100 100) ≡ Some printed
  -- the second print has too few words: it was attempted
  pub attempts : invocations no_script (program printing) [] (limits 100 14) ≡ record { method = 0; parent = 0; instructions = 5; calls = 10 ∷ 11 ∷ [] } ∷ []
