-- Worked examples: arrays, fields, statics, casts, texts and class constants, with the exceptions that they throw.
use Rattle.std.specs.Prelude.{◌≡◌, ℕ, pos, negsuc, true, false, List, [], ◌∷◌, codes, Option, Some, None}
use Rattle.cc_meaning.specs.declared.instruction.How.TheVariants as how
use Rattle.cc_meaning.specs.declared.instruction.Insn.{Insn}
use Rattle.cc_meaning.specs.declared.instruction.Insn.TheVariants as insn
use Rattle.cc_meaning.specs.declared.instruction.Kind.{Kind}
use Rattle.cc_meaning.specs.declared.instruction.Kind.TheVariants as kind
use Rattle.cc_meaning.specs.declared.instruction.Test.TheVariants as test
use Rattle.cc_meaning.specs.declared.instruction.TypeRef.TheVariants as type
use Rattle.cc_meaning.specs.declared.program.Base.{Base}
use Rattle.cc_meaning.specs.declared.program.Base.TheVariants as base
use Rattle.cc_meaning.specs.declared.program.Class.{Class}
use Rattle.cc_meaning.specs.declared.program.Code.{Code}
use Rattle.cc_meaning.specs.declared.program.DexType.{DexType}
use Rattle.cc_meaning.specs.declared.program.MethodKind.TheVariants as kinds
use Rattle.cc_meaning.specs.declared.program.Program.{Program}
use Rattle.cc_meaning.specs.declared.report.StopCause.TheVariants as cause
use Rattle.cc_meaning.specs.declared.value.Value.{Value}
use Rattle.cc_meaning.specs.BuiltIn.{null_pointer_exception_name, array_index_out_of_bounds_exception_name, array_store_exception_name, class_cast_exception_name, negative_array_size_exception_name}
use Rattle.cc_meaning_exec.specs.WorkedPrograms.{file_class, interface, outside_class, array_class_named, code, static_method, field_of, program_of, no_script, limits, type_of_base, int_type, class_type_of, ints, called_with, shown_end, Shown, Throws, Stops, gives_int, int, null}

-- Classes 0 to 8: A, B below A with an int, J, an interface that extends I, and C, which lists J; an outside class; arrays of ints, of booleans, of A and of I.
abbrev pub classes : List Class
classes =
    record (file_class (codes "LA;") 10) { layout = 0 ∷ 1 ∷ [] }
    ∷ record (file_class (codes "LB;") 0) { layout = 0 ∷ 1 ∷ [] }
    ∷ interface (codes "LI;") 10
    ∷ record (interface (codes "LJ;") 10) { interfaces = 2 ∷ [] }
    ∷ record (file_class (codes "LC;") 10) { interfaces = 3 ∷ [] }
    ∷ outside_class (codes "LO;") 10
    ∷ array_class_named (codes "[I") 10
    ∷ array_class_named (codes "[Z") 10
    ∷ array_class_named (codes "[LA;") 10
    ∷ array_class_named (codes "[LI;") 10
    ∷ []

abbrev pub truths : DexType
truths = record { dims = 1; base = base.Boolean }

abbrev pub array_of_class : ℕ → DexType
array_of_class class = record { dims = 1; base = base.Class class }

-- fields 0 and 1 of A: a byte and a reference; field 2: a static char
abbrev pub program : Code → Program
program body = program_of classes (static_method 0 (codes "f") [] None (kinds.Code body) ∷ [])
    (field_of 0 (codes "b") (type_of_base base.Byte) false ∷ field_of 0 (codes "next") (class_type_of 0) false ∷ field_of 4 (codes "c") (type_of_base base.Char) true ∷ [])
    (codes "one" ∷ codes "two" ∷ [])

unfoldable pub does : List Insn → List Value → Shown
does insns args = shown_end (program (code 4 insns)) (called_with no_script (program (code 4 insns)) (limits 100 100) 0 args)

unfoldable pub does_in_words : ℕ → List Insn → List Value → Shown
does_in_words words insns args = shown_end (program (code 4 insns)) (called_with no_script (program (code 4 insns)) (limits 100 words) 0 args)

abbrev pub new : ℕ → ℕ → Insn
new to class = insn.NewInstance to (type.Known (class_type_of class))

-- ---- arrays

-- v0 is an array of as many ints as the last register says
abbrev pub new_ints : Insn
new_ints = insn.NewArray 0 3 (type.Known ints)

pub record ArraysHold : Type 0 where
  pub length : does (new_ints ∷ insn.ArrayLength 1 0 ∷ insn.Return kind.Plain 1 ∷ []) (int (pos 5) ∷ []) ≡ gives_int (pos 5)
  pub begins_at_zero : does (new_ints ∷ insn.ConstInt 1 (pos 2) ∷ insn.ArrayGet kind.Plain 2 0 1 ∷ insn.Return kind.Plain 2 ∷ []) (int (pos 5) ∷ []) ≡ gives_int (pos 0)
  pub negative : does (new_ints ∷ insn.ReturnVoid ∷ []) (int (negsuc 0) ∷ []) ≡ Throws negative_array_size_exception_name
  pub takes_words : does_in_words 6 (new_ints ∷ insn.ReturnVoid ∷ []) (int (pos 5) ∷ []) ≡ Stops cause.Heap
  pub written :
      does (new_ints ∷ insn.ConstInt 1 (pos 1) ∷ insn.ArrayPut kind.Plain 3 0 1 ∷ insn.ArrayGet kind.Plain 2 0 1 ∷ insn.Return kind.Plain 2 ∷ []) (int (pos 5) ∷ []) ≡ gives_int (pos 5)
  pub bad_index : does (new_ints ∷ insn.ArrayGet kind.Plain 2 0 3 ∷ insn.ReturnVoid ∷ []) (int (pos 5) ∷ []) ≡ Throws array_index_out_of_bounds_exception_name
  pub null_array : does (insn.ArrayGet kind.Plain 2 3 3 ∷ insn.ReturnVoid ∷ []) (int (pos 0) ∷ []) ≡ Throws null_pointer_exception_name
  -- a boolean keeps its low bit
  pub low_bit :
      does (insn.NewArray 0 3 (type.Known truths) ∷ insn.ConstInt 1 (pos 0) ∷ insn.ArrayPut kind.Boolean 3 0 1 ∷ insn.ArrayGet kind.Boolean 2 0 1 ∷ insn.Return kind.Plain 2 ∷ []) (int (pos 7) ∷ [])
      ≡ gives_int (pos 1)
  pub filled :
      does (new_ints ∷ insn.FillArray 0 (pos 4) ∷ insn.ConstInt 1 (pos 1) ∷ insn.ArrayGet kind.Plain 2 0 1 ∷ insn.Return kind.Plain 2
      ∷ insn.ArrayPayload 4 (1 ∷ 0 ∷ 0 ∷ 0 ∷ 254 ∷ 255 ∷ 255 ∷ 255 ∷ []) ∷ []) (int (pos 2) ∷ [])
      ≡ gives_int (negsuc 1)
  pub filled_too_short :
      does (new_ints ∷ insn.FillArray 0 (pos 2) ∷ insn.ReturnVoid ∷ insn.ArrayPayload 4 (1 ∷ 0 ∷ 0 ∷ 0 ∷ 254 ∷ 255 ∷ 255 ∷ 255 ∷ []) ∷ []) (int (pos 1) ∷ [])
      ≡ Throws array_index_out_of_bounds_exception_name
  pub from_registers :
      does (insn.FilledNewArray (type.Known ints) (2 ∷ 3 ∷ []) ∷ insn.MoveResult kind.Object 0 ∷ insn.ConstInt 1 (pos 1) ∷ insn.ArrayGet kind.Plain 1 0 1 ∷ insn.Return kind.Plain 1 ∷ [])
      (int (pos 8) ∷ int (pos 9) ∷ [])
      ≡ gives_int (pos 9)
  pub refused_store :
      does (insn.NewArray 0 3 (type.Known (array_of_class 0)) ∷ new 1 4 ∷ insn.ConstInt 2 (pos 0) ∷ insn.ArrayPut kind.Object 1 0 2 ∷ insn.ReturnVoid ∷ []) (int (pos 1) ∷ [])
      ≡ Throws array_store_exception_name
  pub fine_store :
      does (insn.NewArray 0 3 (type.Known (array_of_class 0)) ∷ new 1 1 ∷ insn.ConstInt 2 (pos 0) ∷ insn.ArrayPut kind.Object 1 0 2 ∷ insn.ArrayLength 2 0 ∷ insn.Return kind.Plain 2 ∷ [])
      (int (pos 1) ∷ [])
      ≡ gives_int (pos 1)

-- ---- fields and statics

pub record FieldsHold : Type 0 where
  -- a byte keeps its low 8 bits, with the sign
  pub byte : does (new 0 1 ∷ insn.FieldPut kind.Byte 3 0 0 ∷ insn.FieldGet kind.Byte 1 0 0 ∷ insn.Return kind.Plain 1 ∷ []) (int (pos 255) ∷ []) ≡ gives_int (negsuc 0)
  pub reference :
      does (new 0 0 ∷ insn.FieldPut kind.Object 0 0 1 ∷ insn.FieldGet kind.Object 1 0 1 ∷ insn.If test.Eq 0 1 (pos 3) ∷ insn.ConstInt 2 (pos 0) ∷ insn.Return kind.Plain 2
      ∷ insn.ConstInt 2 (pos 1) ∷ insn.Return kind.Plain 2 ∷ []) []
      ≡ gives_int (pos 1)
  pub null_object : does (insn.FieldGet kind.Byte 1 3 0 ∷ insn.ReturnVoid ∷ []) (null ∷ []) ≡ Throws null_pointer_exception_name
  -- a char has no sign
  pub char : does (insn.StaticPut kind.Char 3 2 ∷ insn.StaticGet kind.Char 1 2 ∷ insn.Return kind.Plain 1 ∷ []) (int (negsuc 0) ∷ []) ≡ gives_int (pos 65535)
  -- two and one for each field
  pub three_words : does_in_words 3 (new 0 0 ∷ insn.ReturnVoid ∷ []) [] ≡ Stops cause.Heap

-- ---- casts

abbrev pub cast : ℕ → DexType → List Insn
cast class to = new 0 class ∷ insn.CheckCast 0 (type.Known to) ∷ insn.InstanceOf 1 0 (type.Known to) ∷ insn.Return kind.Plain 1 ∷ []

pub record CastsHold : Type 0 where
  pub below : does (cast 1 (class_type_of 0)) [] ≡ gives_int (pos 1)
  pub above : does (cast 0 (class_type_of 1)) [] ≡ Throws class_cast_exception_name
  pub by_interfaces : does (cast 4 (class_type_of 2)) [] ≡ gives_int (pos 1)
  pub no_interface : does (cast 0 (class_type_of 2)) [] ≡ Throws class_cast_exception_name
  -- each object passes the cast to an outside class, and is no instance of it
  pub outside : does (cast 0 (class_type_of 5)) [] ≡ gives_int (pos 0)
  pub object : does (cast 0 (class_type_of 10)) [] ≡ gives_int (pos 1)
  pub null_passes : does (insn.CheckCast 3 (type.Known (class_type_of 1)) ∷ insn.InstanceOf 1 3 (type.Known (class_type_of 1)) ∷ insn.Return kind.Plain 1 ∷ []) (int (pos 0) ∷ []) ≡ gives_int (pos 0)
  pub array_of_interface : does (insn.NewArray 0 3 (type.Known (array_of_class 2)) ∷ insn.CheckCast 0 (type.Known (array_of_class 0)) ∷ insn.ReturnVoid ∷ []) (int (pos 0) ∷ [])
      ≡ Throws class_cast_exception_name
  pub array_is_object : does (insn.NewArray 0 3 (type.Known ints) ∷ insn.InstanceOf 1 0 (type.Known (class_type_of 10)) ∷ insn.Return kind.Plain 1 ∷ []) (int (pos 0) ∷ []) ≡ gives_int (pos 1)

-- ---- literals and class constants

-- 1 where two registers are the same object, else 0
abbrev pub same : List Insn
same = insn.If test.Eq 0 1 (pos 3) ∷ insn.ConstInt 2 (pos 0) ∷ insn.Return kind.Plain 2 ∷ insn.ConstInt 2 (pos 1) ∷ insn.Return kind.Plain 2 ∷ []

pub record LiteralsHold : Type 0 where
  -- a literal is made at its first use, and the same object is taken again
  pub same_text : does (insn.ConstText 0 0 ∷ insn.ConstText 1 0 ∷ same) [] ≡ gives_int (pos 1)
  pub other_text : does (insn.ConstText 0 0 ∷ insn.ConstText 1 1 ∷ same) [] ≡ gives_int (pos 0)
  pub words : does_in_words 5 (insn.ConstText 0 0 ∷ insn.ConstText 1 0 ∷ same) [] ≡ gives_int (pos 1)
  pub same_class : does (insn.ConstClass 0 (type.Known ints) ∷ insn.ConstClass 1 (type.Known ints) ∷ same) [] ≡ gives_int (pos 1)
  pub other_class : does (insn.ConstClass 0 (type.Known ints) ∷ insn.ConstClass 1 (type.Known truths) ∷ same) [] ≡ gives_int (pos 0)
  pub monitor : does (insn.Monitor true 3 ∷ insn.ReturnVoid ∷ []) (null ∷ []) ≡ Throws null_pointer_exception_name
