-- An instruction as the file has it, and as a program has it: with numbers of the program in place of rows.
use Rattle.std.specs.Prelude.{◌≡◌, ℕ, List, ◌++◌, map, Some, None, slice_get, codes}
use Rattle.cc_meaning.specs.declared.file.Ids.{Ids}
use Rattle.cc_meaning.specs.declared.file.MethodRow.{MethodRow}
use Rattle.cc_meaning.specs.declared.file.RawClass.{RawClass}
use Rattle.cc_meaning.specs.declared.instruction.How.{How}
use Rattle.cc_meaning.specs.declared.instruction.Insn.{Insn}
use Rattle.cc_meaning.specs.declared.instruction.Insn.TheVariants as insn
use Rattle.cc_meaning.specs.declared.instruction.Kind.{Kind}
use Rattle.cc_meaning.specs.declared.instruction.MethodRef.{MethodRef}
use Rattle.cc_meaning.specs.declared.instruction.MethodRef.TheVariants as method
use Rattle.cc_meaning.specs.declared.instruction.TypeRef.{TypeRef}
use Rattle.cc_meaning.specs.declared.instruction.TypeRef.TheVariants as type
use Rattle.cc_meaning.specs.declared.program.DexType.{DexType}
use Rattle.cc_meaning.specs.declared.program.Placed.{Placed}
use Rattle.cc_meaning.specs.declared.program.Program.{Program}
use Rattle.cc_meaning.specs.Lookup.{class_named, method_named, field_named, text_numbered}
use Rattle.cc_meaning.specs.declared.program.Class.{Class}
use Rattle.cc_meaning_program.specs.Named.{text_of, type_name}
use Rattle.cc_meaning_program.specs.TypeNames.{Spells}
use Rattle.cc_meaning_program.specs.References.{reference_of}
use Rattle.cc_meaning_program.specs.Naming.{RowNamesMethod, RowNamesField}

-- a member's whole name
unfoldable pub whole_name : List ℕ → List ℕ → List ℕ
whole_name class member = class ++ codes "->" ++ member

-- the names of a program's classes
unfoldable pub names_of : Program → List (List ℕ)
names_of program = map (λ (class : Class). class.name) program.classes

-- the type that a row of types is
pub data TypeResolved (ids : Ids) (program : Program) : TypeRef → TypeRef → Type 0 where
  named : {row : ℕ} {known : DexType} → Spells (names_of program) known (type_name ids row) → TypeResolved ids program (type.Row row) (type.Known known)

-- the class that a row of methods names, and the method that it is after resolution
pub data MethodResolved (ids : Ids) (classes : List RawClass) (program : Program) : MethodRef → MethodRef → Type 0 where
  named : {row class number : ℕ} {stated : MethodRow} {owner member : List ℕ} → slice_get ids.methods row ≡ Some stated → class_named (type_name ids stated.class) program ≡ Some class → RowNamesMethod ids classes row owner member → method_named (whole_name owner member) program ≡ Some number → MethodResolved ids classes program (method.Row row) (method.Known class number)

-- the field that a row of fields is after resolution
pub record FieldResolved (ids : Ids) (classes : List RawClass) (program : Program) (row number : ℕ) : Type 0 where
  pub owner : List ℕ
  pub member : List ℕ
  pub names : RowNamesField ids classes row owner member
  pub numbered : field_named (whole_name owner member) program ≡ Some number

-- Only what names a row changes.
pub data InsnResolved (ids : Ids) (classes : List RawClass) (program : Program) : Insn → Insn → Type 0 where
  same : {other : Insn} → reference_of other ≡ None → InsnResolved ids classes program other other
  text : {to row number : ℕ} → text_numbered (text_of ids row) program ≡ Some number → InsnResolved ids classes program (insn.ConstText to row) (insn.ConstText to number)
  class : {to : ℕ} {named known : TypeRef} → TypeResolved ids program named known → InsnResolved ids classes program (insn.ConstClass to named) (insn.ConstClass to known)
  cast : {object : ℕ} {named known : TypeRef} → TypeResolved ids program named known → InsnResolved ids classes program (insn.CheckCast object named) (insn.CheckCast object known)
  instance : {to object : ℕ} {named known : TypeRef} → TypeResolved ids program named known → InsnResolved ids classes program (insn.InstanceOf to object named) (insn.InstanceOf to object known)
  object : {to : ℕ} {named known : TypeRef} → TypeResolved ids program named known → InsnResolved ids classes program (insn.NewInstance to named) (insn.NewInstance to known)
  array : {to length : ℕ} {named known : TypeRef} → TypeResolved ids program named known → InsnResolved ids classes program (insn.NewArray to length named) (insn.NewArray to length known)
  filled : {args : List ℕ} {named known : TypeRef} → TypeResolved ids program named known → InsnResolved ids classes program (insn.FilledNewArray named args) (insn.FilledNewArray known args)
  field_read : {kind : Kind} {to object row number : ℕ} → FieldResolved ids classes program row number → InsnResolved ids classes program (insn.FieldGet kind to object row) (insn.FieldGet kind to object number)
  field_written : {kind : Kind} {from object row number : ℕ} → FieldResolved ids classes program row number → InsnResolved ids classes program (insn.FieldPut kind from object row) (insn.FieldPut kind from object number)
  static_read : {kind : Kind} {to row number : ℕ} → FieldResolved ids classes program row number → InsnResolved ids classes program (insn.StaticGet kind to row) (insn.StaticGet kind to number)
  static_written : {kind : Kind} {from row number : ℕ} → FieldResolved ids classes program row number → InsnResolved ids classes program (insn.StaticPut kind from row) (insn.StaticPut kind from number)
  call : {how : How} {named known : MethodRef} {args : List ℕ} → MethodResolved ids classes program named known → InsnResolved ids classes program (insn.Invoke how named args) (insn.Invoke how known args)

pub record PlacedResolved (ids : Ids) (classes : List RawClass) (program : Program) (raw placed : Placed) : Type 0 where
  pub at : placed.at ≡ raw.at
  pub units : placed.units ≡ raw.units
  pub insn : InsnResolved ids classes program raw.insn placed.insn
