-- What an instruction names of its file, and what of that is no member, no type, or of floating point.
use Rattle.std.specs.Prelude.{◌≡◌, ◌⊎◌, ℕ, ◌≤◌, List, [], length, slice_get, Option, Some, None, codes, Contains}
use Rattle.cc_meaning.specs.declared.file.FieldRow.{FieldRow}
use Rattle.cc_meaning.specs.declared.file.Ids.{Ids}
use Rattle.cc_meaning.specs.declared.file.MethodRow.{MethodRow}
use Rattle.cc_meaning.specs.declared.file.ProtoRow.{ProtoRow}
use Rattle.cc_meaning.specs.declared.instruction.Insn.{Insn}
use Rattle.cc_meaning.specs.declared.instruction.Insn.TheVariants as insn
use Rattle.cc_meaning.specs.declared.instruction.MethodRef.{MethodRef}
use Rattle.cc_meaning.specs.declared.instruction.MethodRef.TheVariants as method
use Rattle.cc_meaning.specs.declared.instruction.TypeRef.{TypeRef}
use Rattle.cc_meaning.specs.declared.instruction.TypeRef.TheVariants as type
use Rattle.cc_meaning_program.specs.declared.reference.Reference.{Reference}
use Rattle.cc_meaning_program.specs.declared.reference.Reference.TheVariants as reference
use Rattle.cc_meaning_program.specs.Named.{type_name, field_text, method_text}
use Rattle.cc_meaning_program.specs.ClassNames.{base_name}

-- ---- what is named

unfoldable pub named_type : TypeRef → Option Reference
named_type (type.Row row) = Some (reference.Type row)
named_type (type.Known known) = None

unfoldable pub named_method : MethodRef → Option Reference
named_method (method.Row row) = Some (reference.Method row)
named_method (method.Known class known) = None

-- the row that an instruction names, as it is decoded
unfoldable pub reference_of : Insn → Option Reference
reference_of (insn.ConstText to text) = Some (reference.Text text)
reference_of (insn.ConstClass to named) = named_type named
reference_of (insn.CheckCast object named) = named_type named
reference_of (insn.InstanceOf to object named) = named_type named
reference_of (insn.NewInstance to named) = named_type named
reference_of (insn.NewArray to length named) = named_type named
reference_of (insn.FilledNewArray named args) = named_type named
reference_of (insn.FieldGet kind to object field) = Some (reference.Field field)
reference_of (insn.FieldPut kind from object field) = Some (reference.Field field)
reference_of (insn.StaticGet kind to field) = Some (reference.Field field)
reference_of (insn.StaticPut kind from field) = Some (reference.Field field)
reference_of (insn.Invoke how named args) = named_method named
reference_of other = None

-- ---- rows that aren't there

-- a row out of its table, or the type V
abbrev pub IsMissing : Ids → Reference → Type 0
IsMissing ids (reference.Text row) = length ids.texts ≤ row
IsMissing ids (reference.Type row) = (length ids.types ≤ row) ⊎ (type_name ids row ≡ codes "V")
IsMissing ids (reference.Field row) = length ids.fields ≤ row
IsMissing ids (reference.Method row) = length ids.methods ≤ row

-- ---- floating point

-- F or D, or an array of these
pub data IsFloating (name : List ℕ) : Type 0 where
  single : base_name name ≡ codes "F" → IsFloating name
  double : base_name name ≡ codes "D" → IsFloating name

-- a method's class, a parameter or its result is of floating point
pub data MethodFloats (ids : Ids) (row : ℕ) : Type 0 where
  by_class : {stated : MethodRow} → slice_get ids.methods row ≡ Some stated → IsFloating (type_name ids stated.class) → MethodFloats ids row
  by_result : {stated : MethodRow} {prototype : ProtoRow} → slice_get ids.methods row ≡ Some stated → slice_get ids.protos stated.proto ≡ Some prototype → IsFloating (type_name ids prototype.result) → MethodFloats ids row
  by_parameter : {stated : MethodRow} {prototype : ProtoRow} {type : ℕ} → slice_get ids.methods row ≡ Some stated → slice_get ids.protos stated.proto ≡ Some prototype → Contains prototype.params type → IsFloating (type_name ids type) → MethodFloats ids row

-- a field's class or type is of floating point
pub data FieldFloats (ids : Ids) (row : ℕ) : Type 0 where
  by_class : {stated : FieldRow} → slice_get ids.fields row ≡ Some stated → IsFloating (type_name ids stated.class) → FieldFloats ids row
  by_kind : {stated : FieldRow} → slice_get ids.fields row ≡ Some stated → IsFloating (type_name ids stated.kind) → FieldFloats ids row

abbrev pub Floats : Ids → Reference → Type 0
Floats ids (reference.Text row) = ⊥
Floats ids (reference.Type row) = IsFloating (type_name ids row)
Floats ids (reference.Field row) = FieldFloats ids row
Floats ids (reference.Method row) = MethodFloats ids row

-- a member or type as it is named
unfoldable pub reference_name : Ids → Reference → List ℕ
reference_name ids (reference.Text row) = []
reference_name ids (reference.Type row) = type_name ids row
reference_name ids (reference.Field row) = field_text ids row
reference_name ids (reference.Method row) = method_text ids row
