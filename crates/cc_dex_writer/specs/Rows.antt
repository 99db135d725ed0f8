-- The bytes of the rows of a file's tables (Dalvik Executable format, sections string_id_item to class_def_item).
use Rattle.std.specs.Prelude.{ℕ, ◌+◌, List, [], ◌∷◌, ◌++◌, slice_index, Option, Some, None}
use Rattle.std.specs.List.{flat_map}
use Rattle.cc_meaning.specs.declared.file.ClassRow.{ClassRow}
use Rattle.cc_meaning.specs.declared.file.FieldRow.{FieldRow}
use Rattle.cc_meaning.specs.declared.file.Ids.{Ids}
use Rattle.cc_meaning.specs.declared.file.MethodRow.{MethodRow}
use Rattle.cc_meaning.specs.declared.file.ProtoRow.{ProtoRow}
use Rattle.cc_meaning_dex.specs.Faults.{no_row}
use Rattle.cc_meaning_builder.specs.Forms.{u16_form, u32_form}
use Rattle.cc_dex_writer.specs.declared.offsets.Offsets.{Offsets}

-- the bytes of rows, each by its number too; the first of these has this one
unfoldable pub numbered_form : {A : Type 0} → (ℕ → A → List ℕ) → ℕ → List A → List ℕ
numbered_form form number [] = []
numbered_form form number (row ∷ rows) = form number row ++ numbered_form form (number + 1) rows

-- the offset of a text's item
abbrev pub text_row_form : Offsets → ℕ → List ℕ → List ℕ
text_row_form offsets number units = u32_form (slice_index offsets.texts number)

-- the short form, the result, and the offset of the parameters
abbrev pub proto_numbers : Offsets → ℕ → ProtoRow → List ℕ
proto_numbers offsets number proto = slice_index offsets.shorts number ∷ proto.result ∷ slice_index offsets.params number ∷ []

abbrev pub proto_row_form : Offsets → ℕ → ProtoRow → List ℕ
proto_row_form offsets number proto = flat_map u32_form (proto_numbers offsets number proto)

-- class, type and name
abbrev pub field_row_form : FieldRow → List ℕ
field_row_form field = u16_form field.class ++ (u16_form field.kind ++ u32_form field.name)

-- class, prototype and name
abbrev pub method_row_form : MethodRow → List ℕ
method_row_form method = u16_form method.class ++ (u16_form method.proto ++ u32_form method.name)

abbrev pub stated_superclass : Option ℕ → ℕ
stated_superclass (Some row) = row
stated_superclass None = no_row

-- class, access flags, superclass and interfaces; no source file and no annotations; where its members and its values stand
abbrev pub class_numbers : Offsets → ℕ → ClassRow → List ℕ
class_numbers offsets number class =
    class.class ∷ class.flags ∷ stated_superclass class.superclass ∷ slice_index offsets.interfaces number ∷ no_row ∷ 0 ∷ class.members_at ∷ class.values_at ∷ []

abbrev pub class_row_form : Offsets → ℕ → ClassRow → List ℕ
class_row_form offsets number class = flat_map u32_form (class_numbers offsets number class)

-- the six tables, one behind the other
unfoldable pub tables_form : Ids → Offsets → List ℕ
tables_form ids offsets =
    numbered_form (text_row_form offsets) 0 ids.texts
    ++ (flat_map u32_form ids.types
    ++ (numbered_form (proto_row_form offsets) 0 ids.protos
    ++ (flat_map field_row_form ids.fields
    ++ (flat_map method_row_form ids.methods ++ numbered_form (class_row_form offsets) 0 ids.classes))))
