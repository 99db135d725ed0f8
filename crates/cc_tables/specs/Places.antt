-- The places of rows in their tables, by what they are of.
use Rattle.std.specs.Prelude.{ℕ, List, [], ◌∷◌, map, option_map}
use Rattle.std.specs.List.{position_or_len}
use Rattle.std.specs.Str.{bytes_eq}
use Rattle.cc_meaning.specs.declared.file.ClassRow.{ClassRow}
use Rattle.cc_meaning.specs.declared.file.FieldRow.{FieldRow}
use Rattle.cc_meaning.specs.declared.file.Ids.{Ids}
use Rattle.cc_meaning.specs.declared.file.MethodRow.{MethodRow}
use Rattle.cc_meaning.specs.declared.file.ProtoRow.{ProtoRow}
use Rattle.cc_meaning_builder.specs.declared.content.ListedClass.{ListedClass}
use Rattle.cc_meaning_builder.specs.Tables.{prototype_key}
use Rattle.cc_tables.specs.declared.needs.NamedField.{NamedField}
use Rattle.cc_tables.specs.declared.needs.NamedMethod.{NamedMethod}

-- the place of the first item of a key; how many items there are, where none is of it
unfoldable pub place_of : {A : Type 0} → (A → List ℕ) → List A → List ℕ → ℕ
place_of key items name = position_or_len (λ item. bytes_eq (key item) name) items

abbrev pub itself : List ℕ → List ℕ
itself name = name

abbrev pub alone : ℕ → List ℕ
alone row = row ∷ []

-- the row of a text, that of a type by its descriptor, and that of a prototype
abbrev pub text_place : Ids → List ℕ → ℕ
text_place ids units = place_of itself ids.texts units

abbrev pub type_place : Ids → List ℕ → ℕ
type_place ids name = place_of alone ids.types (alone (text_place ids name))

abbrev pub proto_place : Ids → ProtoRow → ℕ
proto_place ids prototype = place_of prototype_key ids.protos (prototype_key prototype)

-- ---- rows of what is named

abbrev pub proto_row_of : Ids → NamedMethod → ProtoRow
proto_row_of ids method = record { result = type_place ids method.result; params = map (type_place ids) method.params }

abbrev pub field_row_of : Ids → NamedField → FieldRow
field_row_of ids field = record { class = type_place ids field.class; kind = type_place ids field.kind; name = text_place ids field.name }

abbrev pub method_row_of : Ids → NamedMethod → MethodRow
method_row_of ids method = record { class = type_place ids method.class; proto = proto_place ids (proto_row_of ids method); name = text_place ids method.name }

abbrev pub class_row_of : Ids → ListedClass → ClassRow
class_row_of ids class = record {
  class = type_place ids class.name;
  flags = class.flags;
  superclass = option_map (type_place ids) class.superclass;
  interfaces = map (type_place ids) class.interfaces;
  members_at = 0;
  values_at = 0;
}
