-- The names that the rows of a file give: of types, of members within their class, and whole. What a row that isn't there would give is empty.
use Rattle.std.specs.Prelude.{ℕ, List, [], ◌++◌, Option, Some, None, slice_get, unwrap_or, codes}
use Rattle.std.specs.List.{flat_map}
use Rattle.cc_meaning.specs.declared.file.Ids.{Ids}
use Rattle.cc_meaning.specs.declared.file.FieldRow.{FieldRow}
use Rattle.cc_meaning.specs.declared.file.MethodRow.{MethodRow}
use Rattle.cc_meaning.specs.declared.file.ProtoRow.{ProtoRow}
use Rattle.cc_meaning_dex.specs.Rows.{descriptor_of}

-- the text of a row of texts
unfoldable pub text_of : Ids → ℕ → List ℕ
text_of ids text = unwrap_or (slice_get ids.texts text) []

-- the descriptor of a row of types
unfoldable pub type_name : Ids → ℕ → List ℕ
type_name ids type = unwrap_or (descriptor_of ids type) []

-- ---- fields

-- the name within its class, as `size:I`
unfoldable pub field_within : Ids → Option FieldRow → List ℕ
field_within ids None = []
field_within ids (Some field) = text_of ids field.name ++ codes ":" ++ type_name ids field.kind

unfoldable pub class_of_field : Ids → Option FieldRow → List ℕ
class_of_field ids None = []
class_of_field ids (Some field) = type_name ids field.class

-- the name within its class that a row of fields gives
unfoldable pub field_member : Ids → ℕ → List ℕ
field_member ids row = field_within ids (slice_get ids.fields row)

-- the whole name that a row of fields gives, as `Lc;->size:I`
unfoldable pub field_text : Ids → ℕ → List ℕ
field_text ids row = class_of_field ids (slice_get ids.fields row) ++ codes "->" ++ field_member ids row

-- ---- methods

-- parameters and a result, as `(IJ)V`
unfoldable pub prototype_of : Ids → Option ProtoRow → List ℕ
prototype_of ids None = []
prototype_of ids (Some prototype) = codes "(" ++ flat_map (type_name ids) prototype.params ++ codes ")" ++ type_name ids prototype.result

-- the name within its class, as `add(II)I`
unfoldable pub method_within : Ids → Option MethodRow → List ℕ
method_within ids None = []
method_within ids (Some method) = text_of ids method.name ++ prototype_of ids (slice_get ids.protos method.proto)

unfoldable pub class_of_method : Ids → Option MethodRow → List ℕ
class_of_method ids None = []
class_of_method ids (Some method) = type_name ids method.class

-- the name within its class that a row of methods gives
unfoldable pub method_member : Ids → ℕ → List ℕ
method_member ids row = method_within ids (slice_get ids.methods row)

-- the whole name that a row of methods gives, as `Lc;->add(II)I`
unfoldable pub method_text : Ids → ℕ → List ℕ
method_text ids row = class_of_method ids (slice_get ids.methods row) ++ codes "->" ++ method_member ids row
