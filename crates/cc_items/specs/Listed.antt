-- The parts of the lists of items: the members of one of a class's two lists, and a try by itself.
use Rattle.std.specs.Prelude.{ℕ, ◌-◌, Bool, if◌then◌else◌, List, ◌++◌, slice_get, Option, None, Some}
use Rattle.cc_meaning.specs.declared.file.Ids.{Ids}
use Rattle.cc_meaning.specs.declared.file.RawField.{RawField}
use Rattle.cc_meaning.specs.declared.file.RawTry.{RawTry}
use Rattle.cc_meaning_dex.specs.declared.items.StatedMethod.{StatedMethod}
use Rattle.cc_meaning_dex.specs.declared.items.ValueKind.{ValueKind}
use Rattle.cc_meaning_dex.specs.Values.{field_kind}
use Rattle.cc_meaning_builder.specs.Forms.{direct_methods, instance_fields, static_fields, u16_form, u32_form, virtual_methods}

-- the fields that are static, or those that aren't
abbrev pub fields_of : Bool → List RawField → List RawField
fields_of is_static fields = if is_static then static_fields fields else instance_fields fields

-- the methods that are direct, or those that aren't
abbrev pub methods_of : Bool → List StatedMethod → List StatedMethod
methods_of is_direct methods = if is_direct then direct_methods methods else virtual_methods methods

-- a try whose handler lies this far behind the start of the handler list
abbrev pub try_form : ℕ → RawTry → List ℕ
try_form offset try = u32_form try.start ++ (u16_form (try.end - try.start) ++ u16_form offset)

-- the kind of a value of a field, none where there is no field
abbrev pub kind_of_field : Ids → Option RawField → Option ValueKind
kind_of_field ids None = None
kind_of_field ids (Some field) = field_kind ids field.row

-- the kind of a value of the field at a place
abbrev pub kind_at : Ids → List RawField → ℕ → Option ValueKind
kind_at ids fields place = kind_of_field ids (slice_get fields place)
