-- What stands at the offsets of items, and what the rows of tables say besides.
use Rattle.std.specs.Prelude.{◌≡◌, ◌≢◌, ◌⊎◌, ℕ, ◌<◌, ◌≤◌, List, [], length, take, slice_get, Option, Some, None, All, Contains}
use Rattle.cc_meaning.specs.declared.file.ClassRow.{ClassRow}
use Rattle.cc_meaning.specs.declared.file.Ids.{Ids}
use Rattle.cc_meaning.specs.declared.file.ProtoRow.{ProtoRow}
use Rattle.cc_meaning.specs.declared.file.RawClass.{RawClass}
use Rattle.cc_meaning.specs.declared.file.RawField.{RawField}
use Rattle.cc_meaning.specs.declared.program.StaticValue.{StaticValue}
use Rattle.cc_meaning_dex.specs.Ids.{ListsTypes}
use Rattle.cc_meaning_dex.specs.Numbers.{Stands}
use Rattle.cc_meaning_dex.specs.declared.items.StatedMethod.{StatedMethod}
use Rattle.cc_meaning_builder.specs.Forms.{class_data_form, values_form}
use Rattle.cc_meaning_builder.specs.Tables.{short_form}
use Rattle.cc_meaning_builder.specs.Written.{IsClassWritten}
use Rattle.cc_meaning_dex.specs.Classes.{EachPair}

-- a list of types, whose rows 16 bits hold
abbrev pub TypesStand : List ℕ → ℕ → List ℕ → Type 0
TypesStand file at rows = All (λ row. row < 65536) rows → ListsTypes file at rows

abbrev pub ParamsStand : List ℕ → ℕ → ProtoRow → Type 0
ParamsStand file at prototype = TypesStand file at prototype.params

abbrev pub InterfacesStand : List ℕ → ℕ → ClassRow → Type 0
InterfacesStand file at class = TypesStand file at class.interfaces

-- class data, where there are members
abbrev pub MembersStand : List ℕ → ℕ → List RawField → List StatedMethod → Type 0
MembersStand file at fields methods =
    ((at ≡ 0) × (fields ≡ []) × (methods ≡ [])) ⊎ ((at ≢ 0) × Stands file at (class_data_form fields methods))

-- values, where there are some
abbrev pub ValuesStand : List ℕ → Ids → ℕ → List RawField → List StaticValue → Type 0
ValuesStand file ids at fields values = ((at ≡ 0) × (values ≡ [])) ⊎ ((at ≢ 0) × Stands file at (values_form ids fields values))

-- the row of the text that is the short form of a prototype, where there is such a row
abbrev pub IsShortOf : Ids → ℕ → ProtoRow → Type 0
IsShortOf ids row prototype = Contains ids.texts (short_form ids prototype) → slice_get ids.texts row ≡ Some (short_form ids prototype)

-- ---- classes

-- this holds of what is given, if something is
abbrev pub WhereGiven : {A : Type 0} → (A → Type 0) → Option A → Type 0
WhereGiven holds (Some x) = holds x
WhereGiven holds None = Unit {0}

-- the first classes are written, one for each row, where there are as many
abbrev pub AreFirstWritten : List ℕ → Ids → List ClassRow → List RawClass → Type 0
AreFirstWritten file ids rows classes = length rows ≤ length classes → EachPair (IsClassWritten file ids) rows (take (length rows) classes)
