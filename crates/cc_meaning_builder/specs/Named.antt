-- Which rows of a file's tables are named by the classes that a builder was given.
use Rattle.std.specs.Prelude.{◌≡◌, ℕ, ◌<◌, List, [], ◌∷◌, ◌++◌, length, map, slice_get, Option, Some, None}
use Rattle.std.specs.List.{flat_map}
use Rattle.cc_meaning.specs.declared.file.FieldRow.{FieldRow}
use Rattle.cc_meaning.specs.declared.file.Ids.{Ids}
use Rattle.cc_meaning.specs.declared.file.MethodRow.{MethodRow}
use Rattle.cc_meaning.specs.declared.listing.ListedCatch.{ListedCatch}
use Rattle.cc_meaning.specs.declared.listing.ListedTry.{ListedTry}
use Rattle.cc_meaning.specs.declared.listing.ListedValue.{ListedValue}
use Rattle.cc_meaning.specs.declared.listing.ListedValue.TheVariants as listed
use Rattle.cc_meaning.specs.declared.listing.Listing.{Listing}
use Rattle.cc_meaning.specs.declared.listing.RowName.{RowName}
use Rattle.cc_meaning.specs.declared.listing.RowName.TheVariants as row
use Rattle.cc_meaning_program.specs.Named.{text_of, type_name, prototype_of}
use Rattle.cc_meaning_builder.specs.declared.content.ListedClass.{ListedClass}
use Rattle.cc_meaning_builder.specs.declared.content.ListedField.{ListedField}
use Rattle.cc_meaning_builder.specs.declared.content.ListedMethod.{ListedMethod}

-- ---- what is named

-- a type where there is one
abbrev pub class_names : Option (List ℕ) → List RowName
class_names None = []
class_names (Some name) = row.Class name ∷ []

abbrev pub catch_names : ListedCatch → List RowName
catch_names catch = class_names catch.class

abbrev pub try_names : ListedTry → List RowName
try_names try = flat_map catch_names try.catches

abbrev pub code_names : Option Listing → List RowName
code_names None = []
code_names (Some listing) = map (λ mark. mark.row) listing.marks ++ flat_map try_names listing.tries

abbrev pub value_names : Option ListedValue → List RowName
value_names (Some (listed.Text units)) = row.Text units ∷ []
value_names other = []

-- a field of a class, and the text that it begins with
abbrev pub field_names : List ℕ → ListedField → List RowName
field_names class field = row.Field class field.name field.kind ∷ value_names field.value

-- a method of a class, and what its code names
abbrev pub method_names : List ℕ → ListedMethod → List RowName
method_names class method = row.Method class method.name method.proto ∷ code_names method.code

-- a class, those above it, and what its members name
abbrev pub listed_names : ListedClass → List RowName
listed_names class =
    row.Class class.name ∷ class_names class.superclass
    ++ (map row.Class class.interfaces ++ (flat_map (field_names class.name) class.fields ++ flat_map (method_names class.name) class.methods))

abbrev pub all_names : List ListedClass → List RowName
all_names content = flat_map listed_names content

-- ---- the rows that these names mean

pub record IsFieldNamed (ids : Ids) (class name kind : List ℕ) (row : ℕ) : Type 0 where
  pub stated : FieldRow
  pub there : slice_get ids.fields row ≡ Some stated
  pub classed : type_name ids stated.class ≡ class
  pub named : text_of ids stated.name ≡ name
  pub kinded : type_name ids stated.kind ≡ kind

pub record IsMethodNamed (ids : Ids) (class name proto : List ℕ) (row : ℕ) : Type 0 where
  pub stated : MethodRow
  pub there : slice_get ids.methods row ≡ Some stated
  pub classed : type_name ids stated.class ≡ class
  pub named : text_of ids stated.name ≡ name
  pub typed : prototype_of ids (slice_get ids.protos stated.proto) ≡ proto

-- the row of its own table that a name means
abbrev pub Means : Ids → RowName → ℕ → Type 0
Means ids (row.Text units) number = slice_get ids.texts number ≡ Some units
Means ids (row.Class name) number = (number < length ids.types) × (type_name ids number ≡ name)
Means ids (row.Field class name kind) number = IsFieldNamed ids class name kind number
Means ids (row.Method class name proto) number = IsMethodNamed ids class name proto number
