-- What is named, sorted by the table that its row stands in, and the texts that its rows need.
use Rattle.std.specs.Prelude.{◌≡◌, ℕ, List, [], ◌∷◌, ◌++◌, map}
use Rattle.std.specs.List.{flat_map}
use Rattle.cc_meaning.specs.declared.listing.RowName.{RowName}
use Rattle.cc_meaning.specs.declared.listing.RowName.TheVariants as row
use Rattle.cc_meaning_dex.specs.Classes.{EachPair}
use Rattle.cc_meaning_builder.specs.Tables.{short_letter}
use Rattle.cc_meaning_builder.specs.WellNamed.{IsPrototypeName}
use Rattle.cc_tables.specs.Rows.{IsSplit}
use Rattle.cc_tables.specs.declared.needs.NamedField.{NamedField}
use Rattle.cc_tables.specs.declared.needs.NamedMethod.{NamedMethod}
use Rattle.cc_tables.specs.declared.needs.Needs.{Needs}

-- ---- what a name says

abbrev pub texts_in : RowName → List (List ℕ)
texts_in (row.Text units) = units ∷ []
texts_in other = []

abbrev pub classes_in : RowName → List (List ℕ)
classes_in (row.Class name) = name ∷ []
classes_in other = []

abbrev pub fields_in : RowName → List NamedField
fields_in (row.Field class name kind) = record { class = class; name = name; kind = kind } ∷ []
fields_in other = []

abbrev pub methods_in : RowName → List RowName
methods_in (row.Method class name proto) = row.Method class name proto ∷ []
methods_in other = []

-- the name is that of this method, whose prototype is split where it is well formed
abbrev pub IsMethodNamed : RowName → NamedMethod → Type 0
IsMethodNamed (row.Method class name proto) method = (method.class ≡ class) × (method.name ≡ name) × (IsPrototypeName proto → IsSplit proto method.params method.result)
IsMethodNamed other method = ⊥

pub record AreNeeds (names : List RowName) (needs : Needs) : Type 0 where
  pub texts : needs.texts ≡ flat_map texts_in names
  pub classes : needs.classes ≡ flat_map classes_in names
  pub fields : needs.fields ≡ flat_map fields_in names
  pub methods : EachPair IsMethodNamed (flat_map methods_in names) needs.methods

-- ---- the texts that rows need

abbrev pub field_types : NamedField → List (List ℕ)
field_types field = field.class ∷ field.kind ∷ []

abbrev pub method_types : NamedMethod → List (List ℕ)
method_types method = method.class ∷ method.result ∷ method.params

-- the descriptors of all types
abbrev pub descriptors_of : Needs → List (List ℕ)
descriptors_of needs = needs.classes ++ (flat_map field_types needs.fields ++ flat_map method_types needs.methods)

-- the result and the parameters, a letter each
abbrev pub short_of : NamedMethod → List ℕ
short_of method = map short_letter (method.result ∷ method.params)

abbrev pub method_texts : NamedMethod → List (List ℕ)
method_texts method = method.name ∷ short_of method ∷ []

abbrev pub field_texts : NamedField → List (List ℕ)
field_texts field = field.name ∷ []

-- all texts
abbrev pub texts_of : Needs → List (List ℕ)
texts_of needs = needs.texts ++ (descriptors_of needs ++ (flat_map field_texts needs.fields ++ flat_map method_texts needs.methods))
