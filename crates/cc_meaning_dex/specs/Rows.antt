-- What the tables of a file say of the rows that its classes name.
use Rattle.std.specs.Prelude.{◌≡◌, ℕ, Bool, false, List, slice_get, Option, Some, None, option_and_then}
use Rattle.std.specs.Str.{bytes_eq}
use Rattle.cc_meaning.specs.declared.file.Ids.{Ids}
use Rattle.cc_meaning.specs.declared.file.FieldRow.{FieldRow}
use Rattle.cc_meaning.specs.declared.file.MethodRow.{MethodRow}

-- the descriptor of a row of types, where there is such a row
abbrev pub descriptor_of : Ids → ℕ → Option (List ℕ)
descriptor_of ids type = option_and_then (slice_get ids.texts) (slice_get ids.types type)

-- two rows of types have the same descriptor
pub record IsSameType (ids : Ids) (this that : ℕ) : Type 0 where
  pub name : List ℕ
  pub this_named : descriptor_of ids this ≡ Some name
  pub that_named : descriptor_of ids that ≡ Some name

-- a row of fields that is there and names this class, by its descriptor
pub record IsFieldOf (ids : Ids) (class row : ℕ) : Type 0 where
  pub stated : FieldRow
  pub there : slice_get ids.fields row ≡ Some stated
  pub same : IsSameType ids class stated.class

-- a row of methods that is there and names this class, by its descriptor
pub record IsMethodOf (ids : Ids) (class row : ℕ) : Type 0 where
  pub stated : MethodRow
  pub there : slice_get ids.methods row ≡ Some stated
  pub same : IsSameType ids class stated.class

-- ---- the same as tests

abbrev pub same_names : Option (List ℕ) → Option (List ℕ) → Bool
same_names None that = false
same_names (Some this) None = false
same_names (Some this) (Some that) = bytes_eq this that

abbrev pub is_same_type : Ids → ℕ → ℕ → Bool
is_same_type ids this that = same_names (descriptor_of ids this) (descriptor_of ids that)

abbrev pub names_field : Ids → ℕ → Option FieldRow → Bool
names_field ids class None = false
names_field ids class (Some stated) = is_same_type ids class stated.class

abbrev pub names_method : Ids → ℕ → Option MethodRow → Bool
names_method ids class None = false
names_method ids class (Some stated) = is_same_type ids class stated.class

abbrev pub is_field_of : Ids → ℕ → ℕ → Bool
is_field_of ids class row = names_field ids class (slice_get ids.fields row)

abbrev pub is_method_of : Ids → ℕ → ℕ → Bool
is_method_of ids class row = names_method ids class (slice_get ids.methods row)
