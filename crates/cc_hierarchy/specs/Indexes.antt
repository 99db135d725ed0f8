-- Numbers in the order of the names that they give.
use Rattle.std.specs.Prelude.{◌≡◌, ℕ, ◌+◌, ◌<◌, Bool, List, [], length, slice_get, slice_index_or, Option, Some, None}
use Rattle.std.specs.Cmp.Lexicographic.{slice_cmp}
use Rattle.std.specs.Ordering.{nat_cmp, is_lt}
use Rattle.std.specs.List.{range_with_len}
use Rattle.std.specs.List.Sorted.{IsPermutation, IsSortedBy}
use Rattle.cc_meaning.specs.declared.file.ClassRow.{ClassRow}
use Rattle.cc_meaning.specs.declared.file.Ids.{Ids}
use Rattle.cc_meaning_program.specs.Named.{type_name}
use Rattle.cc_meaning_program.specs.Definitions.{Defines}
use Rattle.cc_hierarchy.specs.declared.definitions.Definitions.{Definitions}

abbrev pub comes_before : (ℕ → List ℕ) → ℕ → ℕ → Bool
comes_before name_of x y = is_lt (slice_cmp nat_cmp (name_of x) (name_of y))

-- the numbers below a count in the order of the names that they give, and of one name in their own order
pub record IsIndex (name_of : ℕ → List ℕ) (count : ℕ) (order : List ℕ) : Type 0 where
  pub all : IsPermutation (range_with_len 0 count) order
  pub sorted : IsSortedBy (comes_before name_of) order
  pub tied : (k d : ℕ) → k + 1 < length order → name_of (slice_index_or order k d) ≡ name_of (slice_index_or order (k + 1) d) → slice_index_or order k d < slice_index_or order (k + 1) d

-- ---- definitions

unfoldable pub name_stated : Ids → Option ClassRow → List ℕ
name_stated ids None = []
name_stated ids (Some stated) = type_name ids stated.class

-- the name of the class that a definition is of
unfoldable pub defined_name : Ids → ℕ → List ℕ
defined_name ids number = name_stated ids (slice_get ids.classes number)

-- the definitions of a file, for a search by name
pub record Indexes (ids : Ids) (definitions : Definitions) : Type 0 where
  pub index : IsIndex (defined_name ids) (length ids.classes) definitions.order

-- the first definition of the class of a name
pub record IsFirstOf (ids : Ids) (name : List ℕ) (number : ℕ) : Type 0 where
  pub defines : Defines ids number name
  pub before : (earlier : ℕ) → earlier < number → ¬ Defines ids earlier name
