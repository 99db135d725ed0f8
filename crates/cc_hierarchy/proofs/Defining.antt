-- Definitions and the names that they give.
use Rattle.std.proofs.Common.{◌≡◌, ◌≢◌, ◌⊎◌, inl, inr, ℕ, ◌<◌, ◌≤◌, true, false, List, length, get_or, Some, None, slice_get, ap, sym, ◌∙◌, arith}
use Rattle.std.specs.Cmp.Lexicographic.{slice_cmp}
use Rattle.std.specs.Ordering.{nat_cmp, is_lt}
use Rattle.std.specs.List.Sorted.{IsPartitionPoint}
use Rattle.std.proofs.lemmas.Option.{slice_get_within, slice_get_cases}
use Rattle.cc_meaning.specs.declared.file.ClassRow.{ClassRow}
use Rattle.cc_meaning.specs.declared.file.Ids.{Ids}
use Rattle.cc_meaning_program.specs.Definitions.{Defines}
use Rattle.cc_hierarchy.specs.Indexes.{IsIndex, IsFirstOf, defined_name, name_stated}
use Rattle.cc_hierarchy.proofs.Indexing.{found_first, found_number, none_behind, none_here}

pub defines_within : (ids : Ids) (number : ℕ) (name : List ℕ) → Defines ids number name → number < length ids.classes
defines_within ids number name d = slice_get_within ids.classes number d.stated d.there

pub defines_named : (ids : Ids) (number : ℕ) (name : List ℕ) → Defines ids number name → defined_name ids number ≡ name
unfolding defined_name name_stated
defines_named ids number name d = ap (name_stated ids) d.there ∙ d.named

pub named_defines : (ids : Ids) (number : ℕ) (name : List ℕ) → number < length ids.classes → defined_name ids number ≡ name → Defines ids number name
unfolding defined_name name_stated
named_defines ids number name within named = from (slice_get_cases ids.classes number).1
  where
    from : ((x : ClassRow) × (number < length ids.classes) × (slice_get ids.classes number ≡ Some x) × (get_or ids.classes number x ≡ x)) ⊎ ((length ids.classes ≤ number) × (slice_get ids.classes number ≡ None)) → Defines ids number name
    from (inl (x, inside, there, is)) = record { stated = x; there = there; named = sym (ap (name_stated ids) there) ∙ named }
    from (inr (past, none)) = absurd (omega arith)

module _ (ids : Ids) (order : List ℕ) (index : IsIndex (defined_name ids) (length ids.classes) order) (name : List ℕ) (place : ℕ)
    (point : IsPartitionPoint (λ n. is_lt (slice_cmp nat_cmp (defined_name ids n) name) ≡ true) (λ n. is_lt (slice_cmp nat_cmp (defined_name ids n) name) ≡ false) order place) where
  pub first_defined : (number : ℕ) → slice_get order place ≡ Some number → defined_name ids number ≡ name → IsFirstOf ids name number
  first_defined number there named = record {
    defines = named_defines ids number name (found_number (defined_name ids) (length ids.classes) order index name place point number there) named;
    before = λ earlier below d.
        found_first (defined_name ids) (length ids.classes) order index name place point number there named earlier below (defines_within ids earlier name d) (defines_named ids earlier name d);
  }

  pub none_defined_behind : length order ≤ place → (number : ℕ) → ¬ Defines ids number name
  none_defined_behind past number d =
      none_behind (defined_name ids) (length ids.classes) order index name place point past number (defines_within ids number name d) (defines_named ids number name d)

  pub none_defined_here : (other : ℕ) → slice_get order place ≡ Some other → defined_name ids other ≢ name → (number : ℕ) → ¬ Defines ids number name
  none_defined_here other there differs number d =
      none_here (defined_name ids) (length ids.classes) order index name place point other there differs number (defines_within ids number name d) (defines_named ids number name d)
