-- The interfaces that a search has entered, and what it finds.
use Rattle.std.specs.Prelude.{◌≡◌, ◌⊎◌, ℕ, ◌<◌, List, ◌++◌, Contains, slice_get, Option, Some, None}
use Rattle.std.specs.List.{flat_map}
use Rattle.cc_meaning_program.specs.Ancestry.{interfaces_named, Superinterfaces}
use Rattle.cc_meaning_program.specs.Searches.{NoneOf}
use Rattle.cc_owners.specs.declared.linked.Linked.{Linked}
use Rattle.cc_owners.specs.declared.place.Found.{Found}
use Rattle.cc_owners.specs.Known.{Has, IsFound}

-- marks are as before, or those of a search
abbrev pub OnlyMarked : List ℕ → ℕ → List ℕ → Type 0
OnlyMarked before search after = (class mark : ℕ) → slice_get after class ≡ Some mark → (slice_get before class ≡ Some mark) ⊎ (mark ≡ search)

-- The classes with this mark are among interfaces that have been searched with all that is above them, and none of these has the member.
pub record AreEntered (linked : Linked) (row : ℕ) (marks : List ℕ) (search : ℕ) : Type 0 where
  pub named : List (List ℕ)
  pub searched : List (List ℕ)
  pub above : Superinterfaces linked.ids.now named searched
  pub clear : NoneOf (Has linked row) searched
  pub among : (class : ℕ) → slice_get marks class ≡ Some search → (name : List ℕ) × (slice_get linked.names.now class ≡ Some name) × Contains searched name

-- what is found in these interfaces, each followed by those above it
abbrev pub IsFoundAbove : Linked → ℕ → List ℕ → ℕ → List (List ℕ) → Option Found → Type 0
IsFoundAbove linked row marks search named (Some found) = (searched : List (List ℕ)) × Superinterfaces linked.ids.now named searched × IsFound linked row searched found
IsFoundAbove linked row marks search named None = (searched : List (List ℕ)) × Superinterfaces linked.ids.now named searched × NoneOf (Has linked row) searched × AreEntered linked row marks search

-- all marks are of earlier searches
abbrev pub AreOlder : List ℕ → ℕ → Type 0
AreOlder marks search = (class mark : ℕ) → slice_get marks class ≡ Some mark → mark < search

-- what is found in these classes, and then in their interfaces, each followed by those above it
abbrev pub IsFoundInMethodOrder : Linked → ℕ → List (List ℕ) → Option Found → Type 0
IsFoundInMethodOrder linked row order (Some found) = (interfaces : List (List ℕ)) × Superinterfaces linked.ids.now (flat_map (interfaces_named linked.ids.now) order) interfaces × IsFound linked row (order ++ interfaces) found
IsFoundInMethodOrder linked row order None = (interfaces : List (List ℕ)) × Superinterfaces linked.ids.now (flat_map (interfaces_named linked.ids.now) order) interfaces × NoneOf (Has linked row) (order ++ interfaces)
