-- The order in which classes are searched for a field, and what is found.
use Rattle.std.specs.Prelude.{ℕ, List, [], ◌∷◌, ◌++◌, Option, Some, None}
use Rattle.cc_meaning.specs.declared.file.Ids.{Ids}
use Rattle.cc_meaning_program.specs.Ancestry.{interfaces_named, Superinterfaces}
use Rattle.cc_meaning_program.specs.Searches.{NoneOf}
use Rattle.cc_owners.specs.declared.linked.Linked.{Linked}
use Rattle.cc_owners.specs.declared.place.Found.{Found}
use Rattle.cc_owners.specs.Entered.{AreEntered}
use Rattle.cc_owners.specs.Known.{Has, IsFound}

-- these classes, each followed by its interfaces, each of them followed by those above it
pub data WithInterfaces (ids : Ids) : List (List ℕ) → List (List ℕ) → Type 0 where
  none : WithInterfaces ids [] []
  next : {name : List ℕ} {rest interfaces behind : List (List ℕ)} → Superinterfaces ids (interfaces_named ids name) interfaces → WithInterfaces ids rest behind → WithInterfaces ids (name ∷ rest) (name ∷ interfaces ++ behind)

-- what is found in a class and then in its interfaces
abbrev pub IsFoundAt : Linked → ℕ → List ℕ → ℕ → List ℕ → Option Found → Type 0
IsFoundAt linked row marks search name (Some found) = (interfaces : List (List ℕ)) × Superinterfaces linked.ids.now (interfaces_named linked.ids.now name) interfaces × IsFound linked row (name ∷ interfaces) found
IsFoundAt linked row marks search name None = (interfaces : List (List ℕ)) × Superinterfaces linked.ids.now (interfaces_named linked.ids.now name) interfaces × NoneOf (Has linked row) (name ∷ interfaces) × AreEntered linked row marks search

-- what is found in classes, each followed by its interfaces
abbrev pub IsFoundInFieldOrder : Linked → ℕ → List (List ℕ) → Option Found → Type 0
IsFoundInFieldOrder linked row order (Some found) = (searched : List (List ℕ)) × WithInterfaces linked.ids.now order searched × IsFound linked row searched found
IsFoundInFieldOrder linked row order None = (searched : List (List ℕ)) × WithInterfaces linked.ids.now order searched × NoneOf (Has linked row) searched
