-- The parameters of a prototype's name, and of a row of prototypes.
use Rattle.std.specs.Prelude.{◌≡◌, ℕ, ◌<◌, ◌==◌, Bool, true, List, [], ◌∷◌, ◌++◌, length, map, slice_get, Some, All}
use Rattle.std.specs.List.{flat_map}
use Rattle.cc_meaning.specs.declared.file.Ids.{Ids}
use Rattle.cc_meaning.specs.declared.file.ProtoRow.{ProtoRow}
use Rattle.cc_meaning_dex.specs.Descriptors.{IsValueDescriptor}
use Rattle.cc_meaning_program.specs.Named.{type_name}
use Rattle.cc_meaning_builder.specs.Tables.{prototype_key}

-- the descriptors of values, one behind the other, then `)` and what is behind it
pub record AreParams (params : List (List ℕ)) (after units : List ℕ) : Type 0 where
  pub values : All IsValueDescriptor params
  pub form : units ≡ flat_map (λ param. param) params ++ 41 ∷ after

-- the same, where they are those of rows of types that are there
pub record AreTypes (ids : Ids) (types : List ℕ) (after units : List ℕ) : Type 0 where
  pub there : All (λ type. type < length ids.types) types
  pub params : AreParams (map (type_name ids) types) after units

-- no parameter stands in front: there is `)`, or nothing
abbrev pub ends_params : List ℕ → Bool
ends_params [] = true
ends_params (u ∷ us) = u == 41

-- a row of prototypes with these types
abbrev pub IsKeyed : Ids → List ℕ → ℕ → Type 0
IsKeyed ids key number = (stated : ProtoRow) × (slice_get ids.protos number ≡ Some stated) × (prototype_key stated ≡ key)
