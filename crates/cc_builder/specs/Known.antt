-- When the names of what was added have rows.
use Rattle.std.specs.Prelude.{ℕ, List, Contains}
use Rattle.cc_meaning.specs.declared.file.Ids.{Ids}
use Rattle.cc_meaning.specs.declared.listing.RowName.{RowName}
use Rattle.cc_meaning_program.specs.Rows.{FitTables}
use Rattle.cc_meaning_builder.specs.declared.content.ListedClass.{ListedClass}
use Rattle.cc_meaning_builder.specs.Named.{Means, all_names}
use Rattle.cc_meaning_builder.specs.WellNamed.{IsWellNamed}

-- every name of what was added means some row
pub record HasRows (content : List ListedClass) (ids : Ids) : Type 0 where
  pub tables : FitTables ids
  pub named : (name : RowName) → Contains (all_names content) name → (number : ℕ) × Means ids name number

-- a name is well formed, and means some row
pub record IsKnown (ids : Ids) (name : RowName) : Type 0 where
  pub formed : IsWellNamed name
  pub number : ℕ
  pub meant : Means ids name number

-- so is each of these
pub record AreKnown (ids : Ids) (names : List RowName) : Type 0 where
  pub tables : FitTables ids
  pub each : (name : RowName) → Contains names name → IsKnown ids name
