-- The rows that instructions name are there.
use Rattle.std.specs.Prelude.{ℕ, ◌<◌, List, length, Contains}
use Rattle.cc_meaning.specs.declared.file.Ids.{Ids}
use Rattle.cc_meaning.specs.declared.file.RawClass.{RawClass}
use Rattle.cc_meaning_program.specs.BodyFaults.{HaveSoundBodies}
use Rattle.cc_meaning_program.specs.Uses.{AreUses}
use Rattle.cc_meaning_program.specs.declared.uses.MethodUse.{MethodUse}

-- the rows of these uses are there
pub record UseRows (ids : Ids) (methods : List MethodUse) (fields : List ℕ) : Type 0 where
  pub of_methods : (used : MethodUse) → Contains methods used → used.row < length ids.methods
  pub of_fields : (row : ℕ) → Contains fields row → row < length ids.fields

-- so are those of a file whose bodies are sound
abbrev pub UsedRowsAreThere : Type 0
UsedRowsAreThere = (ids : Ids) (classes : List RawClass) (methods : List MethodUse) (fields : List ℕ) → HaveSoundBodies ids classes → AreUses classes methods fields → UseRows ids methods fields
