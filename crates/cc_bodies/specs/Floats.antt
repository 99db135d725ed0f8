-- Which rows of a file's types and prototypes are of floating point.
use Rattle.std.specs.Prelude.{◌≡◌, ◌↔◌, ℕ, Bool, false, List, slice_get, Some, unwrap_or, Contains, IsTrue}
use Rattle.cc_meaning.specs.declared.file.Ids.{Ids}
use Rattle.cc_meaning.specs.declared.file.ProtoRow.{ProtoRow}
use Rattle.cc_meaning_program.specs.Named.{type_name}
use Rattle.cc_meaning_program.specs.References.{IsFloating}
use Rattle.cc_bodies.specs.declared.floats.FloatRows.{FloatRows}

-- the result or a parameter is of floating point
pub data PrototypeFloats (ids : Ids) (prototype : ProtoRow) : Type 0 where
  by_result : IsFloating (type_name ids prototype.result) → PrototypeFloats ids prototype
  by_parameter : {type : ℕ} → Contains prototype.params type → IsFloating (type_name ids type) → PrototypeFloats ids prototype

-- a row of prototypes that is there and is so
pub record ProtoFloats (ids : Ids) (row : ℕ) : Type 0 where
  pub stated : ProtoRow
  pub there : slice_get ids.protos row ≡ Some stated
  pub floats : PrototypeFloats ids stated

-- the flag of each row says whether it is so, and no row without one is
abbrev pub FlagsSay : (ℕ → Type 0) → List Bool → Type 0
FlagsSay is_so flags = (row : ℕ) → IsTrue (unwrap_or (slice_get flags row) false) ↔ is_so row

pub record AreFloatRows (ids : Ids) (rows : FloatRows) : Type 0 where
  pub types : FlagsSay (λ row. IsFloating (type_name ids row)) rows.types
  pub protos : FlagsSay (ProtoFloats ids) rows.protos
