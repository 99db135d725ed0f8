-- The laws of the file that is written.
use Rattle.std.specs.Prelude.{ℕ, ◌^◌, ◌<◌, ◌≤◌, List, length}
use Rattle.cc_meaning.specs.declared.file.Ids.{Ids}
use Rattle.cc_meaning_program.specs.Rows.{FitTables}
use Rattle.cc_meaning_builder.specs.Laws.{StandsApart, WrittenU16, WrittenU32}
use Rattle.cc_builder_laws.specs.Standing.{StandsBehind, StandsWithin}
use Rattle.cc_dex_writer.specs.declared.offsets.Offsets.{Offsets}
use Rattle.cc_dex_writer.specs.Whole.{AreWideClasses, HasSmallRows, IsBody, IsWhole, file_form}

-- the laws of numbers and of parts that the others stand on
pub record Lower : Type 0 where
  pub apart : StandsApart
  pub behind : StandsBehind
  pub within : StandsWithin
  pub u16 : WrittenU16
  pub u32 : WrittenU32

-- a body, with its signature and its sum before it, is the whole file
abbrev pub BuiltIsWhole : Type 0
BuiltIsWhole = (ids : Ids) (offsets : Offsets) (bytes body : List ℕ) → IsBody ids offsets bytes body → IsWhole ids offsets bytes (file_form body)

-- rows that name what is there have room in the slots of the format, where 16 bits number types and prototypes
abbrev pub FittingRowsAreSmall : Type 0
FittingRowsAreSmall = (ids : Ids) → FitTables ids → length ids.texts < 2 ^ 32 → length ids.types ≤ 65536 → length ids.protos ≤ 65536 → AreWideClasses ids.classes → HasSmallRows ids
