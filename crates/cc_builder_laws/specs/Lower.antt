-- The laws of numbers and of parts that the laws of members and of code stand on.
use Rattle.cc_meaning_builder.specs.Laws.{StandsApart, WrittenU16, WrittenU32, WrittenUleb, WrittenSleb}
use Rattle.cc_builder_laws.specs.Standing.{StandsWithin, UlebLength, UnitsLength}

pub record Lower : Type 0 where
  pub apart : StandsApart
  pub within : StandsWithin
  pub u16 : WrittenU16
  pub u32 : WrittenU32
  pub uleb : WrittenUleb
  pub sleb : WrittenSleb
  pub uleb_size : UlebLength
  pub units_size : UnitsLength
