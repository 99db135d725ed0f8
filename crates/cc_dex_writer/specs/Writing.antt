-- What a file is that is written for tables and classes.
use Rattle.std.specs.Prelude.{◌≡◌, ℕ, List, length}
use Rattle.cc_meaning.specs.declared.file.Ids.{Ids}
use Rattle.cc_meaning.specs.declared.file.RawClass.{RawClass}
use Rattle.cc_meaning_dex.specs.Texts.{SpellsText}
use Rattle.cc_meaning_dex.specs.Classes.{EachPair}
use Rattle.cc_meaning_program.specs.Rows.{FitTables}
use Rattle.cc_meaning_builder.specs.Written.{FitsFormat, IsWritten}
use Rattle.cc_dex_writer.specs.declared.offsets.Offsets.{Offsets}
use Rattle.cc_dex_writer.specs.Items.{InterfacesStand, ParamsStand}

-- within the bounds of the format, a file of tables whose rows fit, with a class for each definition, is written for them
abbrev pub IsFileOf : Ids → List RawClass → List (List ℕ) → List ℕ → Type 0
IsFileOf ids classes outs file = FitTables ids → length classes ≡ length ids.classes → FitsFormat file ids classes → IsWritten ids classes outs file

-- the items of tables stand at these offsets
pub record AreItems (file : List ℕ) (ids : Ids) (offsets : Offsets) : Type 0 where
  pub texts : EachPair (SpellsText file) offsets.texts ids.texts
  pub params : EachPair (ParamsStand file) offsets.params ids.protos
  pub interfaces : EachPair (InterfacesStand file) offsets.interfaces ids.classes
