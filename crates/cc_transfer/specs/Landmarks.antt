-- The classes and the field that rules name.
use Rattle.std.specs.Prelude.{◌≡◌}
use Rattle.cc_meaning.specs.declared.program.Program.{Program}
use Rattle.cc_meaning.specs.Lookup.{system_out}
use Rattle.cc_meaning_typing.specs.Hierarchy.{object_class}
use Rattle.cc_meaning_typing.specs.Types.{class_type}
use Rattle.cc_meaning_typing.specs.Code.{string_type, throwable_type}
use Rattle.cc_transfer.specs.declared.landmarks.Landmarks.{Landmarks}

-- they are those of a program
pub record AreLandmarks (program : Program) (found : Landmarks) : Type 0 where
  pub object : found.object ≡ object_class program
  pub string : class_type found.string ≡ string_type program
  pub throwable : class_type found.throwable ≡ throwable_type program
  pub system_out : found.system_out ≡ system_out program
