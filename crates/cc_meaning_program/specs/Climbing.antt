-- Going up from a class of the file.
use Rattle.std.specs.Prelude.{ℕ, suc, List, length}
use Rattle.cc_meaning.specs.declared.file.Ids.{Ids}
use Rattle.cc_meaning.specs.declared.file.RawClass.{RawClass}
use Rattle.cc_meaning_program.specs.Definitions.{Defines, Extends}
use Rattle.cc_meaning_program.specs.ClassFaults.{AreSound}

-- superclasses lead from a definition to a class that isn't of the file, in so many steps at most
pub data Leaves (ids : Ids) : ℕ → ℕ → Type 0 where
  out : {steps number : ℕ} → ((above : ℕ) → ¬ Extends ids number above) → Leaves ids (suc steps) number
  up : {steps number above : ℕ} → Extends ids number above → Leaves ids steps above → Leaves ids (suc steps) number

-- in sound classes, from each definition in no more steps than there are definitions
abbrev pub SoundClassesLeave : Type 0
SoundClassesLeave = (ids : Ids) (classes : List RawClass) → AreSound ids classes → (number : ℕ) (name : List ℕ) → Defines ids number name → Leaves ids (length ids.classes) number
