-- Going up in sound classes comes to an end.
use Rattle.std.specs.Prelude.{ℕ, List}
use Rattle.cc_meaning.specs.declared.file.Ids.{Ids}
use Rattle.cc_meaning.specs.declared.file.RawClass.{RawClass}
use Rattle.cc_meaning_program.specs.ClassFaults.{AreSound}
use Rattle.cc_meaning_program.specs.Ancestry.{Ancestry, Superinterfaces}

-- each class has the list of the classes above it
abbrev pub ClassesHaveAncestries : Type 0
ClassesHaveAncestries = (ids : Ids) (classes : List RawClass) → AreSound ids classes → (name : List ℕ) → (ancestors : List (List ℕ)) × Ancestry ids name ancestors

-- and all interfaces the list of those above them
abbrev pub InterfacesHaveLists : Type 0
InterfacesHaveLists = (ids : Ids) (classes : List RawClass) → AreSound ids classes → (names : List (List ℕ)) → (listed : List (List ℕ)) × Superinterfaces ids names listed
