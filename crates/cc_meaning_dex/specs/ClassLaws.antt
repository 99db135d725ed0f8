-- The laws of what a file spells for its classes: what is read is what is spelled, and nothing else is spelled.
use Rattle.std.specs.Prelude.{◌≡◌, ◌↔◌, ℕ, List, Some, Ok}
use Rattle.cc_meaning.specs.declared.file.Ids.{Ids}
use Rattle.cc_meaning.specs.declared.file.ClassRow.{ClassRow}
use Rattle.cc_meaning_dex.specs.declared.items.Members.{Members}
use Rattle.cc_meaning_dex.specs.declared.items.Handler.{Handler}
use Rattle.cc_meaning_dex.specs.Members.{SpellsMembers, members_of}
use Rattle.cc_meaning.specs.declared.file.RawClass.{RawClass}
use Rattle.cc_meaning_dex.specs.Tries.{RisesFrom, handlers_of}
use Rattle.cc_meaning_dex.specs.Classes.{SpellsClasses, classes_of}

-- the members of a class are read exactly where they are spelled
abbrev pub MembersAgree : Type 0
MembersAgree = (file : List ℕ) (ids : Ids) (class : ClassRow) (members : Members) → (members_of file ids class ≡ Some members) ↔ SpellsMembers file ids class members

-- the handlers of a handler list begin one behind the other
abbrev pub HandlersRise : Type 0
HandlersRise = (file : List ℕ) (ids : Ids) (at : ℕ) (handlers : List Handler) → handlers_of file ids at ≡ Some handlers → RisesFrom 0 handlers

-- the classes of a file are read exactly where they are spelled
abbrev pub ClassesAgree : Type 0
ClassesAgree = (file : List ℕ) (ids : Ids) (classes : List RawClass) → (classes_of file ids ≡ Ok classes) ↔ SpellsClasses file ids classes

-- a file spells its classes in one way at most
abbrev pub OneClasses : Type 0
OneClasses = (file : List ℕ) (ids : Ids) (these those : List RawClass) → SpellsClasses file ids these → SpellsClasses file ids those → these ≡ those
