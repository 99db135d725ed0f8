-- What is known of that by which members are looked for, and what is found.
use Rattle.std.specs.Prelude.{◌≡◌, ℕ, true, List, slice_get, Some, is_some}
use Rattle.cc_meaning_program.specs.ClassFaults.{AreSound}
use Rattle.cc_meaning_program.specs.ClassNames.{AreClassNames}
use Rattle.cc_meaning_program.specs.Ancestry.{Ancestry}
use Rattle.cc_meaning_program.specs.Searches.{First}
use Rattle.cc_meaning_program.specs.Outlines.{AreNumbersOf, AreOutlines}
use Rattle.cc_owners.specs.declared.linked.Linked.{Linked}
use Rattle.cc_owners.specs.declared.place.Found.{Found}
use Rattle.cc_owners.specs.Index.{AreEntries, AreDefinedRows}
use Rattle.cc_owners.specs.Members.{member_of}
use Rattle.cc_owners.specs.Places.{place_of}

pub record IsKnown (linked : Linked) : Type 0 where
  pub sound : AreSound linked.ids.now linked.classes.now
  pub names : AreClassNames linked.ids.now linked.names.now
  pub outlines : AreOutlines linked.ids.now linked.names.now linked.outlines.now
  pub entries : AreEntries linked.ids.now linked.classes.now linked.table linked.entries.now
  pub defined : AreDefinedRows linked.ids.now linked.classes.now linked.table linked.defined.now

-- a class, and those above it up to Object, by their numbers
pub record AreAncestors (linked : Linked) (class : ℕ) (chain : List ℕ) : Type 0 where
  pub name : List ℕ
  pub there : slice_get linked.names.now class ≡ Some name
  pub above : List (List ℕ)
  pub ancestry : Ancestry linked.ids.now name above
  pub numbers : AreNumbersOf linked.names.now above chain

-- the file defines in a class the member that a row names
abbrev pub Has : Linked → ℕ → List ℕ → Type 0
Has linked row class = is_some (place_of linked.ids.now linked.classes.now linked.table class (member_of linked.ids.now linked.table row)) ≡ true

-- the first of these classes in which the file defines the member, and the member's place there
pub record IsFound (linked : Linked) (row : ℕ) (order : List (List ℕ)) (found : Found) : Type 0 where
  pub owner : List ℕ
  pub there : slice_get linked.names.now found.class ≡ Some owner
  pub first : First (Has linked row) order owner
  pub placed : place_of linked.ids.now linked.classes.now linked.table owner (member_of linked.ids.now linked.table row) ≡ Some found.place
