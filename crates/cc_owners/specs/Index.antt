-- The members that a file defines, as they are found by their class and their name.
use Rattle.std.specs.Prelude.{◌≡◌, ◌⊎◌, ℕ, ◌<◌, List, ◌∷◌, map, slice_get, Some, Contains}
use Rattle.cc_meaning.specs.declared.file.Ids.{Ids}
use Rattle.cc_meaning.specs.declared.file.RawClass.{RawClass}
use Rattle.cc_meaning.specs.Order.{IsRising}
use Rattle.cc_owners.specs.declared.index.Entry.{Entry}
use Rattle.cc_owners.specs.declared.members.MemberTable.{MemberTable}
use Rattle.cc_owners.specs.Members.{member_of}
use Rattle.cc_owners.specs.Places.{rows_of}

abbrev pub entry_at : ℕ → ℕ → ℕ → Entry
entry_at definition place row = record { definition = definition; place = place; row = row }

-- the number of its definition, and its name
unfoldable pub entry_name : Ids → MemberTable → Entry → List ℕ
entry_name ids table entry = entry.definition ∷ member_of ids table entry.row

-- the first of these rows, so many, have been added, as those of a definition
pub record AreAdded (definition count : ℕ) (rows : List ℕ) (before after : List Entry) : Type 0 where
  pub kept : (entry : Entry) → Contains before entry → Contains after entry
  pub added : (place row : ℕ) → place < count → slice_get rows place ≡ Some row → Contains after (entry_at definition place row)
  pub no_more : (entry : Entry) → Contains after entry → Contains before entry ⊎ ((entry.definition ≡ definition) × (slice_get rows entry.place ≡ Some entry.row))

-- the file defines this member
pub record IsEntry (classes : List RawClass) (table : MemberTable) (entry : Entry) : Type 0 where
  pub class : RawClass
  pub there : slice_get classes entry.definition ≡ Some class
  pub stands : slice_get (rows_of table class) entry.place ≡ Some entry.row

-- the members of the first definitions, so many
pub record AreGathered (classes : List RawClass) (table : MemberTable) (count : ℕ) (entries : List Entry) : Type 0 where
  pub among : (entry : Entry) → Contains entries entry → IsEntry classes table entry
  pub all : (definition place row : ℕ) (class : RawClass) → definition < count → slice_get classes definition ≡ Some class → slice_get (rows_of table class) place ≡ Some row → Contains entries (entry_at definition place row)

-- the members of all definitions in the order of the definitions' numbers and the names
pub record AreEntries (ids : Ids) (classes : List RawClass) (table : MemberTable) (entries : List Entry) : Type 0 where
  pub rise : IsRising (map (entry_name ids table) entries)
  pub among : (entry : Entry) → Contains entries entry → IsEntry classes table entry
  pub all : (definition place row : ℕ) (class : RawClass) → slice_get classes definition ≡ Some class → slice_get (rows_of table class) place ≡ Some row → Contains (map (entry_name ids table) entries) (definition ∷ member_of ids table row)

-- rows of these members, in the order of the members' names, one for each name
pub record AreDefinedRows (ids : Ids) (classes : List RawClass) (table : MemberTable) (rows : List ℕ) : Type 0 where
  pub rise : IsRising (map (member_of ids table) rows)
  pub all : (definition place row : ℕ) (class : RawClass) → slice_get classes definition ≡ Some class → slice_get (rows_of table class) place ≡ Some row → Contains (map (member_of ids table) rows) (member_of ids table row)
