-- The laws of a file's header and tables: what each fault means, and that a file has at most one reading.
use Rattle.std.specs.Prelude.{◌≡◌, ◌↔◌, ℕ, ◌<◌, List, Option, Some, None, IsTrue}
use Rattle.cc_meaning.specs.declared.fault.DexFault.{DexFault}
use Rattle.cc_meaning.specs.declared.file.Ids.{Ids}
use Rattle.cc_meaning_dex.specs.declared.table.Table.{Table}
use Rattle.cc_meaning_dex.specs.Texts.{SpellsText}
use Rattle.cc_meaning_dex.specs.Tables.{IsHeader, HasTables, IsRow}
use Rattle.cc_meaning_dex.specs.Descriptors.{is_paired, is_descriptor, IsPaired, IsDescriptor}
use Rattle.cc_meaning_dex.specs.Faults.{first_below, text_offset, text_units, row_fault, first_fault}
use Rattle.cc_meaning_dex.specs.Ids.{SpellsIds}

-- the first of so many places, counted from 0, that has a fault has this one
pub record IsFirstOf (at : ℕ → Option DexFault) (count : ℕ) (fault : DexFault) : Type 0 where
  pub place : ℕ
  pub within : place < count
  pub here : at place ≡ Some fault
  pub before : (k : ℕ) → k < place → at k ≡ None

pub record FirstFaults : Type 0 where
  pub some : (at : ℕ → Option DexFault) (count : ℕ) (fault : DexFault) → (first_below at count ≡ Some fault) ↔ IsFirstOf at count fault
  pub none : (at : ℕ → Option DexFault) (count : ℕ) → (first_below at count ≡ None) ↔ ((place : ℕ) → place < count → at place ≡ None)

-- a file without a fault
pub record IsSound (file : List ℕ) : Type 0 where
  pub header : IsHeader file
  pub tables : HasTables file
  pub rows : (table : Table) (row : ℕ) → IsRow file table row → row_fault file table row ≡ None

abbrev pub SoundFiles : Type 0
SoundFiles = (file : List ℕ) → (first_fault file ≡ None) ↔ IsSound file

-- the units by which rows are judged are the ones that are spelled
abbrev pub TextsJudged : Type 0
TextsJudged = (file : List ℕ) (row : ℕ) (units : List ℕ) → SpellsText file (text_offset file row) units → text_units file row ≡ units

abbrev pub PairsAgree : Type 0
PairsAgree = (units : List ℕ) → IsTrue (is_paired units) ↔ IsPaired units

abbrev pub DescriptorsAgree : Type 0
DescriptorsAgree = (units : List ℕ) → IsTrue (is_descriptor units) ↔ IsDescriptor units

-- a file spells its tables in one way at most
abbrev pub OneIds : Type 0
OneIds = (file : List ℕ) (these those : Ids) → SpellsIds file these → SpellsIds file those → these ≡ those
