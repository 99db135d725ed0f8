-- The header of a file and where its tables stand (Dalvik Executable format, `header_item`), each item at its own offset.
use Rattle.std.specs.Prelude.{◌≡◌, ◌⊎◌, ℕ, ◌+◌, ◌*◌, ◌≤◌, ◌<◌, List, [], ◌∷◌, length, drop, slice_range, IsTrue, nat_eq}
use Rattle.std.specs.List.{starts_with}
use Rattle.sha1.specs.Sha1.{sha1}
use Rattle.cc_meaning_dex.specs.Numbers.{u32_at, Within}
use Rattle.cc_meaning_dex.specs.Adler32.{adler32_of}
use Rattle.cc_meaning_dex.specs.declared.table.Table.{Table}
use Rattle.cc_meaning_dex.specs.declared.table.Table.TheVariants.{Texts, Types, Prototypes, Fields, Methods, Classes}

-- the longest file that is read
abbrev pub longest_file : ℕ
longest_file = 8388608

-- `dex`, a line feed, `035` and a zero byte
abbrev pub magic : List ℕ
magic = 100 ∷ 101 ∷ 120 ∷ 10 ∷ 48 ∷ 51 ∷ 53 ∷ 0 ∷ []

-- the sum that the header states, and that of all bytes behind it
abbrev pub stated_sum : List ℕ → ℕ
stated_sum file = u32_at file 8

abbrev pub found_sum : List ℕ → ℕ
found_sum file = adler32_of (drop 12 file)

-- the signature that the header states, and that of all bytes behind it
abbrev pub stated_signature : List ℕ → List ℕ
stated_signature file = slice_range file 12 32

abbrev pub found_signature : List ℕ → List ℕ
found_signature file = sha1 (drop 32 file)

-- the order of bytes is the usual one, lowest first
abbrev pub usual_order : ℕ
usual_order = 305419896

-- The link section, the map and the bounds of the data section are not looked at.
pub record IsHeader (file : List ℕ) : Type 0 where
  pub few : length file ≤ longest_file
  pub whole : 112 ≤ length file
  pub magic : IsTrue (starts_with nat_eq file magic)
  pub order : u32_at file 40 ≡ usual_order
  pub header_size : u32_at file 36 ≡ 112
  pub file_size : u32_at file 32 ≡ length file
  pub sum : stated_sum file ≡ found_sum file
  pub signature : stated_signature file ≡ found_signature file

-- the place of a table among the six, which names it in a fault
abbrev pub table_number : Table → ℕ
table_number Texts = 0
table_number Types = 1
table_number Prototypes = 2
table_number Fields = 3
table_number Methods = 4
table_number Classes = 5

-- where the header states a table's number of rows; its offset stands behind
abbrev pub stated_at : Table → ℕ
stated_at Texts = 56
stated_at Types = 64
stated_at Prototypes = 72
stated_at Fields = 80
stated_at Methods = 88
stated_at Classes = 96

-- the bytes of a row
abbrev pub row_bytes : Table → ℕ
row_bytes Texts = 4
row_bytes Types = 4
row_bytes Prototypes = 12
row_bytes Fields = 8
row_bytes Methods = 8
row_bytes Classes = 32

abbrev pub row_count : List ℕ → Table → ℕ
row_count file table = u32_at file (stated_at table)

abbrev pub table_at : List ℕ → Table → ℕ
table_at file table = u32_at file (stated_at table + 4)

-- where a row stands
abbrev pub row_at : List ℕ → Table → ℕ → ℕ
row_at file table row = table_at file table + row * row_bytes table

abbrev pub IsRow : List ℕ → Table → ℕ → Type 0
IsRow file table row = row < row_count file table

-- an empty table's offset is not looked at
abbrev pub StandsInFile : List ℕ → Table → Type 0
StandsInFile file table = (row_count file table ≡ 0) ⊎ Within file (table_at file table) (row_count file table * row_bytes table)

pub record HasTables (file : List ℕ) : Type 0 where
  pub texts : StandsInFile file Texts
  pub types : StandsInFile file Types
  pub prototypes : StandsInFile file Prototypes
  pub fields : StandsInFile file Fields
  pub methods : StandsInFile file Methods
  pub classes : StandsInFile file Classes

-- the whole header and each table lie in the file
pub record IsLaidOut (file : List ℕ) : Type 0 where
  pub whole : 112 ≤ length file
  pub tables : HasTables file
