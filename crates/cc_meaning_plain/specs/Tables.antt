-- The header of a file and its tables (Dalvik Executable format, `header_item`), each item at its own offset.
use Rattle.std.specs.Prelude.{◌≡◌, ◌⊎◌, ℕ, ◌+◌, ◌*◌, ◌≤◌, ◌<◌, List, [], ◌∷◌, length, take}
use Rattle.cc_meaning_dex.specs.Numbers.{u32_at, Within}
use Rattle.cc_meaning_plain.specs.declared.table.Table.{Table}
use Rattle.cc_meaning_plain.specs.declared.table.Table.TheVariants.{Texts, Types, Prototypes, Fields, Methods, Classes}

-- the longest file that is read
abbrev pub longest_file : ℕ
longest_file = 8388608

-- `dex`, a line feed, `035` and a zero byte
abbrev pub magic : List ℕ
magic = 100 ∷ 101 ∷ 120 ∷ 10 ∷ 48 ∷ 51 ∷ 53 ∷ 0 ∷ []

-- The checksum and the signature, bytes 8 to 31, are not looked at.
pub record IsHeader (file : List ℕ) : Type 0 where
  pub whole : 112 ≤ length file
  pub magic : take 8 file ≡ magic
  pub file_size : u32_at file 32 ≡ length file
  pub header_size : u32_at file 36 ≡ 112
  pub endian_tag : u32_at file 40 ≡ 305419896

-- where the header states a table's number of rows; its offset stands behind
abbrev pub stated_at : Table → ℕ
stated_at Texts = 56
stated_at Types = 64
stated_at Prototypes = 72
stated_at Fields = 80
stated_at Methods = 88
stated_at Classes = 96

-- the bytes of a row
abbrev pub row_bytes : Table → ℕ
row_bytes Texts = 4
row_bytes Types = 4
row_bytes Prototypes = 12
row_bytes Fields = 8
row_bytes Methods = 8
row_bytes Classes = 32

abbrev pub row_count : List ℕ → Table → ℕ
row_count file table = u32_at file (stated_at table)

abbrev pub table_at : List ℕ → Table → ℕ
table_at file table = u32_at file (stated_at table + 4)

-- where a row stands
abbrev pub row_at : List ℕ → Table → ℕ → ℕ
row_at file table row = table_at file table + row * row_bytes table

abbrev pub IsRow : List ℕ → Table → ℕ → Type 0
IsRow file table row = row < row_count file table

-- an empty table's offset is not looked at
abbrev pub StandsInFile : List ℕ → Table → Type 0
StandsInFile file table = (row_count file table ≡ 0) ⊎ Within file (table_at file table) (row_count file table * row_bytes table)

pub record HasTables (file : List ℕ) : Type 0 where
  pub texts : StandsInFile file Texts
  pub types : StandsInFile file Types
  pub prototypes : StandsInFile file Prototypes
  pub fields : StandsInFile file Fields
  pub methods : StandsInFile file Methods
  pub classes : StandsInFile file Classes
