-- A row below its table's count lies in the file.
use Rattle.std.proofs.Common.{◌≡◌, ◌⊎◌, inl, inr, ℕ, ◌+◌, ◌*◌, ◌<◌, ◌≤◌, List, length, arith}
use Rattle.std.proofs.lemmas.Nat.{mul-le}
use Rattle.cc_meaning_dex.specs.Numbers.{Within}
use Rattle.cc_meaning_plain.specs.declared.table.Table.{Table}
use Rattle.cc_meaning_plain.specs.declared.table.Table.TheVariants.{Texts, Types, Prototypes, Fields, Methods, Classes}
use Rattle.cc_meaning_plain.specs.Tables.{row_bytes, row_count, table_at, row_at, HasTables, IsRow, StandsInFile}

pub table_stands : (file : List ℕ) (table : Table) → HasTables file → StandsInFile file table
table_stands file Texts h = h.texts
table_stands file Types h = h.types
table_stands file Prototypes h = h.prototypes
table_stands file Fields h = h.fields
table_stands file Methods h = h.methods
table_stands file Classes h = h.classes

row_fits : (at count bytes row size : ℕ) → (count ≡ 0) ⊎ (at + count * bytes ≤ size) → row < count → (at + row * bytes) + bytes ≤ size
row_fits at count bytes row size (inl none) below = absurd (omega arith)
row_fits at count bytes row size (inr fits) below = omega (arith, mul-le (row + 1) bytes count bytes (omega arith) (omega arith))

pub row_within : (file : List ℕ) (table : Table) (row : ℕ) → HasTables file → IsRow file table row → Within file (row_at file table row) (row_bytes table)
row_within file table row h below = row_fits (table_at file table) (row_count file table) (row_bytes table) row (length file) (table_stands file table h) below
