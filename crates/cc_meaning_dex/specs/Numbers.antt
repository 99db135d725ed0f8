-- Numbers of a fixed width, lowest byte first, and places in a file.
use Rattle.std.specs.Prelude.{◌≡◌, ℕ, ◌+◌, ◌*◌, ◌≤◌, List, length, slice_index, take, drop}

-- that many bytes from `at` on lie in the file
abbrev pub Within : List ℕ → ℕ → ℕ → Type 0
Within file at size = at + size ≤ length file

-- the bytes from `at` on begin with this part
abbrev pub Stands : List ℕ → ℕ → List ℕ → Type 0
Stands bytes at part = take (length part) (drop at bytes) ≡ part

-- the number of 16 bits at `at`; a byte past the end counts as 0
unfoldable pub u16_at : List ℕ → ℕ → ℕ
u16_at file at = slice_index file at + 256 * slice_index file (at + 1)

-- the number of 32 bits at `at`; a byte past the end counts as 0
unfoldable pub u32_at : List ℕ → ℕ → ℕ
u32_at file at = u16_at file at + 65536 * u16_at file (at + 2)
