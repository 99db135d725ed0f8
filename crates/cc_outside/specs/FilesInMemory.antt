-- A shelf in memory.
use Rattle.std.specs.Prelude.{◌≡◌, ◌≢◌, ℕ, Bool, true, false, List, [], ◌∷◌, length, Option, Some, None, Result, Ok, Err, nat_lt, ◌⊎◌}
use Rattle.std.specs.Bool.{MatchBool}
use Rattle.cc_meaning.specs.declared.file.ShelfFile.{ShelfFile}
use Rattle.cc_outside.specs.Failing.{one_more, is_listed}
use Rattle.cc_outside.specs.Shelves.{Files, Known, Counts, put}
use Rattle.cc_outside.specs.declared.shelf.ReadEnd.{ReadEnd}
use Rattle.cc_outside.specs.declared.shelf.ReadEnd.TheVariants as reads
use Rattle.cc_outside.specs.declared.shelf.ShelfEnd.{ShelfEnd}
use Rattle.cc_outside.specs.declared.shelf.ShelfEnd.TheVariants as ends

-- of two files of one name the first counts
abbrev pub files_of : List ShelfFile → Files
files_of [] = λ name. None
files_of (file ∷ rest) = put file.name file.bytes (files_of rest)

-- the files, the numbers of the calls that fail, how many calls there were, and the counts
pub record MemoryFiles : Type 0 where
  pub files : List ShelfFile
  pub fails : List ℕ
  pub calls : ℕ
  pub counts : Counts

-- it tells its files
abbrev pub known_of : MemoryFiles → Known
known_of s = record { files = Some (files_of s.files) }

abbrev pub no_counts : Counts
no_counts = record { faults = 0; write_faults = 0; misses = 0 }

-- the next call fails
abbrev pub fails_now : MemoryFiles → Bool
fails_now s = is_listed s.fails s.calls

-- where no call is to fail, none did
abbrev pub IsCalm : MemoryFiles → Type 0
IsCalm s = s.fails ≡ [] → (s.counts.faults ≡ 0) × (s.counts.write_faults ≡ 0)

-- ---- reading

-- what reading answers where the call doesn't fail, by the file
abbrev pub ReadsFile : Option (List ℕ) → ℕ → Result (List ℕ) ReadEnd → Type 0
ReadsFile None limit r = r ≡ Err reads.Absent
ReadsFile (Some bytes) limit r =
    MatchBool (nat_lt limit (length bytes)) (r ≡ Err reads.TooLarge) ((r ≡ Ok bytes) ⊎ (r ≡ Err reads.Memory))

abbrev pub read_counts : Result (List ℕ) ReadEnd → Counts → Counts
read_counts (Ok bytes) c = c
read_counts (Err reads.Absent) c = record c { misses = one_more c.misses }
read_counts (Err reads.TooLarge) c = record c { misses = one_more c.misses }
read_counts (Err reads.Failed) c = record c { faults = one_more c.faults }
read_counts (Err reads.Memory) c = c

pub record ReadsInMemory (old : MemoryFiles) (name : List ℕ) (limit : ℕ) (r : Result (List ℕ) ReadEnd) (new : MemoryFiles) : Type 0 where
  pub failing : fails_now old ≡ true → r ≡ Err reads.Failed
  pub working : fails_now old ≡ false → ReadsFile (files_of old.files name) limit r
  pub after : new ≡ record old { calls = one_more old.calls; counts = read_counts r old.counts }

-- ---- writing

abbrev pub written_files : ShelfFile → Result Unit ShelfEnd → List ShelfFile → List ShelfFile
written_files file (Ok u) files = file ∷ files
written_files file (Err end) files = files

abbrev pub write_counts : Result Unit ShelfEnd → Counts → Counts
write_counts (Ok u) c = c
write_counts (Err ends.WriteFailed) c = record c { write_faults = one_more c.write_faults }
write_counts (Err ends.Memory) c = c

pub record WritesInMemory (old : MemoryFiles) (file : ShelfFile) (r : Result Unit ShelfEnd) (new : MemoryFiles) : Type 0 where
  pub failing : fails_now old ≡ true → r ≡ Err ends.WriteFailed
  pub working : fails_now old ≡ false → r ≢ Err ends.WriteFailed
  pub after : new ≡ record { files = written_files file r old.files; fails = old.fails; calls = one_more old.calls; counts = write_counts r old.counts }
