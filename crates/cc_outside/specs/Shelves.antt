-- What a shelf says of its calls.
use Rattle.std.specs.Prelude.{◌≡◌, ℕ, ◌<◌, ◌≤◌, List, ◌++◌, length, Option, Some, None, Result, Ok, Err, if◌then◌else◌, IfSome, IsSomeAnd, ◌⊎◌}
use Rattle.std.specs.Option.{option_map}
use Rattle.std.specs.Str.{bytes_eq}
use Rattle.cc_outside.specs.Counting.{Rose}
use Rattle.cc_outside.specs.declared.shelf.ReadEnd.{ReadEnd}
use Rattle.cc_outside.specs.declared.shelf.ReadEnd.TheVariants as reads
use Rattle.cc_outside.specs.declared.shelf.ShelfEnd.{ShelfEnd}
use Rattle.cc_outside.specs.declared.shelf.ShelfEnd.TheVariants as ends

-- the bytes of each file, by its name
abbrev pub Files : Type 0
Files = List ℕ → Option (List ℕ)

-- what is known of a shelf: its files, where these are told
pub record Known : Type 0 where
  pub files : Option Files

-- how often reading failed, how often writing failed, and how often a file was absent or too large
pub record Counts : Type 0 where
  pub faults : ℕ
  pub write_faults : ℕ
  pub misses : ℕ

pub record NeverFall (old new : Counts) : Type 0 where
  pub faults : old.faults ≤ new.faults
  pub write_faults : old.write_faults ≤ new.write_faults
  pub misses : old.misses ≤ new.misses

-- one file holds these bytes, and all others are as before
abbrev pub put : List ℕ → List ℕ → Files → Files
put name bytes files = λ other. if bytes_eq name other then Some bytes else files other

-- the same of what is known; where files aren't told, they aren't told afterwards
abbrev pub known_put : List ℕ → List ℕ → Known → Known
known_put name bytes k = record k { files = option_map (put name bytes) k.files }

-- ---- what is told of one file

-- where files are told, this holds of the file of this name
abbrev pub Tells : Known → List ℕ → (Option (List ℕ) → Type 0) → Type 0
Tells k name P = IfSome k.files (λ files. P (files name))

-- where files are told, there is none of this name
abbrev pub IsAbsent : Known → List ℕ → Type 0
IsAbsent k name = Tells k name (λ file. file ≡ None)

-- where files are told, there is one of this name, and it is longer than the limit
abbrev pub IsLonger : Known → List ℕ → ℕ → Type 0
IsLonger k name limit = Tells k name (λ file. IsSomeAnd file (λ bytes. limit < length bytes))

-- where files are told, the one of this name holds these bytes
abbrev pub IsFile : Known → List ℕ → List ℕ → Type 0
IsFile k name bytes = Tells k name (λ file. file ≡ Some bytes)

-- ---- one call

-- what reading a file of at most `limit` bytes answers. All files stay as they are, which is a clause of its own
abbrev pub Reads : Known → Counts → List ℕ → ℕ → Result (List ℕ) ReadEnd → Counts → Type 0
Reads k old name limit (Ok bytes) new = IsFile k name bytes × (length bytes ≤ limit)
Reads k old name limit (Err reads.Absent) new = IsAbsent k name × Rose old.misses new.misses
Reads k old name limit (Err reads.TooLarge) new = IsLonger k name limit × Rose old.misses new.misses
Reads k old name limit (Err reads.Failed) new = Rose old.faults new.faults
Reads k old name limit (Err reads.Memory) new = Unit {0}

-- the file is as before or holds a prefix of the bytes, and all others are as before
abbrev pub WritesFront : Known → List ℕ → List ℕ → Known → Type 0
WritesFront k name bytes k' =
    (k' ≡ k) ⊎ ((front : List ℕ) × (rest : List ℕ) × (front ++ rest ≡ bytes) × (k' ≡ known_put name front k))

-- what making these the bytes of a file answers
abbrev pub Writes : Known → Counts → List ℕ → List ℕ → Result Unit ShelfEnd → Known → Counts → Type 0
Writes k old name bytes (Ok u) k' new = k' ≡ known_put name bytes k
Writes k old name bytes (Err ends.WriteFailed) k' new = WritesFront k name bytes k' × Rose old.write_faults new.write_faults
Writes k old name bytes (Err ends.Memory) k' new = k' ≡ k
