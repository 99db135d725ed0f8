-- The data section in the making, and what is told of each file that has it.
use Rattle.std.specs.Prelude.{◌≡◌, ◌≢◌, ℕ, ◌+◌, List, ◌++◌, length}
use Rattle.cc_meaning_dex.specs.Numbers.{Stands}
use Rattle.cc_dex_writer.specs.declared.section.Section.{Section}

-- a file that has these bytes at their offset, which isn't 0
pub record HasSection (section : Section) (file : List ℕ) : Type 0 where
  pub behind : section.base ≢ 0
  pub stands : Stands file section.base section.bytes

-- a file that has the new section has the old one
pub record Grows (old new : Section) : Type 0 where
  pub base : new.base ≡ old.base
  pub keeps : (file : List ℕ) → HasSection new file → HasSection old file

-- the section grows, and this is told of each file that has the new one
pub record Adds (old new : Section) (told : List ℕ → Type 0) : Type 0 where
  pub grown : Grows old new
  pub tells : (file : List ℕ) → HasSection new file → told file

-- a part stands at an offset, which isn't 0
abbrev pub IsItem : List ℕ → ℕ → List ℕ → Type 0
IsItem file at part = (at ≢ 0) × Stands file at part

-- bytes behind those that are there
abbrev pub IsPut : Section → Section → List ℕ → Type 0
IsPut old new part = new ≡ record { base = old.base; bytes = old.bytes ++ part }

-- where they stand
abbrev pub end_of : Section → ℕ
end_of section = section.base + length section.bytes

-- what is put behind the section stands at its end
abbrev pub PutStands : Type 0
PutStands = (old new : Section) (part : List ℕ) → IsPut old new part → Adds old new (λ file. IsItem file (end_of old) part)
