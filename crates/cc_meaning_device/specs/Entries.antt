-- The image of the entry of a function that a plain file's `main` calls.
use Rattle.std.specs.Prelude.{◌≡◌, ℕ, ◌<◌, ◌≤◌, ◌^◌, ℤ, List, length, Some, slice_get}
use Rattle.std.specs.Int.{w32}
use Rattle.std.specs.Int.RustNames.{FitsSigned}
use Rattle.cc_meaning_images.specs.Spelling.{spelled_run}
use Rattle.cc_meaning_images.specs.Forms.{IsRunOf}
use Rattle.cc_meaning_plain.specs.declared.plain.PlainFunction.{PlainFunction}
use Rattle.cc_meaning_plain.specs.declared.plain.Plain.{Plain}
use Rattle.cc_meaning_plain.specs.Laws.{AreBytes}
use Rattle.cc_meaning_plain.specs.Plain.{IsPlain}
use Rattle.cc_meaning_plain.specs.Program.{program_of}
use Rattle.cc_meaning_device.specs.Straight.{entry_image}

-- it is one of a Run, as long as the counters are in their ranges
abbrev pub EntryIsRun : Type 0
EntryIsRun = (file : List ℕ) (plain : Plain) (i : ℕ) (f : PlainFunction) (n : ℤ) (instructions words : ℕ) → AreBytes file → IsPlain file plain →
    slice_get plain.functions i ≡ Some f → FitsSigned w32 n → instructions ≤ 4294967296 → words ≤ 4194304 →
    IsRunOf (program_of plain) (entry_image plain i n instructions words)

-- it has 36 bytes
abbrev pub EntryIsShort : Type 0
EntryIsShort = (plain : Plain) (i : ℕ) (n : ℤ) (instructions words : ℕ) → length (spelled_run (entry_image plain i n instructions words)) ≡ 36

-- a plain file has no more functions than a place of 31 bits can name
abbrev pub FunctionsAreFew : Type 0
FunctionsAreFew = (file : List ℕ) (plain : Plain) → IsPlain file plain → length plain.functions < 2 ^ 31
