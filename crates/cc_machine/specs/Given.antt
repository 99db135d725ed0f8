-- What a function of a plain file gives within so many instructions.
use Rattle.std.specs.Prelude.{◌≡◌, ℕ, ℤ, List, Option, Some, None, MatchOption, slice_get}
use Rattle.cc_meaning_run.specs.Acts.{less_by}
use Rattle.cc_meaning_plain.specs.declared.plain.PlainCode.{PlainCode}
use Rattle.cc_meaning_plain.specs.declared.plain.PlainFunction.{PlainFunction}
use Rattle.cc_meaning_plain.specs.Text.{value_of, instructions_of, value_by, instructions_by}

-- nothing exactly where the instructions are too few, and else its value and how many are left
abbrev pub Gives : PlainCode → ℤ → ℕ → Option (ℤ × ℕ) → Type 0
Gives code argument instructions given = MatchOption given
    (less_by (instructions_of code) instructions ≡ None)
    (λ (g : ℤ × ℕ). (g.0 ≡ value_of code argument) × (less_by (instructions_of code) instructions ≡ Some g.1))

-- the same of the function of a place
abbrev pub GivesAt : List PlainFunction → (function : ℕ) → ℤ → ℕ → Option (ℤ × ℕ) → Type 0
GivesAt functions function argument instructions given = MatchOption given
    (less_by (instructions_by (slice_get functions function)) instructions ≡ None)
    (λ (g : ℤ × ℕ). (g.0 ≡ value_by (slice_get functions function) argument) × (less_by (instructions_by (slice_get functions function)) instructions ≡ Some g.1))
