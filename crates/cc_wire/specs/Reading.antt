-- What a reader's step gives, by what the bytes say.
use Rattle.std.specs.Prelude.{◌≡◌, ◌≢◌, ℕ, ℤ, List, [], ◌∷◌, Result, Ok, Err}
use Rattle.cc_meaning.specs.declared.value.Value.{Value}
use Rattle.cc_meaning.specs.declared.value.Value.TheVariants as value
use Rattle.cc_meaning.specs.declared.fault.ImageFault.{ImageFault}
use Rattle.cc_meaning.specs.declared.fault.ImageFault.TheVariants.{Memory}
use Rattle.cc_meaning_images.specs.Reading.{Got, got, wrong}

-- what was read, where the reader stands behind it; or the fault, but where memory is wanting
abbrev pub Reads : {A : Type 0} → Got A → Result A ImageFault → ℕ → List ℕ → Type 0
Reads x (Ok a) at rest = x ≡ got a at rest
Reads x (Err fault) at rest = fault ≢ Memory → x ≡ wrong fault

-- the whole answer, but where memory is wanting
abbrev pub Answers : {A : Type 0} → Result A ImageFault → Result A ImageFault → Type 0
Answers x (Ok a) = x ≡ Ok a
Answers x (Err fault) = fault ≢ Memory → x ≡ Err fault

-- the same of one status, of one number, and of nothing
abbrev pub ReadsStatus : Got (List ℕ) → Result ℕ ImageFault → ℕ → List ℕ → Type 0
ReadsStatus x (Ok s) at rest = x ≡ got (s ∷ []) at rest
ReadsStatus x (Err fault) at rest = fault ≢ Memory → x ≡ wrong fault

abbrev pub ReadsNumber : Got (List Value) → Result ℤ ImageFault → ℕ → List ℕ → Type 0
ReadsNumber x (Ok n) at rest = x ≡ got (value.Int n ∷ []) at rest
ReadsNumber x (Err fault) at rest = fault ≢ Memory → x ≡ wrong fault

abbrev pub ReadsNothing : Got (Unit {0}) → Result (Unit {0}) ImageFault → ℕ → List ℕ → Type 0
ReadsNothing x (Ok u) at rest = x ≡ got tt at rest
ReadsNothing x (Err fault) at rest = fault ≢ Memory → x ≡ wrong fault
