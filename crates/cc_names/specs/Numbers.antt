-- Names by their numbers.
use Rattle.std.specs.Prelude.{◌≡◌, ℕ, List, map, slice_get, Some}

-- the numbers, among these names, of all that are given, in their order
abbrev pub AreNumbers : List (List ℕ) → List (List ℕ) → List ℕ → Type 0
AreNumbers names given numbers = map (slice_get names) numbers ≡ map Some given
