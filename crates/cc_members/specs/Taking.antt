-- Bodies by the numbers of definitions and the places of methods in them.
use Rattle.std.specs.Prelude.{◌≡◌, ◌⊎◌, ◌≢◌, ℕ, List, slice_get, Option, Some, option_and_then}
use Rattle.cc_meaning.specs.declared.program.Placed.{Placed}

-- a method's body
abbrev pub BodyAt : List (List (Option (List Placed))) → ℕ → ℕ → Option (List Placed) → Type 0
BodyAt bodies definition place body = option_and_then (λ (of_class : List (Option (List Placed))). slice_get of_class place) (slice_get bodies definition) ≡ Some body

-- the bodies of all other methods are as they were
abbrev pub TakesBody : ℕ → ℕ → List (List (Option (List Placed))) → List (List (Option (List Placed))) → Type 0
TakesBody definition place before after =
    (number at : ℕ) (body : Option (List Placed)) → (number ≢ definition) ⊎ (at ≢ place) → BodyAt before number at body → BodyAt after number at body
