-- The place of a name among names.
use Rattle.std.specs.Prelude.{ℕ, List, Option, position}
use Rattle.std.specs.Str.{bytes_eq}

abbrev pub name_place : List (List ℕ) → List ℕ → Option ℕ
name_place names name = position (λ other. bytes_eq other name) names
