-- Bytes that are told or not: an object that can't be looked into tells nothing.
use Rattle.std.specs.Prelude.{ℕ, List, ◌++◌, Option}
use Rattle.std.specs.Option.{option_map}

-- what is told of a text to which these bytes are added; where nothing is told, nothing is told afterwards
abbrev pub more : List ℕ → Option (List ℕ) → Option (List ℕ)
more bytes text = option_map (λ before. before ++ bytes) text
