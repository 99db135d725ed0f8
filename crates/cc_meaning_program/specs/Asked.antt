-- The main class that is asked for, as a name.
use Rattle.std.specs.Prelude.{ℕ, List, Option, option_map}
use Rattle.std.specs.List.{flat_map}
use Rattle.std.specs.Char.Escape.{encode_utf16}
use Rattle.std.specs.Str.{chars}

-- a text as units of UTF-16
abbrev pub units_of : List ℕ → List ℕ
units_of text = flat_map encode_utf16 (chars text)

abbrev pub asked_class : Option (List ℕ) → Option (List ℕ)
asked_class main = option_map units_of main
