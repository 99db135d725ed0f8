-- Names as they are shown in a line.
use Rattle.std.specs.Prelude.{ℕ, ◌/◌, ◌%◌, false, ◌&&◌, nat_le, if◌then◌else◌, List, [], ◌∷◌, map, chars}
use Rattle.std.specs.List.{flat_map}
use Rattle.std.specs.Char.Escape.{encode_utf16}
use Rattle.std.specs.Fmt.{digit_glyph}

-- four hexadecimal digits in lower case
abbrev pub hex_of : ℕ → List ℕ
hex_of u = map (digit_glyph false) (u / 4096 ∷ u / 256 % 16 ∷ u / 16 % 16 ∷ u % 16 ∷ [])

-- a unit of UTF-16: the printable ones of ASCII but the blank as they are, any other as `\u` and its digits
abbrev pub shown_unit : ℕ → List ℕ
shown_unit u = if nat_le 33 u && nat_le u 126 then u ∷ [] else 92 ∷ 117 ∷ hex_of u

abbrev pub shown_units : List ℕ → List ℕ
shown_units units = flat_map shown_unit units

-- the name in a text of UTF-8, unit by unit of UTF-16
abbrev pub shown_text : List ℕ → List ℕ
shown_text bytes = flat_map (λ c. shown_units (encode_utf16 c)) (chars bytes)
