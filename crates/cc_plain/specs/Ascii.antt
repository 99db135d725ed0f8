-- Names that programs write in their code.
use Rattle.std.specs.Prelude.{ℕ, Bool, ◌&&◌, nat_lt, List, IsTrue}
use Rattle.std.specs.List.{list_all}

-- a unit between 1 and 127, whose form is the byte itself
abbrev pub is_ascii_unit : ℕ → Bool
is_ascii_unit u = nat_lt 0 u && nat_lt u 128

-- a name of such units
abbrev pub IsAsciiName : List ℕ → Type 0
IsAsciiName name = IsTrue (list_all is_ascii_unit name)
