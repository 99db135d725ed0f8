-- How values are printed, as units of UTF-16.
use Rattle.std.specs.Prelude.{ℕ, ℤ, pos, ◌%◌, List, codes, if◌then◌else◌}
use Rattle.std.specs.Int.{cast_unsigned, w32}
use Rattle.std.specs.Ordering.{int_eq}

-- the low 16 bits of a number, as a unit
abbrev pub unit_of : ℤ → ℕ
unit_of n = cast_unsigned w32 n % 65536

-- 0 alone is false
abbrev pub truth_units : ℤ → List ℕ
truth_units n = if int_eq n (pos 0) then codes "false" else codes "true"

-- what stands where a text is null
abbrev pub null_units : List ℕ
null_units = codes "null"
