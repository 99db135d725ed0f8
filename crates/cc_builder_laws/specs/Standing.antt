-- How parts stand in a list of bytes.
use Rattle.std.specs.Prelude.{◌≡◌, ◌≢◌, ℕ, ◌+◌, ◌*◌, ◌<◌, ◌≤◌, Bool, List, [], ◌++◌, length, slice_get, Some}
use Rattle.std.specs.List.{flat_map}
use Rattle.cc_meaning_dex.specs.Numbers.{Stands, Within}
use Rattle.cc_meaning_builder.specs.Forms.{little_form, sleb_form, u16_form, uleb_form}

-- two parts that stand one behind the other stand as one
abbrev pub StandsTogether : Type 0
StandsTogether = (file : List ℕ) (at : ℕ) (front back : List ℕ) → Stands file at front → Stands file (at + length front) back → Stands file at (front ++ back)

-- with more behind
abbrev pub StandsLonger : Type 0
StandsLonger = (bytes more : List ℕ) (at : ℕ) (part : List ℕ) → Stands bytes at part → Stands (bytes ++ more) at part

-- with more in front
abbrev pub StandsFurther : Type 0
StandsFurther = (front bytes : List ℕ) (at : ℕ) (part : List ℕ) → Stands bytes at part → Stands (front ++ bytes) (length front + at) part

-- what is put behind a list stands at the list's end, whatever comes after
abbrev pub StandsBehind : Type 0
StandsBehind = (bytes part rest : List ℕ) → Stands (bytes ++ (part ++ rest)) (length bytes) part

-- what stands in a file lies in it; the empty part stands anywhere
abbrev pub StandsWithin : Type 0
StandsWithin = (file : List ℕ) (at : ℕ) (part : List ℕ) → Stands file at part → part ≢ [] → Within file at (length part)

-- of numbers of 16 bits, each stands two bytes behind the one before it
abbrev pub UnitsStand : Type 0
UnitsStand = (file : List ℕ) (at : ℕ) (units : List ℕ) → Stands file at (flat_map u16_form units) → (place unit : ℕ) → slice_get units place ≡ Some unit → Stands file (at + place * 2) (u16_form unit)

-- a number of so many bytes takes that many
abbrev pub LittleLength : Type 0
LittleLength = (size n : ℕ) → length (little_form size n) ≡ size

-- and one of 16 bits two
abbrev pub UnitsLength : Type 0
UnitsLength = (units : List ℕ) → length (flat_map u16_form units) ≡ length units * 2

-- a number in ULEB128 takes one to five bytes
abbrev pub UlebLength : Type 0
UlebLength = (n : ℕ) → (0 < length (uleb_form n)) × (length (uleb_form n) ≤ 5)

-- so does a signed one in SLEB128
abbrev pub SlebLength : Type 0
SlebLength = (negative : Bool) (size : ℕ) → (0 < length (sleb_form negative size)) × (length (sleb_form negative size) ≤ 5)
