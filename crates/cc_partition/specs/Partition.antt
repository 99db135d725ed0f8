-- What the text of a partition says of a plain file: nothing is moved, or one of its functions.
use Rattle.std.specs.Prelude.{◌≡◌, ◌≢◌, ℕ, ◌≤◌, List, ◌++◌, Option, Some, None, Result, Ok, Err, All, chars, codes, slice_get}
use Rattle.std.specs.List.{flat_map}
use Rattle.std.specs.Str.{IsUtf8}
use Rattle.std.specs.Char.Escape.{encode_utf16}
use Rattle.cc_meaning_plain.specs.declared.plain.PlainFunction.{PlainFunction}
use Rattle.cc_meaning_plain.specs.declared.plain.Plain.{Plain}
use Rattle.cc_partition.specs.declared.partition.PartitionEnd.{PartitionEnd}
use Rattle.cc_partition.specs.declared.partition.PartitionEnd.TheVariants as ends

-- ---- the name of a function

-- the units of UTF-16 that a text in UTF-8 spells
abbrev pub units_of : List ℕ → List ℕ
units_of text = flat_map encode_utf16 (chars text)

-- the descriptor of its class, an arrow, and its name with its types, as `LA;->f(I)I`
abbrev pub method_name : Plain → PlainFunction → List ℕ
method_name plain function = plain.class ++ (codes "->" ++ function.name)

-- a byte that stands in a quoted text as it is: no control character, quotation mark or backslash
abbrev pub IsUnescaped : ℕ → Type 0
IsUnescaped b = (32 ≤ b) × (b ≢ 34) × (b ≢ 92)

-- A text in UTF-8 that spells this name and can stand between quotation marks as it is. A name with half a pair of units has none.
pub record SpellsName (text name : List ℕ) : Type 0 where
  pub utf8 : IsUtf8 text
  pub spelled : units_of text ≡ name
  pub unescaped : All IsUnescaped text

-- the place of the function of which a text spells the name, or that there is none
abbrev pub IsNamed : Plain → (text : List ℕ) → Option ℕ → Type 0
IsNamed plain text None = (i : ℕ) (function : PlainFunction) → slice_get plain.functions i ≡ Some function → units_of text ≡ method_name plain function → ⊥
IsNamed plain text (Some i) = (function : PlainFunction) × (slice_get plain.functions i ≡ Some function) × (units_of text ≡ method_name plain function)

-- ---- the two forms

abbrev pub nothing_moved : List ℕ
nothing_moved = codes "{\"moved\":[]}"

abbrev pub opening : List ℕ
opening = codes "{\"moved\":[\""

abbrev pub closing : List ℕ
closing = codes "\"]}"

-- the text moves no function, or the one of this place, which it names
pub data IsPartition (plain : Plain) (text : List ℕ) : Option ℕ → Type 0 where
  moves_none : text ≡ nothing_moved → IsPartition plain text None
  moves_one : (i : ℕ) (function : PlainFunction) (name : List ℕ) → slice_get plain.functions i ≡ Some function → SpellsName name (method_name plain function) →
      text ≡ opening ++ (name ++ closing) → IsPartition plain text (Some i)

-- ---- reading one

-- what is read is what the text says; it is of another form exactly where it says nothing of this file
abbrev pub ReadsPartition : Plain → List ℕ → Result (Option ℕ) PartitionEnd → Type 0
ReadsPartition plain text (Ok moved) = IsPartition plain text moved
ReadsPartition plain text (Err ends.OtherForm) = (moved : Option ℕ) → IsPartition plain text moved → ⊥
ReadsPartition plain text (Err ends.Memory) = Unit {0}
