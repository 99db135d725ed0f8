-- Members with their rows, before they are in order, and what the code of methods passes.
use Rattle.std.specs.Prelude.{◌≡◌, ℕ, ◌+◌, ◌==◌, ◌^◌, Bool, if◌then◌else◌, List, [], ◌∷◌, map, is_some, IsPermutation, AllPairs}
use Rattle.cc_meaning.specs.declared.file.Ids.{Ids}
use Rattle.cc_meaning_dex.specs.Classes.{EachPair}
use Rattle.cc_meaning_builder.specs.declared.content.ListedField.{ListedField}
use Rattle.cc_meaning_builder.specs.declared.content.ListedMethod.{ListedMethod}
use Rattle.cc_meaning_builder.specs.Members.{FieldBefore, FieldBegins, IsRawField, IsRawMethod, MethodBefore, outs_of}
use Rattle.cc_builder.specs.declared.fields.PlacedField.{PlacedField}
use Rattle.cc_builder.specs.declared.methods.PlacedMethod.{PlacedMethod}

-- the place of a member of a class: by its row, and behind all rows where it isn't in the first of the two lists
abbrev pub list_place : Bool → ℕ → ℕ
list_place is_first row = if is_first then row else row + 2 ^ 32

-- a field with its row, and what it begins with
pub record IsPlacedField (ids : Ids) (class : List ℕ) (listed : ListedField) (placed : PlacedField) : Type 0 where
  pub raw : IsRawField ids class listed placed.raw
  pub begins : FieldBegins ids listed placed.value
  pub said : placed.is_said ≡ is_some listed.value

-- a method with its row, and what its code passes
pub record IsPlacedMethod (ids : Ids) (class : List ℕ) (listed : ListedMethod) (placed : PlacedMethod) : Type 0 where
  pub raw : IsRawMethod ids class listed placed.raw
  pub outs : placed.outs ≡ outs_of listed

-- the fields of a class with their rows, in the order of a file
pub record AreSortedFields (ids : Ids) (class : List ℕ) (fields : List ListedField) (placed : List PlacedField) : Type 0 where
  pub listed : List ListedField
  pub all : IsPermutation fields listed
  pub each : EachPair (IsPlacedField ids class) listed placed
  pub rise : AllPairs FieldBefore (map (λ field. field.raw) placed)

-- the methods of a class with their rows, in the order of a file
pub record AreSortedMethods (ids : Ids) (class : List ℕ) (methods : List ListedMethod) (placed : List PlacedMethod) : Type 0 where
  pub listed : List ListedMethod
  pub all : IsPermutation methods listed
  pub each : EachPair (IsPlacedMethod ids class) listed placed
  pub rise : AllPairs MethodBefore (map (λ method. method.raw) placed)

-- how many of the fields there are up to the last whose value is said
unfoldable pub said_count : List PlacedField → ℕ
said_count [] = 0
said_count (field ∷ fields) = if field.is_said then said_count fields + 1 else if said_count fields == 0 then 0 else said_count fields + 1
