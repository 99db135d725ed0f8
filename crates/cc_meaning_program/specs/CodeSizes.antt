-- Code whose units have addresses of 32 bits.
use Rattle.std.specs.Prelude.{◌≡◌, ℕ, ◌<◌, ◌^◌, List, length, slice_get, slice_index, Some}
use Rattle.cc_meaning.specs.declared.file.Ids.{Ids}
use Rattle.cc_meaning.specs.declared.file.RawClass.{RawClass}
use Rattle.cc_meaning.specs.declared.file.RawCode.{RawCode}
use Rattle.cc_meaning.specs.declared.file.RawMethod.{RawMethod}
use Rattle.cc_meaning_dex.specs.Classes.{SpellsClasses}

-- a method's code, if it has any, has fewer than 2 ^ 32 units
abbrev pub HasFewUnits : RawMethod → Type 0
HasFewUnits method = (code : RawCode) → method.code ≡ Some code → length code.units < 2 ^ 32

abbrev pub MethodsHaveFewUnits : List RawMethod → Type 0
MethodsHaveFewUnits methods = (number : ℕ) (method : RawMethod) → slice_get methods number ≡ Some method → HasFewUnits method

abbrev pub HaveFewUnits : List RawClass → Type 0
HaveFewUnits classes = (number : ℕ) (class : RawClass) → slice_get classes number ≡ Some class → MethodsHaveFewUnits class.methods

-- so it is in all classes that a file of bytes spells
abbrev pub SpelledCodeIsSmall : Type 0
SpelledCodeIsSmall = (file : List ℕ) (ids : Ids) (classes : List RawClass) → ((place : ℕ) → slice_index file place < 256) → SpellsClasses file ids classes → HaveFewUnits classes
