-- What of an object never changes, and the type that it has.
use Rattle.std.specs.Prelude.{ℕ, List, length, unwrap_or}
use Rattle.cc_meaning.specs.declared.program.DexType.{DexType}
use Rattle.cc_meaning.specs.declared.program.Program.{Program}
use Rattle.cc_meaning.specs.declared.value.Object.{Object}
use Rattle.cc_meaning.specs.declared.value.Object.TheVariants as object
use Rattle.cc_meaning.specs.BuiltIn.{string_builder_name, print_stream_name}
use Rattle.cc_meaning.specs.Lookup.{class_named}
use Rattle.cc_meaning_typing.specs.Types.{class_type, object_type}
use Rattle.cc_meaning_typing.specs.Code.{string_type, type_of_class}

-- An object without what can change in it: its form, its class, how many fields or elements it has, and the units of a text.
pub data Sort : Type 0 where
  Out : Sort
  Instance : (class fields : ℕ) → Sort
  Array : (class elements : ℕ) → Sort
  Text : List ℕ → Sort
  Builder : Sort
  Constant : (class : ℕ) → Sort

unfoldable pub sort_of : Object → Sort
sort_of object.Out = Out
sort_of (object.Instance class values) = Instance class (length values)
sort_of (object.Array class values) = Array class (length values)
sort_of (object.Text units) = Text units
sort_of (object.Builder units) = Builder
sort_of (object.Constant class) = Constant class

-- the number of the class of a name, which every program has
unfoldable pub number_of : Program → List ℕ → ℕ
number_of p name = unwrap_or (class_named name p) 0

-- The type of an object, by which calls, casts, stores and handlers judge it: that of its class, of `System.out` PrintStream's, and of a class constant Object's.
unfoldable pub type_of : Program → Sort → DexType
type_of p Out = class_type (number_of p print_stream_name)
type_of p (Instance class fields) = class_type class
type_of p (Array class elements) = type_of_class p class
type_of p (Text units) = string_type p
type_of p Builder = class_type (number_of p string_builder_name)
type_of p (Constant class) = object_type p
