-- What the values of an instance stand for, and what a new object holds.
use Rattle.std.specs.Prelude.{ℕ, zero, suc, ◌+◌, Bool, cond, not, ◌==◌, ◌||◌, ◌&&◌, false, List, [], ◌∷◌, ◌++◌, length, Option, Some, None, slice_get, option_map, position}
use Rattle.cc_meaning.specs.declared.program.Base.{Base}
use Rattle.cc_meaning.specs.declared.program.Base.TheVariants as base
use Rattle.cc_meaning.specs.declared.program.Class.{Class}
use Rattle.cc_meaning.specs.declared.program.DexType.{DexType}
use Rattle.cc_meaning.specs.declared.program.Field.{Field}
use Rattle.cc_meaning.specs.declared.program.Program.{Program}
use Rattle.cc_meaning.specs.declared.value.Object.{Object}
use Rattle.cc_meaning.specs.declared.value.Object.TheVariants as object
use Rattle.cc_meaning.specs.declared.value.Value.{Value}
use Rattle.cc_meaning.specs.BuiltIn.{string_builder_name, throwable_name}
use Rattle.cc_meaning.specs.Kinds.{kind_of, zero_of}
use Rattle.cc_meaning_typing.specs.Hierarchy.{on_value, superclass_of}
use Rattle.cc_meaning_typing.specs.Code.{string_type}
use Rattle.cc_meaning_typing.specs.WellTyped.{is_file_interface}
use Rattle.cc_meaning_world.specs.Sorts.{number_of}

-- A class is another one, or has it above by superclasses, within so many steps. The superclass of an interface of the file isn't climbed.
unfoldable pub climbs : Program → ℕ → ℕ → ℕ → Bool
climbs p zero class above = class == above
climbs p (suc n) class above =
    (class == above) || (not (is_file_interface (slice_get p.classes class)) && on_value (superclass_of p class) false (λ next. climbs p n next above))

-- the first class is the second, or has it among its superclasses
unfoldable pub is_below : Program → ℕ → ℕ → Bool
is_below p class above = climbs p (length p.classes) class above

-- ---- the values of an instance

unfoldable pub type_in : Option Field → List DexType
type_in None = []
type_in (Some f) = f.ty ∷ []

unfoldable pub types_of_fields : Program → List ℕ → List DexType
types_of_fields p [] = []
types_of_fields p (f ∷ fs) = type_in (slice_get p.fields f) ++ types_of_fields p fs

unfoldable pub layout_in : Option Class → List ℕ
layout_in None = []
layout_in (Some class) = class.layout

unfoldable pub layout_of : Program → ℕ → List ℕ
layout_of p class = layout_in (slice_get p.classes class)

-- an instance of a throwable has its message first
unfoldable pub message_types : Program → ℕ → List DexType
message_types p class = cond (is_below p class (number_of p throwable_name)) (string_type p ∷ []) []

-- the declared types of the values of an instance, in order: a throwable's message, then the fields of the layout
unfoldable pub shape : Program → ℕ → List DexType
shape p class = message_types p class ++ types_of_fields p (layout_of p class)

-- the place of a field among the values of an instance of a class
unfoldable pub slot : Program → ℕ → ℕ → Option ℕ
slot p class field = option_map (λ i. length (message_types p class) + i) (position (λ f. f == field) (layout_of p class))

unfoldable pub slot_in : Program → Base → ℕ → Option ℕ
slot_in p (base.Class class) field = slot p class field
slot_in p _ field = None

-- ---- new objects

-- each value is zero or null
unfoldable pub zeros : List DexType → List Value
zeros [] = []
zeros (t ∷ ts) = zero_of (kind_of t) ∷ zeros ts

-- a new object of a class, before its constructor: an empty builder, or an instance whose values are zero or null
unfoldable pub new_object : Program → ℕ → Object
new_object p class = cond (class == number_of p string_builder_name) (object.Builder []) (object.Instance class (zeros (shape p class)))
