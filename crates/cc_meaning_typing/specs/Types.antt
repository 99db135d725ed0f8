-- How types are held in registers, which of them is below another, and the least that two are below.
use Rattle.std.specs.Prelude.{◌≡◌, ℕ, zero, suc, ◌+◌, Bool, true, false, cond, ◌==◌, ◌&&◌, length, Option, Some, None, slice_get}
use Rattle.cc_meaning.specs.declared.program.Base.{Base}
use Rattle.cc_meaning.specs.declared.program.Base.TheVariants as base
use Rattle.cc_meaning.specs.declared.program.Class.{Class}
use Rattle.cc_meaning.specs.declared.program.ClassKind.{ClassKind}
use Rattle.cc_meaning.specs.declared.program.ClassKind.TheVariants as origin
use Rattle.cc_meaning.specs.declared.program.DexType.{DexType}
use Rattle.cc_meaning.specs.declared.program.Program.{Program}
use Rattle.cc_meaning_typing.specs.Hierarchy.{on_value, superclass_of, object_class, Inherits, has_ancestor}

-- ---- types

abbrev pub typed : ℕ → Base → DexType
typed dims base = record { dims = dims; base = base }

abbrev pub class_type : ℕ → DexType
class_type class = typed 0 (base.Class class)

abbrev pub object_type : Program → DexType
object_type program = class_type (object_class program)

-- the type of arrays whose elements are of a type
abbrev pub array_of : DexType → DexType
array_of type = typed (suc type.dims) type.base

unfoldable pub is_class : Base → Bool
is_class (base.Class class) = true
is_class _ = false

unfoldable pub is_reference_in : ℕ → Base → Bool
is_reference_in zero base = is_class base
is_reference_in (suc dims) base = true

-- whether a type is one of references: that of a class, or of arrays
unfoldable pub is_reference : DexType → Bool
is_reference type = is_reference_in type.dims type.base

-- ---- held types

-- Every reference fits an interface of the file, and an outside type that stands directly below Object. An outside exception stands below Exception or Error,
-- and only what is below it fits it.
unfoldable pub is_loose_kind : ClassKind → Bool → Bool
is_loose_kind origin.File is_interface = is_interface
is_loose_kind origin.BuiltIn is_interface = false
is_loose_kind origin.Outside is_interface = true
is_loose_kind origin.OutsideError is_interface = false
is_loose_kind origin.Array is_interface = false

unfoldable pub is_loose_in : Option Class → Bool
is_loose_in None = false
is_loose_in (Some class) = is_loose_kind class.kind class.is_interface

-- whether the class of a number is an interface of the file, or outside and no exception
unfoldable pub is_loose : Program → ℕ → Bool
is_loose program class = is_loose_in (slice_get program.classes class)

unfoldable pub held_base : Program → Base → Base
held_base program (base.Class class) = base.Class (cond (is_loose program class) (object_class program) class)
held_base program base = base

-- the type that a register holds for a declared type: Object for a loose one, and so in arrays
unfoldable pub held : Program → DexType → DexType
held program type = typed type.dims (held_base program type.base)

-- whether an object of the first class fits the second as a declared one: the second is loose, or the first is below it
unfoldable pub fits_class : Program → (object declared : ℕ) → Bool
fits_class program object declared = cond (is_loose program declared) true (has_ancestor program object declared)

-- ---- below

-- A type is below itself and Object, a class below those of its superclasses that registers hold, and an array of references below another where its
-- elements' type is below the other's.
pub data IsBelow (program : Program) : DexType → DexType → Type 0 where
  same : {type : DexType} → IsBelow program type type
  object : {type above : DexType} → above ≡ object_type program → IsBelow program type above
  classes : {class above : ℕ} → Inherits program class above → is_loose program above ≡ false → IsBelow program (class_type class) (class_type above)
  elements : {type above : DexType} → is_reference type ≡ true → is_reference above ≡ true → IsBelow program type above → IsBelow program (array_of type) (array_of above)

-- ---- the least type above two

-- the first from a class up, within so many steps, that registers hold, else Object
unfoldable pub first_held : Program → ℕ → ℕ → ℕ
first_held program zero class = object_class program
first_held program (suc n) class = cond (is_loose program class) (on_value (superclass_of program class) (object_class program) (λ above. first_held program n above)) class

-- the first of the superclasses that registers hold, else Object
unfoldable pub class_above : Program → ℕ → ℕ
class_above program class = on_value (superclass_of program class) (object_class program) (λ above. first_held program (length program.classes) above)

unfoldable pub fewer : ℕ → ℕ
fewer zero = zero
fewer (suc dims) = dims

unfoldable pub above_objects : Program → ℕ → Option DexType
above_objects program zero = None
above_objects program (suc dims) = Some (typed dims (base.Class (object_class program)))

unfoldable pub next_in : Program → ℕ → Base → Option DexType
next_in program dims (base.Class class) = cond (class == object_class program) (above_objects program dims) (Some (typed dims (base.Class (class_above program class))))
next_in program dims _ = Some (typed (fewer dims) (base.Class (object_class program)))

-- The type next above a type, which Object alone hasn't got. That of `[Lc;` is the array of what is next above c, that of `[Object` is Object, and that of `[[I` is
-- `[Object`.
unfoldable pub next_above : Program → DexType → Option DexType
next_above program type = next_in program type.dims type.base

unfoldable pub is_same_base : Base → Base → Bool
is_same_base base.Boolean base.Boolean = true
is_same_base base.Byte base.Byte = true
is_same_base base.Short base.Short = true
is_same_base base.Char base.Char = true
is_same_base base.Int base.Int = true
is_same_base base.Long base.Long = true
is_same_base (base.Class a) (base.Class b) = a == b
is_same_base _ _ = false

unfoldable pub is_same_type : DexType → DexType → Bool
is_same_type a b = (a.dims == b.dims) && is_same_base a.base b.base

-- whether the first type rises to the second in so many steps
unfoldable pub rises_to : Program → ℕ → DexType → DexType → Bool
rises_to program zero a b = is_same_type a b
rises_to program (suc n) a b = cond (is_same_type a b) true (on_value (next_above program a) false (λ above. rises_to program n above b))

-- no type has more types above it
unfoldable pub reach : Program → DexType → ℕ
reach program type = suc (type.dims + length program.classes)

-- the first of the types from a up, within so many steps, that b rises to
unfoldable pub first_shared : Program → ℕ → DexType → DexType → DexType
first_shared program zero a b = a
first_shared program (suc n) a b = cond (rises_to program (reach program b) b a) a (on_value (next_above program a) a (λ above. first_shared program n above b))

-- the least type that both are below
unfoldable pub least_above : Program → DexType → DexType → DexType
least_above program a b = first_shared program (reach program a) a b
