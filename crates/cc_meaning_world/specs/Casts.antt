-- The test of casts, of stores into arrays, of handlers and of interfaces that calls name.
use Rattle.std.specs.Prelude.{ℕ, zero, suc, Bool, true, false, cond, not, ◌==◌, ◌||◌, ◌&&◌, List, [], length, Option, Some, None, slice_get}
use Rattle.std.specs.List.{list_any}
use Rattle.cc_meaning.specs.declared.program.Base.{Base}
use Rattle.cc_meaning.specs.declared.program.Base.TheVariants as base
use Rattle.cc_meaning.specs.declared.program.Class.{Class}
use Rattle.cc_meaning.specs.declared.program.ClassKind.{ClassKind}
use Rattle.cc_meaning.specs.declared.program.ClassKind.TheVariants as origin
use Rattle.cc_meaning.specs.declared.program.DexType.{DexType}
use Rattle.cc_meaning.specs.declared.program.Program.{Program}
use Rattle.cc_meaning_typing.specs.Hierarchy.{on_value, superclass_of, object_class}
use Rattle.cc_meaning_typing.specs.Types.{is_same_base}
use Rattle.cc_meaning_typing.specs.WellTyped.{is_file_interface}
use Rattle.cc_meaning_world.specs.Layouts.{is_below}

unfoldable pub is_open_kind : ClassKind → Bool
is_open_kind origin.Outside = true
is_open_kind _ = false

unfoldable pub is_open_in : Option Class → Bool
is_open_in None = false
is_open_in (Some class) = is_open_kind class.kind

-- whether a class is outside and no exception, so that nothing is known of what it has
unfoldable pub is_open : Program → ℕ → Bool
is_open p class = is_open_in (slice_get p.classes class)

-- whether interfaces count where a class is tested for: it is an interface of the file, or such an outside class
unfoldable pub counts_interfaces : Program → ℕ → Bool
counts_interfaces p class = is_open p class || is_file_interface (slice_get p.classes class)

-- ---- interfaces

unfoldable pub interfaces_in : Option Class → List ℕ
interfaces_in None = []
interfaces_in (Some class) = class.interfaces

unfoldable pub interfaces_of : Program → ℕ → List ℕ
interfaces_of p class = interfaces_in (slice_get p.classes class)

-- an interface is another one, or lists one that is, or whose own list leads there, within so many steps
unfoldable pub extends : Program → ℕ → ℕ → ℕ → Bool
extends p zero interface above = interface == above
extends p (suc n) interface above = (interface == above) || list_any (λ i. extends p n i above) (interfaces_of p interface)

unfoldable pub lists : Program → ℕ → ℕ → Bool
lists p class above = list_any (λ i. extends p (length p.classes) i above) (interfaces_of p class)

-- A class lists an interface, or one above it does, within so many steps. The superclass of an interface of the file isn't climbed.
unfoldable pub implements : Program → ℕ → ℕ → ℕ → Bool
implements p zero class above = lists p class above
implements p (suc n) class above =
    lists p class above || (not (is_file_interface (slice_get p.classes class)) && on_value (superclass_of p class) false (λ next. implements p n next above))

-- ---- the test

-- Whether a class passes the test against another: it is that one, or has it among its superclasses or, where interfaces count, among its interfaces.
-- `cast` says whether every reference passes an outside class that is no exception, as for check-cast and stores, or not, as for the rest.
unfoldable pub meets_class : Program → (cast : Bool) → Base → ℕ → Bool
meets_class p cast (base.Class class) above =
    (above == object_class p) || ((cast && is_open p above) || (is_below p class above || (counts_interfaces p above && implements p (length p.classes) class above)))
meets_class p cast _ above = false

-- Arrays of references follow their element types, and an array is an Object. An element that is a number passes no class.
unfoldable pub passes_in : Program → (cast : Bool) → ℕ → Base → ℕ → Base → Bool
passes_in p cast zero a zero (base.Class above) = meets_class p cast a above
passes_in p cast zero a zero b = is_same_base a b
passes_in p cast zero a (suc dims) b = false
passes_in p cast (suc dims) a zero (base.Class above) = (above == object_class p) || (cast && is_open p above)
passes_in p cast (suc dims) a zero _ = false
passes_in p cast (suc n) a (suc m) b = passes_in p cast n a m b

-- whether a type passes the test against another
unfoldable pub passes : Program → (cast : Bool) → DexType → DexType → Bool
passes p cast a b = passes_in p cast a.dims a.base b.dims b.base
