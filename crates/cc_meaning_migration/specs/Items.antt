-- Reading the parts of images: values, what was made for literals and class constants, and objects.
use Rattle.std.specs.Prelude.{ℕ, zero, suc, ◌==◌, ◌&&◌, ◌||◌, nat_le, nat_lt, not, Bool, true, false, cond, List, [], ◌∷◌, length, Option, Some, None, slice_get, codes, ℤ}
use Rattle.std.specs.List.{list_any}
use Rattle.std.specs.Str.{bytes_eq}
use Rattle.std.specs.Int.{w16, w32, w64, cast_signed}
use Rattle.cc_meaning.specs.declared.fault.ImageFault.TheVariants.{CutOff, BadKind}
use Rattle.cc_meaning.specs.declared.instruction.Kind.{Kind}
use Rattle.cc_meaning.specs.declared.instruction.Kind.TheVariants as kind
use Rattle.cc_meaning.specs.declared.program.Class.{Class}
use Rattle.cc_meaning.specs.declared.program.ClassKind.{ClassKind}
use Rattle.cc_meaning.specs.declared.program.ClassKind.TheVariants as origin
use Rattle.cc_meaning.specs.declared.program.DexType.{DexType}
use Rattle.cc_meaning.specs.declared.program.Program.{Program}
use Rattle.cc_meaning.specs.declared.value.Made.{Made}
use Rattle.cc_meaning.specs.declared.value.Object.{Object}
use Rattle.cc_meaning.specs.declared.value.Object.TheVariants as object
use Rattle.cc_meaning.specs.declared.value.Value.{Value}
use Rattle.cc_meaning.specs.declared.value.Value.TheVariants as value
use Rattle.cc_meaning.specs.BuiltIn.{string_builder_name}
use Rattle.cc_meaning.specs.Kinds.{kind_of}
use Rattle.cc_meaning_typing.specs.Code.{behind_brackets, element_of, type_of_class}
use Rattle.cc_meaning_typing.specs.WellTyped.{can_be_made}
use Rattle.cc_meaning_world.specs.Layouts.{shape}
use Rattle.cc_meaning_exec.specs.Numbers.{is_same_int, kept_bits}
use Rattle.cc_meaning_migration.specs.Numbers.{Spot, Got, got, wrong, reading, allowed, number, byte, reference, object_named, items, counted_items}

-- ---- values

-- Whether a number of a kind is in its range. Fields, elements and statics are held to it; arguments and results aren't.
unfoldable pub is_in_range : (is_held : Bool) → Kind → ℤ → Bool
is_in_range false k n = true
is_in_range true k n = is_same_int (kept_bits k n) n

-- a value of a kind
unfoldable pub value_of_kind : (is_held : Bool) → Kind → Spot → Got Value
value_of_kind is_held kind.Wide s = reading (number w64 s) (λ n s1. got (value.Long (cast_signed w64 n)) s1)
value_of_kind is_held kind.Object s = reading (reference s) (λ r s1. got (value.Obj r) s1)
value_of_kind is_held k s = reading (number w32 s) (λ n s1. allowed (is_in_range is_held k (cast_signed w32 n)) s.at (got (value.Int (cast_signed w32 n)) s1))

-- a value of each of these types
unfoldable pub values_of : (is_held : Bool) → List DexType → Spot → Got (List Value)
values_of is_held [] s = got [] s
values_of is_held (t ∷ ts) s = reading (value_of_kind is_held (kind_of t) s) (λ v s1. reading (values_of is_held ts s1) (λ vs s2. got (v ∷ vs) s2))

-- units of a text or a builder
unfoldable pub units : Spot → Got (List ℕ)
units s = counted_items (number w16) s

-- ---- literals and class constants

-- Whether a number may stand for one that was made: it is below the limit and not below the least that is still allowed, and isn't among those listed before.
unfoldable pub is_new_what : (limit : ℕ) → (listed : List Made) → (least what : ℕ) → Bool
is_new_what limit listed least n = nat_le least n && (nat_lt n limit && not (list_any (λ (made : Made). made.what == n) listed))

-- so many of them, by rising number
unfoldable pub mades_from : (limit : ℕ) → (listed : List Made) → (count least : ℕ) → Spot → Got (List Made)
mades_from limit listed zero least s = got [] s
mades_from limit listed (suc k) least s =
    reading (number w32 s) (λ n s1. allowed (is_new_what limit listed least n) s.at (
    reading (object_named s1) (λ a s2.
    reading (mades_from limit listed k (suc n) s2) (λ rest s3.
    got (record { what = n; number = a } ∷ rest) s3))))

unfoldable pub mades : (limit : ℕ) → (listed : List Made) → Spot → Got (List Made)
mades limit listed s = reading (number w32 s) (λ n s1. mades_from limit listed n 0 s1)

-- ---- classes of objects

unfoldable pub is_array_kind : ClassKind → Bool
is_array_kind origin.Array = true
is_array_kind _ = false

unfoldable pub is_float_base : List ℕ → Bool
is_float_base name = bytes_eq name (codes "F") || bytes_eq name (codes "D")

unfoldable pub is_instance_in : Option Class → Bool
is_instance_in None = false
is_instance_in (Some class) = can_be_made (Some class) && (not (is_array_kind class.kind) && not (bytes_eq class.name string_builder_name))

-- whether an object may be an instance of a class: no interface or abstract class of the file, no array, and neither String, StringBuilder, System nor PrintStream
unfoldable pub is_instance_class : Program → ℕ → Bool
is_instance_class p class = is_instance_in (slice_get p.classes class)

unfoldable pub is_array_in : Option Class → Bool
is_array_in None = false
is_array_in (Some class) = is_array_kind class.kind && not (is_float_base (behind_brackets class.name))

-- whether an object may be an array of a class: that of an array, but of none of numbers that no program has
unfoldable pub is_array_class : Program → ℕ → Bool
is_array_class p class = is_array_in (slice_get p.classes class)

-- the declared type of the elements of an array of a class
unfoldable pub element_type : Program → ℕ → DexType
element_type p class = element_of (type_of_class p class)

-- whether a number is that of a class
unfoldable pub is_class_number : Program → ℕ → Bool
is_class_number p class = nat_lt class (length p.classes)

-- a number of a class
unfoldable pub class_number : Program → Spot → Got ℕ
class_number p s = reading (number w32 s) (λ n s1. allowed (is_class_number p n) s.at (got n s1))

-- ---- objects

-- the elements of an array of a class, so many
unfoldable pub elements : Program → (class count : ℕ) → Spot → Got (List Value)
elements p class n s = items (value_of_kind true (kind_of (element_type p class))) n s

unfoldable pub instance : Program → Spot → Got Object
instance p s = reading (number w32 s) (λ class s1. allowed (is_instance_class p class) s.at (reading (values_of true (shape p class) s1) (λ vs s2. got (object.Instance class vs) s2)))

unfoldable pub array : Program → Spot → Got Object
array p s =
    reading (number w32 s) (λ class s1. allowed (is_array_class p class) s.at (
    reading (number w32 s1) (λ n s2. reading (elements p class n s2) (λ vs s3. got (object.Array class vs) s3))))

unfoldable pub object_by : Program → (kind at : ℕ) → Spot → Got Object
object_by p (suc zero) at s = instance p s
object_by p (suc (suc zero)) at s = array p s
object_by p (suc (suc (suc zero))) at s = reading (units s) (λ us s1. got (object.Text us) s1)
object_by p (suc (suc (suc (suc zero)))) at s = reading (units s) (λ us s1. got (object.Builder us) s1)
object_by p (suc (suc (suc (suc (suc zero))))) at s = reading (class_number p s) (λ class s1. got (object.Constant class) s1)
object_by p _ at s = wrong (BadKind at)

-- an object other than `System.out`
unfoldable pub object_at : Program → Spot → Got Object
object_at p s = reading (byte s) (λ kind s1. object_by p kind s.at s1)

-- `System.out`
unfoldable pub out_at : Spot → Got Object
out_at s = reading (byte s) (λ kind s1. allowed (kind == 0) s.at (got object.Out s1))

-- Objects, where so many were given before, until the greatest number that was mentioned has been given. Each takes a byte at least, so there are no more of
-- them than bytes.
unfoldable pub objects_within : Program → (bound given : ℕ) → Spot → Got (List Object)
objects_within p zero given s = cond (nat_le s.greatest given) (got [] s) (wrong CutOff)
objects_within p (suc n) given s =
    cond (nat_le s.greatest given) (got [] s) (reading (object_at p s) (λ o s1. reading (objects_within p n (suc given) s1) (λ os s2. got (o ∷ os) s2)))

unfoldable pub objects_behind : Program → (given : ℕ) → Spot → Got (List Object)
objects_behind p given s = objects_within p (length s.rest) given s
