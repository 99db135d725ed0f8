-- Arrays, and the payloads that fill them or that a switch chooses from.
use Rattle.std.specs.Prelude.{ℕ, zero, suc, ◌+◌, ◌*◌, ◌/◌, ℤ, pos, negsuc, ◌-ℤ◌, Bool, true, false, cond, nat_lt, nat_le, replicate, List, [], ◌∷◌, length, map, take, drop, Option, Some, None, slice_get, option_map}
use Rattle.std.specs.Int.{w32, w64, int_wrap}
use Rattle.cc_meaning.specs.declared.instruction.Insn.{Insn}
use Rattle.cc_meaning.specs.declared.instruction.Insn.TheVariants as insn
use Rattle.cc_meaning.specs.declared.instruction.Kind.{Kind}
use Rattle.cc_meaning.specs.declared.instruction.Kind.TheVariants as kind
use Rattle.cc_meaning.specs.declared.program.DexType.{DexType}
use Rattle.cc_meaning.specs.declared.program.Program.{Program}
use Rattle.cc_meaning.specs.declared.value.Cell.{Cell}
use Rattle.cc_meaning.specs.declared.value.Object.{Object}
use Rattle.cc_meaning.specs.declared.value.Object.TheVariants as object
use Rattle.cc_meaning.specs.declared.value.Value.{Value}
use Rattle.cc_meaning.specs.declared.value.Value.TheVariants as value
use Rattle.cc_meaning.specs.BuiltIn.{array_index_out_of_bounds_exception_name, array_store_exception_name}
use Rattle.cc_meaning.specs.Lookup.{class_named}
use Rattle.cc_meaning.specs.Kinds.{kind_of, zero_of}
use Rattle.cc_meaning.specs.Names.{descriptor}
use Rattle.cc_meaning_typing.specs.Code.{address, element_of, type_of_class}
use Rattle.cc_meaning_world.specs.World.{Locals}
use Rattle.cc_meaning_world.specs.Acts.{Act, Make, Look, ClassOf, Put}
use Rattle.cc_meaning_world.specs.Casts.{passes}
use Rattle.cc_meaning_world.specs.Throwing.{on_some, throw_new, or_throw}
use Rattle.cc_meaning_exec.specs.Registers.{value_in, on_int, on_reference, onto, go_on}
use Rattle.cc_meaning_exec.specs.Numbers.{is_same_int, kept_bits, kept}

-- ---- elements

unfoldable pub elements_in : Object → Option (List Value)
elements_in (object.Array class values) = Some values
elements_in _ = None

-- the type of the elements of an array
unfoldable pub element_type_of : Program → Object → Option DexType
element_type_of p (object.Array class values) = Some (element_of (type_of_class p class))
element_type_of p _ = None

unfoldable pub element_at : List Value → ℤ → Option Value
element_at values (pos i) = slice_get values i
element_at values (negsuc i) = None

unfoldable pub place_in : List Value → ℤ → Option ℕ
place_in values (pos i) = cond (nat_lt i (length values)) (Some i) None
place_in values (negsuc i) = None

-- an index that an array hasn't got throws
unfoldable pub or_out_of_bounds : {A : Type 0} → Program → Option A → (A → Act) → Act
or_out_of_bounds p found k = or_throw p array_index_out_of_bounds_exception_name found k

-- an object that is stored passes the test of check-cast against the elements' type, or the store throws
unfoldable pub stored : Program → DexType → Value → Act → Act
stored p element (value.Obj (Some b)) act = ClassOf b (λ t. cond (passes p true t element) act (throw_new p array_store_exception_name))
stored p element _ act = act

-- goes on with an array that a register holds, and its elements; null throws
unfoldable pub on_array : Program → Locals → ℕ → (ℕ → Object → List Value → Act) → Act
on_array p locals r k = on_reference p locals r (λ a. Look a (λ o. on_some (elements_in o) (k a o)))

-- ---- new arrays

unfoldable pub size_of : ℤ → Option ℕ
size_of (pos n) = Some n
size_of (negsuc n) = None

-- the class of an array type
unfoldable pub array_class : Program → DexType → Option ℕ
array_class p named = class_named (descriptor p named) p

-- so many elements, each zero or null
unfoldable pub zero_elements : DexType → ℕ → List Value
zero_elements named count = replicate count (zero_of (kind_of (element_of named)))

-- the elements that registers give, as a store keeps them
unfoldable pub elements_from : List Cell → Kind → List ℕ → Option (List Value)
elements_from cells k [] = Some []
elements_from cells k (r ∷ rs) = onto (option_map (kept k) (value_in k (slice_get cells r))) (elements_from cells k rs)

-- ---- the data that fills an array

-- bytes as a number, the lowest first
unfoldable pub number_of_bytes : List ℕ → ℕ
number_of_bytes [] = 0
number_of_bytes (byte ∷ bytes) = byte + 256 * number_of_bytes bytes

-- so many numbers of a width in bytes
unfoldable pub numbers_of_bytes : (count width : ℕ) → List ℕ → List ℕ
numbers_of_bytes zero width bytes = []
numbers_of_bytes (suc n) width bytes = number_of_bytes (take width bytes) ∷ numbers_of_bytes n width (drop width bytes)

unfoldable pub numbers_in : Option Insn → List ℕ
numbers_in (Some (insn.ArrayPayload width bytes)) = numbers_of_bytes (length bytes / width) width bytes
numbers_in _ = []

-- a number of the data as an element of a kind: in two's complement, and as a store keeps it
unfoldable pub element_value : Kind → ℕ → Value
element_value kind.Wide n = value.Long (int_wrap w64 (pos n))
element_value k n = value.Int (kept_bits k (int_wrap w32 (pos n)))

unfoldable pub fill : ℕ → ℕ → List Value → Act → Act
fill a i [] act = act
fill a i (v ∷ vs) act = Put a i v (fill a (suc i) vs act)

-- the first elements are written; where there are fewer than data, it throws and nothing is written
unfoldable pub fill_with : Program → (array length : ℕ) → List Value → Act → Act
fill_with p a size vs act = cond (nat_le (length vs) size) (fill a 0 vs act) (throw_new p array_index_out_of_bounds_exception_name)

-- ---- switches

unfoldable pub pick : ℤ → List ℤ → List ℤ → Option ℤ
pick n (key ∷ keys) (target ∷ targets) = cond (is_same_int n key) (Some target) (pick n keys targets)
pick n _ _ = None

unfoldable pub nth_from : List ℤ → ℤ → Option ℤ
nth_from targets (pos i) = slice_get targets i
nth_from targets (negsuc i) = None

-- The target of the case that a number chooses: the case so far behind the first key, or that of the first equal key. Keys are whole numbers.
unfoldable pub chosen : Bool → Option Insn → ℤ → Option ℤ
chosen true (Some (insn.PackedPayload first targets)) n = nth_from targets (n -ℤ first)
chosen false (Some (insn.SparsePayload keys targets)) n = pick n keys targets
chosen _ _ n = None

-- where no case is chosen, on behind the switch; targets count from the switch
unfoldable pub switch_to : Option ℤ → (at next : ℕ) → Locals → Act
switch_to None at next locals = go_on next locals.cells
switch_to (Some target) at next locals = on_some (address at target) (λ to. go_on to locals.cells)
