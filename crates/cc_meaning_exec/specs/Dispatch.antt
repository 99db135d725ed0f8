-- Which method a call comes to, and what the call does.
use Rattle.std.specs.Prelude.{ℕ, zero, suc, Bool, true, false, cond, not, ◌==◌, ◌&&◌, List, [], ◌∷◌, length, Option, Some, None, slice_get, unwrap_or}
use Rattle.std.specs.Str.{bytes_eq}
use Rattle.cc_meaning.specs.declared.instruction.How.{How}
use Rattle.cc_meaning.specs.declared.instruction.How.TheVariants as how
use Rattle.cc_meaning.specs.declared.program.Base.{Base}
use Rattle.cc_meaning.specs.declared.program.Base.TheVariants as base
use Rattle.cc_meaning.specs.declared.program.DexType.{DexType}
use Rattle.cc_meaning.specs.declared.program.Method.{Method}
use Rattle.cc_meaning.specs.declared.program.MethodKind.{MethodKind}
use Rattle.cc_meaning.specs.declared.program.MethodKind.TheVariants as kinds
use Rattle.cc_meaning.specs.declared.program.Program.{Program}
use Rattle.cc_meaning.specs.declared.value.Value.{Value}
use Rattle.cc_meaning.specs.declared.value.Value.TheVariants as value
use Rattle.cc_meaning.specs.BuiltIn.{abstract_method_error_name, incompatible_class_change_error_name}
use Rattle.cc_meaning_typing.specs.Hierarchy.{on_value, superclass_of, object_class}
use Rattle.cc_meaning_typing.specs.Types.{typed, class_type, is_same_type}
use Rattle.cc_meaning_typing.specs.WellTyped.{is_file_interface}
use Rattle.cc_meaning_world.specs.World.{Locals}
use Rattle.cc_meaning_world.specs.Casts.{passes}
use Rattle.cc_meaning_world.specs.Acts.{Act, Done, ClassOf, Ask, Enter, Stuck}
use Rattle.cc_meaning_world.specs.Throwing.{on_some, throw_new, or_throw}
use Rattle.cc_meaning_rows.specs.Rows.{built_in}
use Rattle.cc_meaning_rows.specs.Calls.{row_of_call}
use Rattle.cc_meaning_exec.specs.Registers.{on_reference, values_in, go_back}
use Rattle.cc_meaning_exec.specs.Arrays.{array_class}

-- ---- the search for a method

unfoldable pub same_types : List DexType → List DexType → Bool
same_types [] [] = true
same_types (a ∷ as') (b ∷ bs) = is_same_type a b && same_types as' bs
same_types _ _ = false

unfoldable pub same_result : Option DexType → Option DexType → Bool
same_result None None = true
same_result (Some a) (Some b) = is_same_type a b
same_result _ _ = false

-- a method of a class that may be run for a named one: not static, with its name, parameters and result
unfoldable pub stands_for : ℕ → Method → Method → Bool
stands_for class named m = (m.class == class) && (not m.is_static && (bytes_eq m.name named.name && (same_types m.params named.params && same_result m.result named.result)))

unfoldable pub first_in : ℕ → Method → ℕ → List Method → Option ℕ
first_in class named from [] = None
first_in class named from (m ∷ ms) = cond (stands_for class named m) (Some from) (first_in class named (suc from) ms)

unfoldable pub or_above : Option ℕ → Option ℕ → Option ℕ
or_above None b = b
or_above (Some a) b = Some a

-- the first method that stands for a named one, from a class up, within so many steps
unfoldable pub search_from : Program → ℕ → Method → ℕ → Option ℕ
search_from p zero named class = first_in class named 0 p.methods
search_from p (suc n) named class = or_above (first_in class named 0 p.methods) (on_value (superclass_of p class) None (λ above. search_from p n named above))

unfoldable pub is_outside_kind : MethodKind → Bool
is_outside_kind kinds.Outside = true
is_outside_kind _ = false

-- where no class has it, the named method itself is taken if it is outside
unfoldable pub if_outside : ℕ → Method → Option ℕ
if_outside m named = cond (is_outside_kind named.kind) (Some m) None

-- an array has a class of its own: its clone stands there, and each outside method that is named on its type
unfoldable pub class_of_type : Program → ℕ → Base → ℕ
class_of_type p zero (base.Class class) = class
class_of_type p (suc dims) b = unwrap_or (array_class p (typed (suc dims) b)) (object_class p)
class_of_type p zero _ = object_class p

-- the method that a call comes to on an object of a type
unfoldable pub dispatch : Program → DexType → ℕ → Method → Option ℕ
dispatch p t m named = or_above (search_from p (length p.classes) named (class_of_type p t.dims t.base)) (if_outside m named)

-- the method that a call by `super` in a class comes to
unfoldable pub dispatch_above : Program → (own : ℕ) → ℕ → Method → Option ℕ
dispatch_above p own m named = or_above (on_value (superclass_of p own) None (λ above. search_from p (length p.classes) named above)) (if_outside m named)

-- ---- what a method is

-- A method with code is entered, a built-in one does what its row says, an outside or native one is asked of the script, and an abstract one throws.
unfoldable pub enter_kind : Program → MethodKind → Method → ℕ → ℕ → Locals → List Value → Act
enter_kind p (kinds.Code code) callee m next locals args = Done (Enter m args next)
enter_kind p kinds.BuiltIn callee m next locals args = row_of_call p (built_in p callee) m args (go_back next locals)
enter_kind p kinds.Abstract callee m next locals args = throw_new p abstract_method_error_name
enter_kind p kinds.Native callee m next locals args = Ask m args (go_back next locals)
enter_kind p kinds.Outside callee m next locals args = Ask m args (go_back next locals)

unfoldable pub enter : Program → ℕ → ℕ → Locals → List Value → Act
enter p m next locals args = on_some (slice_get p.methods m) (λ (callee : Method). enter_kind p callee.kind callee m next locals args)

-- where a search finds no method, the call throws
unfoldable pub enter_found : Program → Option ℕ → ℕ → Locals → List Value → Act
enter_found p found next locals args = or_throw p abstract_method_error_name found (λ m. enter p m next locals args)

-- ---- calls

-- an interface of the file that a call names is one that the receiver implements, or the call throws
unfoldable pub answers_to : Program → ℕ → DexType → Bool
answers_to p class t = cond (is_file_interface (slice_get p.classes class)) (passes p false t (class_type class)) true

unfoldable pub if_answers : Program → ℕ → DexType → Act → Act
if_answers p class t act = cond (answers_to p class t) act (throw_new p incompatible_class_change_error_name)

-- A call with a receiver; null throws. A direct call is of the named method, one by `super` of that above the class of the running method, and the others of
-- that of the receiver's own class.
unfoldable pub call_on : Program → (own class : ℕ) → How → ℕ → Method → ℕ → Locals → ℕ → List Value → Act
call_on p own class how.Direct m callee next locals receiver vs = on_reference p locals receiver (λ a. enter p m next locals (value.Obj (Some a) ∷ vs))
call_on p own class how.Super m callee next locals receiver vs =
    on_reference p locals receiver (λ a. ClassOf a (λ t. if_answers p class t (enter_found p (dispatch_above p own m callee) next locals (value.Obj (Some a) ∷ vs))))
call_on p own class _ m callee next locals receiver vs =
    on_reference p locals receiver (λ a. ClassOf a (λ t. if_answers p class t (enter_found p (dispatch p t m callee) next locals (value.Obj (Some a) ∷ vs))))

unfoldable pub invoke_how : Program → (own class : ℕ) → How → ℕ → ℕ → Locals → List ℕ → Method → Act
invoke_how p own class how.Static m next locals rs callee = on_some (values_in locals.cells callee.params rs) (enter p m next locals)
invoke_how p own class h m next locals [] callee = Done Stuck
invoke_how p own class h m next locals (receiver ∷ rs) callee = on_some (values_in locals.cells callee.params rs) (call_on p own class h m callee next locals receiver)

-- a call of a method that names a class, in a method of the class `own`, with these registers
unfoldable pub invoke : Program → (own class : ℕ) → How → ℕ → ℕ → Locals → List ℕ → Act
invoke p own class h m next locals rs = on_some (slice_get p.methods m) (invoke_how p own class h m next locals rs)
