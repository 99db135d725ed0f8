-- Which methods an invoke can run: the one that it names, or the one that a search from the receiver's class finds.
use Rattle.std.specs.Prelude.{ℕ, zero, suc, ◌==◌, ◌&&◌, ◌||◌, not, Bool, true, false, cond, List, [], ◌∷◌, length, Option, Some, None, slice_get}
use Rattle.std.specs.List.{list_any, range_with_len}
use Rattle.std.specs.Str.{bytes_eq}
use Rattle.cc_meaning.specs.declared.instruction.How.{How}
use Rattle.cc_meaning.specs.declared.instruction.How.TheVariants as how
use Rattle.cc_meaning.specs.declared.program.Class.{Class}
use Rattle.cc_meaning.specs.declared.program.ClassKind.{ClassKind}
use Rattle.cc_meaning.specs.declared.program.ClassKind.TheVariants as origin
use Rattle.cc_meaning.specs.declared.program.DexType.{DexType}
use Rattle.cc_meaning.specs.declared.program.Method.{Method}
use Rattle.cc_meaning.specs.declared.program.MethodKind.{MethodKind}
use Rattle.cc_meaning.specs.declared.program.MethodKind.TheVariants as kinds
use Rattle.cc_meaning.specs.declared.program.Program.{Program}
use Rattle.cc_meaning_typing.specs.Hierarchy.{on_value, superclass_of}
use Rattle.cc_meaning_typing.specs.Types.{held, is_same_type, rises_to, reach}
use Rattle.cc_meaning_typing.specs.Code.{type_of_class}
use Rattle.cc_meaning_typing.specs.WellTyped.{is_file_interface}
use Rattle.cc_meaning_world.specs.Casts.{implements}

-- ---- the search for a method

unfoldable pub same_types : List DexType → List DexType → Bool
same_types [] [] = true
same_types (a ∷ as') (b ∷ bs) = is_same_type a b && same_types as' bs
same_types _ _ = false

unfoldable pub same_result : Option DexType → Option DexType → Bool
same_result None None = true
same_result (Some a) (Some b) = is_same_type a b
same_result _ _ = false

-- a method may run for a named one: it isn't static, and has its name, its parameters and its result
unfoldable pub stands_for : (named found : Method) → Bool
stands_for named found = not found.is_static && (bytes_eq found.name named.name && (same_types found.params named.params && same_result found.result named.result))

-- the first method from a number on that a class declares and that may run for a named one
unfoldable pub declared_from : ℕ → (class : ℕ) → (named : Method) → List Method → Option ℕ
declared_from m class named [] = None
declared_from m class named (method ∷ rest) = cond ((method.class == class) && stands_for named method) (Some m) (declared_from (suc m) class named rest)

unfoldable pub declared : Program → (class : ℕ) → (named : Method) → Option ℕ
declared p class named = declared_from 0 class named p.methods

-- the first of two that there is
unfoldable pub first_of_two : Option ℕ → Option ℕ → Option ℕ
first_of_two None second = second
first_of_two (Some first) second = Some first

-- the class that a search goes on in: the superclass, which it doesn't climb to from an interface of the file
unfoldable pub next_class : Program → ℕ → Option ℕ
next_class p class = cond (is_file_interface (slice_get p.classes class)) None (superclass_of p class)

-- the first method from a class upward that may run for a named one, as far as so many steps lead
unfoldable pub found_within : Program → (steps : ℕ) → (named : Method) → (class : ℕ) → Option ℕ
found_within p zero named class = declared p class named
found_within p (suc steps) named class = first_of_two (declared p class named) (on_value (next_class p class) None (λ above. found_within p steps named above))

unfoldable pub if_outside : MethodKind → ℕ → Option ℕ
if_outside kinds.Outside m = Some m
if_outside _ m = None

-- the method that is run for the named method m on an object of a class: the first from that class upward, and else m itself where it is outside
unfoldable pub selected : Program → (m : ℕ) → (named : Method) → (class : ℕ) → Option ℕ
selected p m named class = first_of_two (found_within p (length p.classes) named class) (if_outside named.kind m)

-- ---- receivers

-- a class has an interface of the file: it is that one, or it or a superclass of it lists that one or one below it
unfoldable pub has_interface : Program → (class interface : ℕ) → Bool
has_interface p class interface = (class == interface) || implements p (length p.classes) class interface

-- a type is below another, as registers hold them
unfoldable pub is_held_below : Program → DexType → DexType → Bool
is_held_below p a b = rises_to p (reach p a) a b

-- a class is below another in the sense of the typing rules
unfoldable pub is_class_below : Program → (class named : ℕ) → Bool
is_class_below p class named = is_held_below p (held p (type_of_class p class)) (held p (type_of_class p named))

unfoldable pub receives_by : Program → ClassKind → Bool → (class named : ℕ) → Bool
receives_by p origin.File true class named = has_interface p class named
receives_by p origin.Outside is_interface class named = true
receives_by p origin.OutsideError is_interface class named = true
receives_by p _ is_interface class named = is_class_below p class named

unfoldable pub receives_in : Program → Option Class → (class named : ℕ) → Bool
receives_in p None class named = false
receives_in p (Some found) class named = receives_by p found.kind found.is_interface class named

-- The classes of the objects on which an invoke that names a class may act: those that have an interface of the file, every one for an outside class, and
-- else the named class and those below it.
unfoldable pub receives : Program → (named class : ℕ) → Bool
receives p named class = receives_in p (slice_get p.classes named) class named

-- ---- what an invoke can select

unfoldable pub is_it : Option ℕ → ℕ → Bool
is_it None m = false
is_it (Some found) m = found == m

unfoldable pub class_numbers : Program → List ℕ
class_numbers p = range_with_len 0 (length p.classes)

-- An invoke in a method of the class `own`, which names a class and the method m, can select a method: m itself where it is static or direct, what the search
-- from the superclass of `own` finds where it is super, and else what a search from some class of its receivers finds.
unfoldable pub selects : Program → (own : ℕ) → How → (class m : ℕ) → (named : Method) → ℕ → Bool
selects p own how.Static class m named callee = callee == m
selects p own how.Direct class m named callee = callee == m
selects p own how.Super class m named callee = on_value (superclass_of p own) false (λ above. is_it (selected p m named above) callee)
selects p own _ class m named callee = list_any (λ c. receives p class c && is_it (selected p m named c) callee) (class_numbers p)
