-- Which initialisers an instruction can run: those of the class that it starts, and of the superclasses of that one, which are started with it.
use Rattle.std.specs.Prelude.{ℕ, zero, suc, ◌==◌, ◌&&◌, ◌||◌, Bool, false, length, Option, Some, None, slice_get}
use Rattle.std.specs.List.{list_any}
use Rattle.cc_meaning.specs.declared.instruction.How.TheVariants as how
use Rattle.cc_meaning.specs.declared.instruction.Insn.{Insn}
use Rattle.cc_meaning.specs.declared.instruction.Insn.TheVariants as insn
use Rattle.cc_meaning.specs.declared.instruction.MethodRef.TheVariants as ref
use Rattle.cc_meaning.specs.declared.instruction.TypeRef.{TypeRef}
use Rattle.cc_meaning.specs.declared.instruction.TypeRef.TheVariants as type
use Rattle.cc_meaning.specs.declared.program.Base.{Base}
use Rattle.cc_meaning.specs.declared.program.Base.TheVariants as base
use Rattle.cc_meaning.specs.declared.program.Class.{Class}
use Rattle.cc_meaning.specs.declared.program.Field.{Field}
use Rattle.cc_meaning.specs.declared.program.Program.{Program}
use Rattle.cc_meaning_typing.specs.Hierarchy.{on_value, superclass_of}
use Rattle.cc_meaning_calls.specs.Kept.{class_of}
use Rattle.cc_meaning_calls.specs.Selection.{class_numbers, is_it}

unfoldable pub class_in_base : Base → Option ℕ
class_in_base (base.Class class) = Some class
class_in_base _ = None

unfoldable pub class_in_type : TypeRef → Option ℕ
class_in_type (type.Row row) = None
class_in_type (type.Known named) = class_in_base named.base

unfoldable pub class_in_field : Option Field → Option ℕ
class_in_field None = None
class_in_field (Some field) = Some field.class

-- the class that an instruction starts: the one that `new-instance` makes, or the one that declares the static method or the static field
unfoldable pub started_by : Program → Insn → Option ℕ
started_by p (insn.NewInstance to named) = class_in_type named
started_by p (insn.StaticGet kind to field) = class_in_field (slice_get p.fields field)
started_by p (insn.StaticPut kind from field) = class_in_field (slice_get p.fields field)
started_by p (insn.Invoke how.Static (ref.Known class m) args) = class_of p m
started_by p _ = None

-- a class is another, or has it among its superclasses, as far as so many steps lead
unfoldable pub inherits_within : Program → (steps : ℕ) → (class other : ℕ) → Bool
inherits_within p zero class other = class == other
inherits_within p (suc steps) class other = (class == other) || on_value (superclass_of p class) false (λ above. inherits_within p steps above other)

unfoldable pub inherits : Program → (class other : ℕ) → Bool
inherits p class other = inherits_within p (length p.classes) class other

unfoldable pub initialiser_in : Option Class → Option ℕ
initialiser_in None = None
initialiser_in (Some class) = class.initialiser

unfoldable pub initialiser_of : Program → ℕ → Option ℕ
initialiser_of p class = initialiser_in (slice_get p.classes class)

-- a method is the initialiser of a class that is another one or a superclass of it, where that class passes a test
unfoldable pub initialises : Program → (ℕ → Bool) → (class m : ℕ) → Bool
initialises p test class m = list_any (λ c. (inherits p class c && test c) && is_it (initialiser_of p c) m) (class_numbers p)

-- an instruction can start a class whose initialiser is a method, where that class passes a test
unfoldable pub can_start : Program → (ℕ → Bool) → Insn → ℕ → Bool
can_start p test instruction m = on_value (started_by p instruction) false (λ class. initialises p test class m)
