-- The classes above a class.
use Rattle.std.specs.Prelude.{◌≡◌, ℕ, zero, suc, ◌<◌, ◌==◌, Bool, true, false, cond, length, Option, Some, None, slice_get, unwrap_or}
use Rattle.cc_meaning.specs.declared.program.Class.{Class}
use Rattle.cc_meaning.specs.declared.program.Program.{Program}
use Rattle.cc_meaning.specs.BuiltIn.{object_name}
use Rattle.cc_meaning.specs.Lookup.{class_named}

-- goes on with a value, or stays where there is none
unfoldable pub on_value : {A B : Type 0} → Option A → B → (A → B) → B
on_value None stay go = stay
on_value (Some value) stay go = go value

unfoldable pub superclass_in : Option Class → Option ℕ
superclass_in None = None
superclass_in (Some class) = class.superclass

-- the superclass of the class of a number
unfoldable pub superclass_of : Program → ℕ → Option ℕ
superclass_of program class = superclass_in (slice_get program.classes class)

-- Object's number
unfoldable pub object_class : Program → ℕ
object_class program = unwrap_or (class_named object_name program) 0

-- the class so many steps up, or the last one on the way
unfoldable pub climb : Program → ℕ → ℕ → ℕ
climb program zero class = class
climb program (suc n) class = on_value (superclass_of program class) class (λ above. climb program n above)

-- The superclasses lead from each class to Object, which has none, in no more steps than there are classes. So no class is above itself.
pub record IsHierarchy (program : Program) : Type 0 where
  pub object : class_named object_name program ≡ Some (object_class program)
  pub top : superclass_of program (object_class program) ≡ None
  pub leads : (class : ℕ) → class < length program.classes → climb program (length program.classes) class ≡ object_class program

-- the first class is the second, or has it among its superclasses
pub data Inherits (program : Program) : ℕ → ℕ → Type 0 where
  itself : {class : ℕ} → Inherits program class class
  further : {class above ancestor : ℕ} → superclass_of program class ≡ Some above → Inherits program above ancestor → Inherits program class ancestor

-- whether so many steps up from the first class, or fewer, lead to the second
unfoldable pub climbs_to : Program → ℕ → (class ancestor : ℕ) → Bool
climbs_to program zero class ancestor = class == ancestor
climbs_to program (suc n) class ancestor = cond (class == ancestor) true (on_value (superclass_of program class) false (λ above. climbs_to program n above ancestor))

-- the test of `Inherits`
unfoldable pub has_ancestor : Program → (class ancestor : ℕ) → Bool
has_ancestor program class ancestor = climbs_to program (length program.classes) class ancestor
