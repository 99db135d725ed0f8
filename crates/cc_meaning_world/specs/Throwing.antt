-- Going on with what is there, and throwing what an instruction throws by itself.
use Rattle.std.specs.Prelude.{ℕ, List, [], ◌∷◌, Option, Some, None}
use Rattle.cc_meaning.specs.declared.program.Program.{Program}
use Rattle.cc_meaning.specs.declared.value.Object.TheVariants as object
use Rattle.cc_meaning.specs.declared.value.Value.TheVariants as value
use Rattle.cc_meaning.specs.BuiltIn.{null_pointer_exception_name}
use Rattle.cc_meaning.specs.Lookup.{class_named}
use Rattle.cc_meaning_world.specs.Acts.{Act, Done, Make, Throws, Stuck}

-- goes on with a value; where there is none, an operand was of the wrong kind
unfoldable pub on_some : {A : Type 0} → Option A → (A → Act) → Act
on_some None k = Done Stuck
on_some (Some x) k = k x

-- a new exception of a built-in class, without a message, is thrown
unfoldable pub throw_of : ℕ → Act
throw_of class = Make (object.Instance class (value.Obj None ∷ [])) (λ a. Done (Throws a))

-- the same, of the class of a name
unfoldable pub throw_new : Program → List ℕ → Act
throw_new p name = on_some (class_named name p) throw_of

-- goes on with the object of a reference; null throws
unfoldable pub on_object : Program → Option ℕ → (ℕ → Act) → Act
on_object p None k = throw_new p null_pointer_exception_name
on_object p (Some a) k = k a

-- goes on with what is there, or throws a new exception of the class of a name
unfoldable pub or_throw : {A : Type 0} → Program → (name : List ℕ) → Option A → (A → Act) → Act
or_throw p name None k = throw_new p name
or_throw p name (Some x) k = k x
