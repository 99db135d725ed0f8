-- Which methods have to stay on the device, and whose answers a method takes.
use Rattle.std.specs.Prelude.{ℕ, ◌==◌, ◌&&◌, ◌||◌, not, Bool, true, false, Option, Some, None, slice_get}
use Rattle.cc_meaning.specs.declared.program.Method.{Method}
use Rattle.cc_meaning.specs.declared.program.Program.{Program}
use Rattle.cc_meaning.specs.declared.script.Script.{Script}
use Rattle.cc_meaning_world.specs.Scripts.{is_free, is_stateful, is_pinned, is_of_stream}

unfoldable pub holds_in : (Method → Bool) → Option Method → Bool
holds_in test None = false
holds_in test (Some method) = test method

-- a test of the method of a number, where there is one
unfoldable pub holds_of : (Method → Bool) → Program → ℕ → Bool
holds_of test p m = holds_in test (slice_get p.methods m)

-- a method of PrintStream that isn't free
unfoldable pub is_print : Program → Script → ℕ → Bool
is_print p script m = is_of_stream p m && not (is_free script p m)

-- a method that has to stay on the device: it is pinned, PrintStream's, or the one that the program begins with
unfoldable pub must_stay : Program → Script → ℕ → Bool
must_stay p script m = is_pinned script p m || (is_print p script m || m == p.main)

unfoldable pub declaring_in : Option Method → Option ℕ
declaring_in None = None
declaring_in (Some method) = Some method.class

-- the class that declares a method
unfoldable pub class_of : Program → ℕ → Option ℕ
class_of p m = declaring_in (slice_get p.methods m)

unfoldable pub if_stateful : Bool → Option ℕ → Option ℕ
if_stateful true class = class
if_stateful false class = None

-- the class whose answers a stateful method takes
unfoldable pub stateful_class : Program → Script → ℕ → Option ℕ
stateful_class p script m = if_stateful (is_stateful script p m) (class_of p m)
