-- What a built-in method does, as the steps that it asks of the world. Nothing else reads or writes the world.
use Rattle.std.specs.Prelude.{ℕ, nat_lt, List, [], ◌++◌, length, Option, Some, None, slice_get, slice_set, option_and_then, if◌then◌else◌}
use Rattle.cc_meaning.specs.declared.value.Value.{Value}
use Rattle.cc_meaning.specs.declared.value.Object.{Object}
use Rattle.cc_meaning.specs.declared.value.Object.TheVariants as object
use Rattle.cc_meaning.specs.declared.report.Event.TheVariants as event
use Rattle.cc_meaning.specs.Words.{words_of, words_of_event}
use Rattle.cc_meaning_run.specs.World.{World}
use Rattle.cc_meaning_run.specs.Acts.{Outcome, Reached, less_by, pay, with_object, with_event, found, noted}

-- The steps, each with what follows on its answer. `Put` writes a field of an instance, `Append` gives a builder units behind those that it has, and `Tell`
-- records that a method of PrintStream printed these units.
pub data Act : Type 0 where
  Done : Outcome → Act
  Make : Object → (ℕ → Act) → Act
  Look : (object : ℕ) → (Object → Act) → Act
  Put : (object field : ℕ) → Value → Act → Act
  Append : (builder : ℕ) → List ℕ → Act → Act
  Tell : (method : ℕ) → List ℕ → Act → Act

unfoldable pub with_object_at : World → ℕ → Object → World
with_object_at w a o = record w { objects = slice_set w.objects a o }

-- an instance with another value in a field that it has
unfoldable pub with_field : ℕ → Value → Object → Option Object
with_field i v (object.Instance class values) = if nat_lt i (length values) then Some (object.Instance class (slice_set values i v)) else None
with_field i v _ = None

-- a builder with more units
unfoldable pub with_units : List ℕ → Object → Option Object
with_units more (object.Builder units) = Some (object.Builder (units ++ more))
with_units more _ = None

-- The steps, done in a world. Words are taken before a thing is made; where too few are left the run stops, and nothing was done. A unit that is appended takes one.
unfoldable pub run_act : Act → World → Reached
run_act (Done o) w = record { outcome = o; world = w; called = [] }
run_act (Make o k) w = pay (less_by (words_of o) w.counters.words) w (λ w'. run_act (k (length w'.objects)) (with_object w' o))
run_act (Look a k) w = found (slice_get w.objects a) w (λ o. run_act (k o) w)
run_act (Put a i v k) w = found (option_and_then (with_field i v) (slice_get w.objects a)) w (λ o. run_act k (with_object_at w a o))
run_act (Append a units k) w =
    found (option_and_then (with_units units) (slice_get w.objects a)) w (λ o.
    pay (less_by (length units) w.counters.words) w (λ w'. run_act k (with_object_at w' a o)))
run_act (Tell m units k) w = pay (less_by (words_of_event (event.Print units)) w.counters.words) w (λ w'. noted m (run_act k (with_event w' (event.Print units))))
