-- What is written to a world: all changes that a run makes to one are these.
use Rattle.std.specs.Prelude.{ℕ, zero, suc, cond, nat_lt, ◌==◌, List, [], ◌∷◌, ◌++◌, length, Option, Some, None, slice_set, unwrap_or, slice_get}
use Rattle.cc_meaning.specs.declared.report.Answer.{Answer}
use Rattle.cc_meaning.specs.declared.report.Arg.{Arg}
use Rattle.cc_meaning.specs.declared.report.Event.{Event}
use Rattle.cc_meaning.specs.declared.report.Event.TheVariants as event
use Rattle.cc_meaning.specs.declared.value.Made.{Made}
use Rattle.cc_meaning.specs.declared.value.Object.{Object}
use Rattle.cc_meaning.specs.declared.value.Object.TheVariants as object
use Rattle.cc_meaning.specs.declared.value.Value.{Value}
use Rattle.cc_meaning_world.specs.World.{World}

-- ---- counters

-- what is left of n where k are taken, or nothing where too few are left
unfoldable pub less_by : ℕ → ℕ → Option ℕ
less_by zero n = Some n
less_by (suc k) zero = None
less_by (suc k) (suc n) = less_by k n

unfoldable pub with_instructions : World → ℕ → World
with_instructions w n = record w { counters = record w.counters { instructions = n } }

unfoldable pub with_words : World → ℕ → World
with_words w n = record w { counters = record w.counters { words = n } }

unfoldable pub with_statuses : World → List ℕ → World
with_statuses w statuses = record w { counters = record w.counters { statuses = statuses } }

unfoldable pub with_status : World → (class status : ℕ) → World
with_status w class status = with_statuses w (slice_set w.counters.statuses class status)

-- ---- objects

-- a new object is the last one
unfoldable pub with_object : World → Object → World
with_object w o = record w { objects = w.objects ++ o ∷ [] }

unfoldable pub with_objects : World → List Object → World
with_objects w os = record w { objects = w.objects ++ os }

unfoldable pub with_object_at : World → ℕ → Object → World
with_object_at w a o = record w { objects = slice_set w.objects a o }

unfoldable pub values_set : List Value → ℕ → Value → Option (List Value)
values_set values i v = cond (nat_lt i (length values)) (Some (slice_set values i v)) None

unfoldable pub rebuilt : (List Value → Object) → Option (List Value) → Option Object
rebuilt form None = None
rebuilt form (Some values) = Some (form values)

-- an instance or an array with another value at a place that it has
unfoldable pub with_value : ℕ → Value → Object → Option Object
with_value i v (object.Instance class values) = rebuilt (object.Instance class) (values_set values i v)
with_value i v (object.Array class values) = rebuilt (object.Array class) (values_set values i v)
with_value i v _ = None

unfoldable pub put_in : ℕ → Value → Option Object → Option Object
put_in i v None = None
put_in i v (Some o) = with_value i v o

-- a builder with more units
unfoldable pub more_units : List ℕ → Option Object → Option Object
more_units more (Some (object.Builder units)) = Some (object.Builder (units ++ more))
more_units more _ = None

-- ---- statics, literals and class constants

unfoldable pub with_static : World → ℕ → Value → World
with_static w f v = record w { statics = slice_set w.statics f v }

-- the object that was made for a number
unfoldable pub number_for : ℕ → List Made → Option ℕ
number_for what [] = None
number_for what (m ∷ rest) = cond (m.what == what) (Some m.number) (number_for what rest)

-- what was made is noted, by rising `what`
unfoldable pub noted_made : Made → List Made → List Made
noted_made new [] = new ∷ []
noted_made new (m ∷ ms) = cond (nat_lt new.what m.what) (new ∷ m ∷ ms) (m ∷ noted_made new ms)

unfoldable pub with_literal : ℕ → World → ℕ → World
with_literal text w n = record w { literals = noted_made (record { what = text; number = n }) w.literals }

unfoldable pub with_constant : ℕ → World → ℕ → World
with_constant class w n = record w { constants = noted_made (record { what = class; number = n }) w.constants }

-- ---- events

unfoldable pub with_event : World → Event → World
with_event w e = record w { events = w.events ++ e ∷ [] }

-- how many answers of a class were taken
unfoldable pub cursor_at : World → ℕ → ℕ
cursor_at w class = unwrap_or (slice_get w.cursors class) 0

-- the next answer of a class is taken, and the call that it answers recorded: the cursor and the events change together
unfoldable pub with_answer : World → (class method : ℕ) → List Arg → Answer → World
with_answer w class m args answer =
    record w { cursors = slice_set w.cursors class (suc (cursor_at w class)); events = w.events ++ event.Call m args answer ∷ [] }
