-- What an instruction does, as the steps that it asks of the world. Nothing else reads or writes the world.
use Rattle.std.specs.Prelude.{ℕ, zero, suc, List, [], ◌∷◌, ◌++◌, length, Option, Some, None, slice_get}
use Rattle.cc_meaning.specs.declared.value.Value.{Value}
use Rattle.cc_meaning.specs.declared.value.Object.{Object}
use Rattle.cc_meaning.specs.declared.report.StopCause.{StopCause}
use Rattle.cc_meaning.specs.declared.report.StopCause.TheVariants as cause
use Rattle.cc_meaning.specs.declared.report.Event.{Event}
use Rattle.cc_meaning.specs.declared.report.Event.TheVariants as event
use Rattle.cc_meaning.specs.Words.{words_of, words_of_event}
use Rattle.cc_meaning_run.specs.World.{World, Locals}

-- Where an instruction leads: on in the method, into a method's body, to an end of the method, to a stop of the run. `Stuck` is an operand of the wrong kind.
pub data Outcome : Type 0 where
  Next : (pc : ℕ) → Locals → Outcome
  Enter : (method : ℕ) → List Value → (next : ℕ) → Outcome
  Returns : Option Value → Outcome
  Throws : (object : ℕ) → Outcome
  Stops : StopCause → Outcome
  Stuck : Outcome

-- The steps, each with what follows on its answer. `Tell` records that a method of PrintStream printed these units.
pub data Act : Type 0 where
  Done : Outcome → Act
  Make : Object → (ℕ → Act) → Act
  Look : (object : ℕ) → (Object → Act) → Act
  GetStatic : (field : ℕ) → (Value → Act) → Act
  GetStatus : (class : ℕ) → (ℕ → Act) → Act
  Tell : (method : ℕ) → List ℕ → Act → Act

-- where the steps led, the world after them, and the methods whose calls they recorded
pub record Reached : Type 0 where
  pub outcome : Outcome
  pub world : World
  pub called : List ℕ

-- ---- words

-- what is left of n where k are taken, or nothing where too few are left
unfoldable pub less_by : ℕ → ℕ → Option ℕ
less_by zero n = Some n
less_by (suc k) zero = None
less_by (suc k) (suc n) = less_by k n

unfoldable pub with_words : World → ℕ → World
with_words w n = record w { counters = record w.counters { words = n } }

-- words are taken before a thing is made; where too few are left the run stops
unfoldable pub pay : Option ℕ → World → (World → Reached) → Reached
pay None w go = record { outcome = Stops cause.Heap; world = w; called = [] }
pay (Some n) w go = go (with_words w n)

-- ---- the steps, done in a world

unfoldable pub with_object : World → Object → World
with_object w o = record w { objects = w.objects ++ o ∷ [] }

unfoldable pub with_event : World → Event → World
with_event w e = record w { events = w.events ++ e ∷ [] }

unfoldable pub found : {A : Type 0} → Option A → World → (A → Reached) → Reached
found None w go = record { outcome = Stuck; world = w; called = [] }
found (Some x) w go = go x

-- a call was recorded before the rest
unfoldable pub noted : ℕ → Reached → Reached
noted method r = record r { called = method ∷ r.called }

unfoldable pub run_act : Act → World → Reached
run_act (Done o) w = record { outcome = o; world = w; called = [] }
run_act (Make o k) w = pay (less_by (words_of o) w.counters.words) w (λ w'. run_act (k (length w'.objects)) (with_object w' o))
run_act (Look a k) w = found (slice_get w.objects a) w (λ o. run_act (k o) w)
run_act (GetStatic i k) w = found (slice_get w.statics i) w (λ v. run_act (k v) w)
run_act (GetStatus c k) w = found (slice_get w.counters.statuses c) w (λ status. run_act (k status) w)
run_act (Tell m units k) w = pay (less_by (words_of_event (event.Print units)) w.counters.words) w (λ w'. noted m (run_act k (with_event w' (event.Print units))))
