-- What an instruction or a built-in method does, as the steps that it asks of the world. Nothing else of either reads or writes the world.
use Rattle.std.specs.Prelude.{ℕ, List, [], ◌∷◌, length, Option, Some, None, slice_get}
use Rattle.cc_meaning.specs.declared.program.DexType.{DexType}
use Rattle.cc_meaning.specs.declared.program.Program.{Program}
use Rattle.cc_meaning.specs.declared.report.Answer.{Answer}
use Rattle.cc_meaning.specs.declared.report.Answer.TheVariants as answer
use Rattle.cc_meaning.specs.declared.report.Arg.{Arg}
use Rattle.cc_meaning.specs.declared.report.Event.TheVariants as event
use Rattle.cc_meaning.specs.declared.report.StopCause.{StopCause}
use Rattle.cc_meaning.specs.declared.report.StopCause.TheVariants as cause
use Rattle.cc_meaning.specs.declared.script.Script.{Script}
use Rattle.cc_meaning.specs.declared.value.Object.{Object}
use Rattle.cc_meaning.specs.declared.value.Object.TheVariants as object
use Rattle.cc_meaning.specs.declared.value.Value.{Value}
use Rattle.cc_meaning.specs.declared.value.Value.TheVariants as value
use Rattle.cc_meaning.specs.Words.{words_of, words_of_event}
use Rattle.cc_meaning_world.specs.World.{World, Locals}
use Rattle.cc_meaning_world.specs.Sorts.{sort_of, type_of}
use Rattle.cc_meaning_world.specs.Layouts.{new_object}
use Rattle.cc_meaning_world.specs.Changes.{less_by, with_words, with_object, with_object_at, put_in, more_units, with_static, number_for, with_literal, with_constant, with_event, cursor_at, with_answer}
use Rattle.cc_meaning_world.specs.Scripts.{class_asked, free_answer, NextAnswer, Gives, Ended, Other, next_answer, script_end, script_other}
use Rattle.cc_meaning_world.specs.Recorded.{args_of, words_made, words_recorded}

-- Where an instruction leads: on in the method, into a method's body, to an end of the method, to a stop of the run. `Stuck` is an operand of the wrong kind,
-- which well-typed code never meets.
pub data Outcome : Type 0 where
  Next : (pc : ℕ) → Locals → Outcome
  Enter : (method : ℕ) → List Value → (next : ℕ) → Outcome
  Returns : Option Value → Outcome
  Throws : (object : ℕ) → Outcome
  Stops : StopCause → Outcome
  Stuck : Outcome

-- The steps, each with what follows on its answer: an object is made; its contents are read, or its type alone; a field or an element is written; a builder
-- gets units behind those that it has; a static is read or written; the object of a literal or of a class constant is looked up, and made where there is none;
-- a scripted method is asked; a print of a method of PrintStream is recorded.
pub data Act : Type 0 where
  Done : Outcome → Act
  Make : Object → (ℕ → Act) → Act
  Look : (object : ℕ) → (Object → Act) → Act
  ClassOf : (object : ℕ) → (DexType → Act) → Act
  Put : (object place : ℕ) → Value → Act → Act
  Append : (builder : ℕ) → List ℕ → Act → Act
  GetStatic : (field : ℕ) → (Value → Act) → Act
  PutStatic : (field : ℕ) → Value → Act → Act
  Literal : (text : ℕ) → (ℕ → Act) → Act
  ClassConstant : (class : ℕ) → (ℕ → Act) → Act
  Ask : (method : ℕ) → List Value → (Option Value → Act) → Act
  Tell : (method : ℕ) → List ℕ → Act → Act

-- where the steps led, the world after them, and the methods of the recorded calls and prints that they attempted
pub record Reached : Type 0 where
  pub outcome : Outcome
  pub world : World
  pub called : List ℕ

unfoldable pub arrived : Outcome → World → Reached
arrived o w = record { outcome = o; world = w; called = [] }

-- ---- what a step takes and finds

-- words are taken before a thing is made; where too few are left the run stops, with nothing done
unfoldable pub pay : Option ℕ → World → (World → Reached) → Reached
pay None w go = arrived (Stops cause.Heap) w
pay (Some n) w go = go (with_words w n)

-- goes on in a world that has so many words fewer
unfoldable pub paying : ℕ → World → (World → Reached) → Reached
paying n w go = pay (less_by n w.counters.words) w go

unfoldable pub found : {A : Type 0} → Option A → World → (A → Reached) → Reached
found None w go = arrived Stuck w
found (Some x) w go = go x

-- a recorded call or print is attempted: it is noted before its words are taken, and whether or not it comes to be
unfoldable pub noted : ℕ → Reached → Reached
noted method r = record r { called = method ∷ r.called }

-- ---- literals and class constants

unfoldable pub units_of : Option (List ℕ) → List ℕ
units_of None = []
units_of (Some units) = units

-- goes on with what was made for a number, or with a new object that is noted
unfoldable pub or_make : Option ℕ → Object → (World → ℕ → World) → World → (ℕ → World → Reached) → Reached
or_make (Some n) o note w go = go n w
or_make None o note w go = paying (words_of o) w (λ w'. go (length w'.objects) (note (with_object w' o) (length w'.objects)))

-- ---- scripted calls

-- what follows an answer that was paid: a value, a new object, or a new exception that is thrown
unfoldable pub given : Program → (Option Value → World → Reached) → Answer → World → Reached
given p go answer.Nothing w = go None w
given p go (answer.Int n) w = go (Some (value.Int n)) w
given p go (answer.Long n) w = go (Some (value.Long n)) w
given p go answer.Null w = go (Some (value.Obj None)) w
given p go (answer.Text units) w = go (Some (value.Obj (Some (length w.objects)))) (with_object w (object.Text units))
given p go (answer.Instance class) w = go (Some (value.Obj (Some (length w.objects)))) (with_object w (new_object p class))
given p go (answer.Throws class) w = arrived (Throws (length w.objects)) (with_object w (new_object p class))

-- a free method gives its fixed answer, with no record
unfoldable pub freely : Program → (Option Value → World → Reached) → Answer → World → Reached
freely p go a w = paying (words_made p a) w (given p go a)

-- The next answer of a class is taken: its record and the object that it makes are paid in one step, and behind that the cursor, the record and the object
-- come. Where there is no answer, or one for another method, the run stops.
unfoldable pub answered : Program → (Option Value → World → Reached) → (class method : ℕ) → List Arg → World → NextAnswer → Reached
answered p go class m args w (Gives a) = paying (words_recorded p m args a) w (λ w'. given p go a (with_answer w' class m args a))
answered p go class m args w Ended = arrived (Stops (script_end class)) w
answered p go class m args w (Other other) = arrived (Stops (script_other class m other)) w

unfoldable pub asked : Script → Program → (Option Value → World → Reached) → ℕ → List Value → World → Option Answer → Reached
asked script p go m args w (Some a) = freely p go a w
asked script p go m args w None =
    noted m (found (args_of p w.objects args) w (λ shown. answered p go (class_asked p m) m shown w (next_answer script p m (cursor_at w (class_asked p m)))))

-- ---- the steps, done in a world

unfoldable pub run_act : Script → Program → Act → World → Reached
run_act script p (Done o) w = arrived o w
run_act script p (Make o k) w = paying (words_of o) w (λ w'. run_act script p (k (length w'.objects)) (with_object w' o))
run_act script p (Look a k) w = found (slice_get w.objects a) w (λ o. run_act script p (k o) w)
run_act script p (ClassOf a k) w = found (slice_get w.objects a) w (λ o. run_act script p (k (type_of p (sort_of o))) w)
run_act script p (Put a i v k) w = found (put_in i v (slice_get w.objects a)) w (λ o. run_act script p k (with_object_at w a o))
run_act script p (Append a units k) w = found (more_units units (slice_get w.objects a)) w (λ o. paying (length units) w (λ w'. run_act script p k (with_object_at w' a o)))
run_act script p (GetStatic f k) w = found (slice_get w.statics f) w (λ v. run_act script p (k v) w)
run_act script p (PutStatic f v k) w = run_act script p k (with_static w f v)
run_act script p (Literal text k) w = or_make (number_for text w.literals) (object.Text (units_of (slice_get p.texts text))) (with_literal text) w (λ n w'. run_act script p (k n) w')
run_act script p (ClassConstant class k) w = or_make (number_for class w.constants) (object.Constant class) (with_constant class) w (λ n w'. run_act script p (k n) w')
run_act script p (Ask m args k) w = asked script p (λ v w'. run_act script p (k v) w') m args w (free_answer script p m)
run_act script p (Tell m units k) w = noted m (paying (words_of_event (event.Print units)) w (λ w'. run_act script p k (with_event w' (event.Print units))))
