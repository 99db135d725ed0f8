-- The record of a scripted call: its arguments as they are shown, and the words that it takes with its answer.
use Rattle.std.specs.Prelude.{ℕ, ◌+◌, sum_by, option_map, List, [], ◌∷◌, Option, Some, None, slice_get, unwrap_or}
use Rattle.cc_meaning.specs.declared.program.Program.{Program}
use Rattle.cc_meaning.specs.declared.report.Answer.{Answer}
use Rattle.cc_meaning.specs.declared.report.Answer.TheVariants as answer
use Rattle.cc_meaning.specs.declared.report.Arg.{Arg}
use Rattle.cc_meaning.specs.declared.report.Arg.TheVariants as arg
use Rattle.cc_meaning.specs.declared.report.Event.TheVariants as event
use Rattle.cc_meaning.specs.declared.value.Object.{Object}
use Rattle.cc_meaning.specs.declared.value.Object.TheVariants as object
use Rattle.cc_meaning.specs.declared.value.Value.{Value}
use Rattle.cc_meaning.specs.declared.value.Value.TheVariants as value
use Rattle.cc_meaning.specs.Lookup.{class_of_object}
use Rattle.cc_meaning.specs.Words.{words_of, words_of_event}
use Rattle.cc_meaning_world.specs.Layouts.{new_object}

-- a text stands with its units, and every other object by its class; no object's number is shown
unfoldable pub shown : Program → Object → Arg
shown p (object.Text units) = arg.Text units
shown p o = arg.Instance (unwrap_or (class_of_object p o) 0)

unfoldable pub arg_of : Program → List Object → Value → Option Arg
arg_of p objects (value.Int n) = Some (arg.Int n)
arg_of p objects (value.Long n) = Some (arg.Long n)
arg_of p objects (value.Obj None) = Some arg.Null
arg_of p objects (value.Obj (Some a)) = option_map (shown p) (slice_get objects a)

unfoldable pub before : Option Arg → Option (List Arg) → Option (List Arg)
before (Some a) (Some as') = Some (a ∷ as')
before _ _ = None

-- the arguments of a call as its record shows them, the receiver first
unfoldable pub args_of : Program → List Object → List Value → Option (List Arg)
args_of p objects [] = Some []
args_of p objects (v ∷ vs) = before (arg_of p objects v) (args_of p objects vs)

-- the object that an answer makes: a text, an instance, or an exception without a message
unfoldable pub made_by : Program → Answer → List Object
made_by p (answer.Text units) = object.Text units ∷ []
made_by p (answer.Instance class) = new_object p class ∷ []
made_by p (answer.Throws class) = new_object p class ∷ []
made_by p _ = []

-- the words of the object that an answer makes
unfoldable pub words_made : Program → Answer → ℕ
words_made p a = sum_by words_of (made_by p a)

-- the words of a record and of the object that its answer makes, which are paid in one step
unfoldable pub words_recorded : Program → ℕ → List Arg → Answer → ℕ
words_recorded p m args a = words_of_event (event.Call m args a) + words_made p a
