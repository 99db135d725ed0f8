-- Words: the measure of what a heap and a recording take. They are taken as a thing is made, and never come back.
use Rattle.std.specs.Prelude.{ℕ, ◌+◌, List, length, sum_by}
use Rattle.cc_meaning.specs.declared.value.Object.{Object}
use Rattle.cc_meaning.specs.declared.value.Object.TheVariants as object
use Rattle.cc_meaning.specs.declared.report.Answer.{Answer}
use Rattle.cc_meaning.specs.declared.report.Answer.TheVariants as answer
use Rattle.cc_meaning.specs.declared.report.Arg.{Arg}
use Rattle.cc_meaning.specs.declared.report.Arg.TheVariants as arg
use Rattle.cc_meaning.specs.declared.report.Event.{Event}
use Rattle.cc_meaning.specs.declared.report.Event.TheVariants as event

-- what an object takes: two, and one per field, element or unit that it holds; System.out takes none
abbrev pub words_of : Object → ℕ
words_of object.Out = 0
words_of (object.Instance class values) = 2 + length values
words_of (object.Array class values) = 2 + length values
words_of (object.Text units) = 2 + length units
words_of (object.Builder units) = 2 + length units
words_of (object.Constant class) = 2

-- what the objects of a heap take together
abbrev pub words_of_objects : List Object → ℕ
words_of_objects objects = sum_by words_of objects

-- the units of a text among the arguments of a recorded call
abbrev pub units_of_argument : Arg → ℕ
units_of_argument (arg.Text units) = length units
units_of_argument _ = 0

-- the units of an answer that is a text
abbrev pub units_of_answer : Answer → ℕ
units_of_answer (answer.Text units) = length units
units_of_answer _ = 0

-- what a recorded call takes before its answer: two, one per argument, and one per unit of a text among them
abbrev pub words_of_call : List Arg → ℕ
words_of_call args = 2 + length args + sum_by units_of_argument args

-- what a recording takes: a print two and one per unit, a line feed too; a call what it takes before its answer, and one per unit of a text that answers it
abbrev pub words_of_event : Event → ℕ
words_of_event (event.Print units) = 2 + length units
words_of_event (event.Call method args answer) = words_of_call args + units_of_answer answer

-- what the recordings of a run take together
abbrev pub words_of_events : List Event → ℕ
words_of_events events = sum_by words_of_event events
