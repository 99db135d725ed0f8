-- The run of a whole program, its invocations and its report.
use Rattle.std.specs.Prelude.{ℕ, zero, suc, ◌-◌, ◌==◌, ◌&&◌, cond, List, [], ◌∷◌, ◌++◌, length, map, Option, Some, None, slice_get, unwrap_or, option_map, encode_utf8_all}
use Rattle.std.specs.Char.Utf16.{utf16_chars}
use Rattle.cc_meaning.specs.declared.program.Program.{Program}
use Rattle.cc_meaning.specs.declared.report.Ending.{Ending}
use Rattle.cc_meaning.specs.declared.report.Ending.TheVariants as ending
use Rattle.cc_meaning.specs.declared.report.Event.{Event}
use Rattle.cc_meaning.specs.declared.report.Event.TheVariants as event
use Rattle.cc_meaning.specs.declared.report.Limits.{Limits}
use Rattle.cc_meaning.specs.declared.report.Report.{Report}
use Rattle.cc_meaning.specs.declared.script.Script.{Script}
use Rattle.cc_meaning.specs.declared.value.Object.{Object}
use Rattle.cc_meaning.specs.declared.value.Object.TheVariants as object
use Rattle.cc_meaning.specs.declared.value.Value.{Value}
use Rattle.cc_meaning.specs.declared.value.Value.TheVariants as value
use Rattle.cc_meaning_world.specs.World.{World, Stack}
use Rattle.cc_meaning_world.specs.Opening.{opening_world, with_arguments}
use Rattle.cc_meaning_exec.specs.Frames.{no_frames}
use Rattle.cc_meaning_exec.specs.Exceptions.{End, Returned, Thrown, Stopped, Jammed, Raised, raised_by}
use Rattle.cc_meaning_exec.specs.Starts.{class_of_main, climb_from}
use Rattle.cc_meaning_exec.specs.Eval.{Ran, ran, Here, Hook, Go, call, starts, opened, eval_with}

-- ---- the run

-- These classes are started, and then a method is called. An exception or a stop in a start is the run's end.
unfoldable pub launched : {T : Type 0} → Hook T → Go T → Script → Program → (method : ℕ) → List Value → List ℕ → World → T → Ran T
launched hook go script p m args cs w t = starts hook go script p no_frames ran (call hook go script p m args no_frames) cs w t

-- the class of `main` is started, and then `main` is called
unfoldable pub run_main : {T : Type 0} → Hook T → Script → Program → (bound : ℕ) → List Value → World → T → Ran T
run_main hook script p n args w t = opened script p ran (launched hook (eval_with hook script p n) script p p.main args) (climb_from p (class_of_main p) w) w t

-- the arguments of the program were made, or there were too few words for them
unfoldable pub begun : {T : Type 0} → Hook T → Script → Program → (bound : ℕ) → End → World → T → Ran T
begun hook script p n (Returned (Some args)) w t = run_main hook script p n (args ∷ []) w t
begun hook script p n (Stopped c) w t = ran (Stopped c) w t
begun hook script p n _ w t = ran Jammed w t

unfoldable pub begun_in : {T : Type 0} → Hook T → Script → Program → (bound : ℕ) → Raised → T → Ran T
begun_in hook script p n r t = begun hook script p n r.end r.world t

-- the world of a run after its arguments were made
unfoldable pub with_made_arguments : Program → List (List ℕ) → Limits → Raised
with_made_arguments p texts limits = raised_by (with_arguments p texts (opening_world p limits))

unfoldable pub run_with : {T : Type 0} → Hook T → Script → Program → List (List ℕ) → Limits → T → Ran T
run_with hook script p texts limits t = begun_in hook script p limits.instructions (with_made_arguments p texts limits) t

-- ---- invocations

-- an invocation: its method, the place of the one that called it, the instructions that it did itself, and the recorded calls and prints that it attempted
pub record Invocation : Type 0 where
  pub method : ℕ
  pub parent : ℕ
  pub instructions : ℕ
  pub calls : List ℕ

-- the invocations so far, in the order of their entries, and the places of those that run, the innermost first
pub record Invocations : Type 0 where
  pub list : List Invocation
  pub running : List ℕ

-- the place of the innermost one that runs; 0 where none does
unfoldable pub innermost : List ℕ → ℕ
innermost [] = 0
innermost (place ∷ outer) = place

unfoldable pub outer_ones : List ℕ → List ℕ
outer_ones [] = []
outer_ones (place ∷ outer) = outer

unfoldable pub with_invocation : ℕ → Invocations → Invocations
with_invocation m is = record {
  list = is.list ++ record { method = m; parent = innermost is.running; instructions = 0; calls = [] } ∷ [];
  running = length is.list ∷ is.running;
}

-- The opening invocation of `main` stands first, before the class of `main` is started, so it isn't added when `main` is entered; no initialiser is `main`.
unfoldable pub entered : (main method : ℕ) → Stack → Invocations → Invocations
entered main m stack is = cond ((m == main) && (stack.depth == 0)) is (with_invocation m is)

unfoldable pub changed_at : ℕ → (Invocation → Invocation) → List Invocation → List Invocation
changed_at place change [] = []
changed_at zero change (i ∷ rest) = change i ∷ rest
changed_at (suc place) change (i ∷ rest) = i ∷ changed_at place change rest

unfoldable pub changed : (Invocation → Invocation) → Invocations → Invocations
changed change is = record is { list = changed_at (innermost is.running) change is.list }

unfoldable pub counted : Invocation → Invocation
counted i = record i { instructions = suc i.instructions }

unfoldable pub calling : ℕ → Invocation → Invocation
calling m i = record i { calls = i.calls ++ m ∷ [] }

unfoldable pub closed : Invocations → Invocations
closed is = record is { running = outer_ones is.running }

-- looks on, and evaluates every method where it is called
unfoldable pub onlooker : (main : ℕ) → Hook Invocations
onlooker main = record {
  entry = λ m args stack w is. Here (entered main m stack is);
  spent = λ m is. changed counted is;
  called = λ m is. changed (calling m) is;
  ended = λ m e w is. closed is;
}

-- the invocation of `main` alone
unfoldable pub opening_invocations : (main : ℕ) → Invocations
opening_invocations main = with_invocation main (record { list = []; running = [] })

-- ---- the report

-- a text in UTF-8, with a question mark for each unit of a pair that has no partner
unfoldable pub utf8_of : List ℕ → List ℕ
utf8_of units = encode_utf8_all (map (λ c. unwrap_or c 63) (utf16_chars units))

-- the output is the UTF-8 of what was printed, each text by itself
unfoldable pub output_of : List Event → List ℕ
output_of [] = []
output_of (event.Print units ∷ rest) = utf8_of units ++ output_of rest
output_of (event.Call m args answer ∷ rest) = output_of rest

-- the recorded calls, in order
unfoldable pub calls_of : List Event → List Event
calls_of [] = []
calls_of (event.Print units ∷ rest) = calls_of rest
calls_of (event.Call m args answer ∷ rest) = event.Call m args answer ∷ calls_of rest

unfoldable pub text_in : Option Object → Option (List ℕ)
text_in (Some (object.Text units)) = Some units
text_in _ = None

unfoldable pub text_at : World → Value → Option (List ℕ)
text_at w (value.Obj (Some a)) = text_in (slice_get w.objects a)
text_at w _ = None

-- an exception's class, and its message, which is its first value
unfoldable pub thrown_ending : World → Option Object → Option Ending
thrown_ending w (Some (object.Instance class (first ∷ rest))) = Some (ending.Thrown class (text_at w first))
thrown_ending w (Some (object.Instance class [])) = Some (ending.Thrown class None)
thrown_ending w _ = None

unfoldable pub ending_of : World → End → Option Ending
ending_of w (Returned v) = Some ending.Returned
ending_of w (Thrown a) = thrown_ending w (slice_get w.objects a)
ending_of w (Stopped c) = Some (ending.Stopped c)
ending_of w Jammed = None

-- the report of a world and an ending: what was spent is what is no longer left
unfoldable pub report_in : Limits → World → Ending → Report
report_in limits w e = record {
  out = output_of w.events;
  calls = calls_of w.events;
  ending = e;
  instructions = limits.instructions - w.counters.instructions;
  words = limits.words - w.counters.words;
}

unfoldable pub report_of : {T : Type 0} → Limits → Ran T → Option Report
report_of limits (ran e w t) = option_map (report_in limits w) (ending_of w e)

unfoldable pub onlooked : Script → Program → List (List ℕ) → Limits → Ran Invocations
onlooked script p texts limits = run_with (onlooker p.main) script p texts limits (opening_invocations p.main)

-- what the run of a program on one heap says; nothing where it meets an operand of the wrong kind, which no well-typed program does
unfoldable pub local : Script → Program → List (List ℕ) → Limits → Option Report
local script p texts limits = report_of limits (onlooked script p texts limits)

unfoldable pub kept_of : {T : Type 0} → Ran T → T
kept_of (ran e w t) = t

-- the invocations of that run, in the order of their entries; main's opening one comes first, also where initialisers ran before it or kept it from its entry
unfoldable pub invocations : Script → Program → List (List ℕ) → Limits → List Invocation
invocations script p texts limits = (kept_of (onlooked script p texts limits)).list
