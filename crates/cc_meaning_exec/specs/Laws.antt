-- The laws of the meaning: statements, which a crate above proves.
use Rattle.std.specs.Prelude.{◌≡◌, ◌≤◌, ◌<◌, ◌⊎◌, ℕ, zero, suc, ◌+◌, ◌==◌, cond, Bool, List, [], ◌∷◌, ◌++◌, map, slice_get, Option, Some, None}
use Rattle.cc_meaning.specs.declared.program.Method.{Method}
use Rattle.cc_meaning.specs.declared.program.Program.{Program}
use Rattle.cc_meaning.specs.declared.report.Event.{Event}
use Rattle.cc_meaning.specs.declared.report.Event.TheVariants as event
use Rattle.cc_meaning.specs.declared.script.Script.{Script}
use Rattle.cc_meaning.specs.declared.value.Value.{Value}
use Rattle.cc_meaning.specs.Words.{words_of_objects, words_of_events}
use Rattle.cc_meaning_world.specs.World.{World, Stack}
use Rattle.cc_meaning_world.specs.Changes.{cursor_at}
use Rattle.cc_meaning_world.specs.Scripts.{class_asked}
use Rattle.cc_meaning_world.specs.Acts.{Act, run_act}
use Rattle.cc_meaning_exec.specs.Frames.{Frame}
use Rattle.cc_meaning_exec.specs.Eval.{Ran, ran, Reply, Here, Answer, Hook, eval_with}
use Rattle.cc_meaning_exec.specs.Runs.{run_main}
use Rattle.cc_meaning_exec.specs.States.{State, world_of, GoesOn, Mark, Called}
use Rattle.cc_meaning_exec.specs.Steps.{step, opening, Tells, Leads}
use Rattle.cc_meaning_exec.specs.Rest.{rest}
use Rattle.cc_meaning_exec.specs.Traces.{spent_in, steps_in, first_told, calls_by, last_told, weight}

-- ---- bound

-- an answer has at most n instructions left
abbrev pub KeepsLeft : {T : Type 0} → ℕ → Reply T → Type 0
KeepsLeft n (Here t) = Unit {0}
KeepsLeft n (Answer e w t) = w.counters.instructions ≤ n

-- no answer of the hook gives instructions back
abbrev pub HookSpends : {T : Type 0} → Hook T → Type 0
HookSpends {T} hook = (m : ℕ) (args : List Value) (stack : Stack) (w : World) (t : T) → KeepsLeft w.counters.instructions (hook.entry m args stack w t)

-- any bound that is large enough gives the same
abbrev pub BoundFree : {T : Type 0} → Hook T → Script → Program → Type 0
BoundFree {T} hook script p = (n k : ℕ) (f : Frame) (w : World) (t : T) → w.counters.instructions ≤ n → w.counters.instructions ≤ k →
    eval_with hook script p n f w t ≡ eval_with hook script p k f w t

-- ---- conservation

-- what a world has left of words, and what its objects and events take, together
abbrev pub words_held : World → ℕ
words_held w = w.counters.words + (words_of_objects w.objects + words_of_events w.events)

abbrev pub ran_world : {T : Type 0} → Ran T → World
ran_world (ran e w t) = w

abbrev pub KeepsWords : {T : Type 0} → ℕ → Reply T → Type 0
KeepsWords n (Here t) = Unit {0}
KeepsWords n (Answer e w t) = words_held w ≡ n

abbrev pub HookConserves : {T : Type 0} → Hook T → Type 0
HookConserves {T} hook = (m : ℕ) (args : List Value) (stack : Stack) (w : World) (t : T) → KeepsWords (words_held w) (hook.entry m args stack w t)

-- the steps of an act leave the sum of words as it was: what is made is paid, and what is paid is made
abbrev pub ActConserves : Script → Program → Type 0
ActConserves script p = (act : Act) (w : World) → words_held (run_act script p act w).world ≡ words_held w

-- and so does each method, to its end
abbrev pub Conserves : {T : Type 0} → Hook T → Script → Program → Type 0
Conserves {T} hook script p = (n : ℕ) (f : Frame) (w : World) (t : T) → words_held (ran_world (eval_with hook script p n f w t)) ≡ words_held w

-- ---- cursors follow events

-- how many recorded calls are of methods of a class
abbrev pub answers_in : Program → (class : ℕ) → List Event → ℕ
answers_in p class [] = 0
answers_in p class (event.Print units ∷ events) = answers_in p class events
answers_in p class (event.Call m args answer ∷ events) = cond (class_asked p m == class) 1 0 + answers_in p class events

-- A world goes on from another: events were added, and the cursor of each class has advanced by those of its recorded calls. Cursors that aren't there stay away.
pub record FollowsEvents (p : Program) (before after : World) : Type 0 where
  pub added : List Event
  pub events : after.events ≡ before.events ++ added
  pub cursors : (class cursor : ℕ) → slice_get before.cursors class ≡ Some cursor → slice_get after.cursors class ≡ Some (cursor + answers_in p class added)

-- an answer of the hook has cursors that follow its events
abbrev pub KeepsCursors : {T : Type 0} → Program → World → Reply T → Type 0
KeepsCursors p w (Here t) = Unit {0}
KeepsCursors p w (Answer e w' t) = FollowsEvents p w w'

abbrev pub HookFollows : {T : Type 0} → Hook T → Program → Type 0
HookFollows {T} hook p = (m : ℕ) (args : List Value) (stack : Stack) (w : World) (t : T) → KeepsCursors p w (hook.entry m args stack w t)

-- the cursors advance by the events alone, also in a run that is stopped
abbrev pub CursorsFollow : {T : Type 0} → Hook T → Script → Program → Type 0
CursorsFollow {T} hook script p = (n : ℕ) (f : Frame) (w : World) (t : T) → FollowsEvents p w (ran_world (eval_with hook script p n f w t))

-- ---- a run that is paused

-- a step leaves what is left to do as it was, with what the hook was told
abbrev pub StepKeeps : {T : Type 0} → Hook T → Script → Program → Type 0
StepKeeps {T} hook script p = (n : ℕ) (st : State) (t t' : T) → (world_of st).counters.instructions ≤ n → Tells hook (step script p st).marks t t' →
    (rest hook script p n st t ≡ rest hook script p n (step script p st).state t') × ((world_of (step script p st).state).counters.instructions ≤ n)

-- and so do many
abbrev pub RunKeeps : {T : Type 0} → Hook T → Script → Program → Type 0
RunKeeps {T} hook script p = (n : ℕ) (st st' : State) (marks : List Mark) (t t' : T) → (world_of st).counters.instructions ≤ n → Leads script p st marks st' → Tells hook marks t t' →
    (rest hook script p n st t ≡ rest hook script p n st' t') × ((world_of st').counters.instructions ≤ n)

-- a run begins with all of it left to do
abbrev pub OpeningIsMain : {T : Type 0} → Hook T → Script → Program → Type 0
OpeningIsMain {T} hook script p = (n : ℕ) (args : List Value) (w : World) (t : T) → rest hook script p n (opening script p args w) t ≡ run_main hook script p n args w t

-- each step brings a run nearer its end
abbrev pub StepFalls : Script → Program → Type 0
StepFalls script p = (st : State) → GoesOn st → weight (step script p st).state < weight st

-- what a step tells: it begins, attempts recorded calls and prints, and may end a method
abbrev pub StepTells : Script → Program → Type 0
StepTells script p = (st : State) → (step script p st).marks ≡ first_told st ++ (map Called (calls_by script p st) ++ last_told script p st)

-- whichever way a run is cut, it comes nearer its end by what it spends and enters
abbrev pub LeadsFall : Script → Program → Type 0
LeadsFall script p = (st st' : State) (marks : List Mark) → Leads script p st marks st' → weight st' + steps_in marks ≤ weight st

-- what a run spends is what is no longer left
abbrev pub LeadsSpend : Script → Program → Type 0
LeadsSpend script p = (st st' : State) (marks : List Mark) → Leads script p st marks st' →
    (world_of st').counters.instructions + spent_in marks ≡ (world_of st).counters.instructions
