-- What a trace has in it, what one step adds, and how far a run is from its end.
use Rattle.std.specs.Prelude.{ℕ, zero, suc, ◌+◌, ◌*◌, List, [], ◌∷◌, length, Option, Some, None}
use Rattle.cc_meaning.specs.declared.program.Program.{Program}
use Rattle.cc_meaning.specs.declared.script.Script.{Script}
use Rattle.cc_meaning_world.specs.World.{World}
use Rattle.cc_meaning_exec.specs.Exceptions.{Returned, Thrown, Stopped, Jammed}
use Rattle.cc_meaning_exec.specs.Eval.{acts_at}
use Rattle.cc_meaning_exec.specs.States.{Wait, Result, Start, Waiting, Base, Bare, Opening, Frames, State, Running, Starting, Calling, Ending, Launching, Mark, Entered, Spent, Called, Ended}
use Rattle.cc_meaning_exec.specs.Steps.{step}

-- ---- what a trace has in it

-- how many instructions were spent
abbrev pub spent_in : List Mark → ℕ
spent_in [] = 0
spent_in (Entered m args stack w ∷ marks) = spent_in marks
spent_in (Spent m ∷ marks) = suc (spent_in marks)
spent_in (Called m ∷ marks) = spent_in marks
spent_in (Ended m e w ∷ marks) = spent_in marks

-- and how many methods were entered besides
abbrev pub steps_in : List Mark → ℕ
steps_in [] = 0
steps_in (Entered m args stack w ∷ marks) = suc (steps_in marks)
steps_in (Spent m ∷ marks) = suc (steps_in marks)
steps_in (Called m ∷ marks) = steps_in marks
steps_in (Ended m e w ∷ marks) = steps_in marks

abbrev pub Each : (Mark → Type 0) → List Mark → Type 0
Each P [] = Unit {0}
Each P (m ∷ marks) = P m × Each P marks

-- ---- what one step tells

abbrev pub spends : (method left : ℕ) → List Mark
spends m zero = []
spends m (suc k) = Spent m ∷ []

-- what it tells first
abbrev pub first_told : State → List Mark
first_told (Running f frames w) = spends f.method w.counters.instructions
first_told (Starting cs f frames w) = []
first_told (Calling m args stack frames w) = Entered m args stack w ∷ []
first_told (Ending e frames w) = []
first_told (Launching cs m args w) = []

-- the recorded calls and prints that it attempts
abbrev pub calls_by : Script → Program → State → List ℕ
calls_by script p (Running f frames w) = []
calls_by script p (Starting [] f frames w) = (acts_at script p f w).called
calls_by script p (Starting (c ∷ cs) f frames w) = []
calls_by script p (Calling m args stack frames w) = []
calls_by script p (Ending e frames w) = []
calls_by script p (Launching cs m args w) = []

abbrev pub top_of : List Waiting → Option ℕ
top_of [] = None
top_of (x ∷ xs) = Some x.frame.method

-- the method that ends where a step ends one
abbrev pub leaver : State → Option ℕ
leaver (Running f frames w) = Some f.method
leaver (Starting cs f frames w) = Some f.method
leaver (Calling m args stack frames w) = Some m
leaver (Ending e frames w) = top_of frames.waiting
leaver (Launching cs m args w) = None

-- what it tells last, where it leads to this state
abbrev pub ended_by : Option ℕ → State → List Mark
ended_by None st = []
ended_by (Some m) (Ending (Returned v) frames w) = Ended m (Returned v) w ∷ []
ended_by (Some m) (Ending (Thrown a) frames w) = Ended m (Thrown a) w ∷ []
ended_by (Some m) (Ending (Stopped c) frames w) = []
ended_by (Some m) (Ending Jammed frames w) = []
ended_by (Some m) (Running f frames w) = []
ended_by (Some m) (Starting cs f frames w) = []
ended_by (Some m) (Calling m' args stack frames w) = []
ended_by (Some m) (Launching cs m' args w) = []

abbrev pub last_told : Script → Program → State → List Mark
last_told script p st = ended_by (leaver st) (step script p st).state

-- ---- how far a run is from its end

-- how many classes are not started
unfoldable pub idle_in : List ℕ → ℕ
idle_in [] = 0
idle_in (zero ∷ statuses) = suc (idle_in statuses)
idle_in (suc n ∷ statuses) = idle_in statuses

unfoldable pub wait_cost : Wait → ℕ
wait_cost (Result next) = 2
wait_cost (Start c cs) = 6 + 4 * length cs

unfoldable pub base_cost : Base → ℕ
base_cost Bare = 0
base_cost (Opening c cs m args) = 6 + 4 * length cs

unfoldable pub waits_cost : List Waiting → ℕ
waits_cost [] = 0
waits_cost (x ∷ xs) = wait_cost x.wait + waits_cost xs

unfoldable pub frames_cost : Frames → ℕ
frames_cost frames = waits_cost frames.waiting + base_cost frames.base

abbrev pub world_cost : World → ℕ
world_cost w = 5 * w.counters.instructions + 4 * idle_in w.counters.statuses

-- it falls with each step
unfoldable pub weight : State → ℕ
weight (Running f frames w) = world_cost w + frames_cost frames + 1
weight (Starting cs f frames w) = world_cost w + frames_cost frames + 5 + 4 * length cs
weight (Calling m args stack frames w) = world_cost w + frames_cost frames + 2
weight (Ending e frames w) = world_cost w + frames_cost frames
weight (Launching cs m args w) = world_cost w + 5 + 4 * length cs
