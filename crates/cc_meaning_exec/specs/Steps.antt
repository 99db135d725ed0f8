-- A run in small steps, which know no hook: each has a state and the marks that it leaves.
use Rattle.std.specs.Prelude.{◌≡◌, ℕ, zero, suc, List, [], ◌∷◌, ◌++◌, Option, Some, None, Bool, true, false}
use Rattle.cc_meaning.specs.declared.program.Program.{Program}
use Rattle.cc_meaning.specs.declared.report.StopCause.{StopCause}
use Rattle.cc_meaning.specs.declared.report.StopCause.TheVariants as cause
use Rattle.cc_meaning.specs.declared.script.Script.{Script}
use Rattle.cc_meaning.specs.declared.value.Value.{Value}
use Rattle.cc_meaning_world.specs.World.{World, Stack}
use Rattle.cc_meaning_world.specs.Changes.{with_instructions, with_status, with_statuses}
use Rattle.cc_meaning_world.specs.Acts.{Outcome, Next, Enter, Returns, Throws, Stops, Stuck, Reached}
use Rattle.cc_meaning_exec.specs.Frames.{Frame, moved, resumed, handling, frame_for, room_for, no_frames}
use Rattle.cc_meaning_exec.specs.Exceptions.{End, Returned, Thrown, Stopped, Jammed, Raised, overflow, handler_for}
use Rattle.cc_meaning_exec.specs.Starts.{ready, Climbed, class_of_main, climb_from, starting, put_statics, initialiser_of, start_failed, start_refused}
use Rattle.cc_meaning_exec.specs.Eval.{Here, Hook, acts_at}
use Rattle.cc_meaning_exec.specs.States.{Wait, Result, Start, Waiting, Base, Bare, Opening, Frames, standing, bottom, waits_for, over, State, Running, Starting, Calling, Ending, Launching, Mark, Entered, Spent, Called, Ended}

pub record Stepped : Type 0 where
  pub marks : List Mark
  pub state : State

abbrev pub quiet : State → Stepped
quiet st = record { marks = []; state = st }

abbrev pub marked : Mark → Stepped → Stepped
marked m r = record { marks = m ∷ r.marks; state = r.state }

-- a stop is the run's end, whichever frames wait; and so is an operand of the wrong kind
abbrev pub stopped : StopCause → World → Stepped
stopped c w = quiet (Ending (Stopped c) (bottom Bare) w)

abbrev pub jammed : World → Stepped
jammed w = quiet (Ending Jammed (bottom Bare) w)

-- a method is left by a return or a throw
abbrev pub left_by : (method : ℕ) → End → Frames → World → Stepped
left_by m e frames w = marked (Ended m e w) (quiet (Ending e frames w))

-- ---- exceptions

unfoldable pub step_caught : Frame → (object : ℕ) → Option ℕ → Frames → World → Stepped
step_caught f a None frames w = left_by f.method (Thrown a) frames w
step_caught f a (Some target) frames w = quiet (Running (handling f target a) frames w)

unfoldable pub step_thrown : Program → Frame → (object : ℕ) → Frames → World → Stepped
step_thrown p f a frames w = step_caught f a (handler_for p w a f) frames w

unfoldable pub step_failing : Program → Frame → End → Frames → World → Stepped
step_failing p f (Returned v) frames w = jammed w
step_failing p f (Thrown a) frames w = step_thrown p f a frames w
step_failing p f (Stopped c) frames w = stopped c w
step_failing p f Jammed frames w = jammed w

-- ---- an instruction

unfoldable pub step_after : Program → Frame → Frames → Outcome → World → Stepped
step_after p f frames (Next pc locals) w = quiet (Running (moved f pc locals) frames w)
step_after p f frames (Enter m args next) w = quiet (Calling m args f.stack (over (waits_for f (Result next)) frames) w)
step_after p f frames (Returns v) w = left_by f.method (Returned v) frames w
step_after p f frames (Throws a) w = step_thrown p f a frames w
step_after p f frames (Stops c) w = stopped c w
step_after p f frames Stuck w = jammed w

unfoldable pub marked_calls : List ℕ → Stepped → Stepped
marked_calls [] r = r
marked_calls (m ∷ ms) r = marked (Called m) (marked_calls ms r)

unfoldable pub step_acts : Program → Frame → Frames → Reached → Stepped
step_acts p f frames r = marked_calls r.called (step_after p f frames r.outcome r.world)

-- ---- the start of classes for an instruction

unfoldable pub step_initialise : Frame → Frames → (class : ℕ) → List ℕ → Option ℕ → World → Stepped
step_initialise f frames c cs None w = quiet (Starting cs f frames (with_status w c ready))
step_initialise f frames c cs (Some m) w = quiet (Calling m [] f.stack (over (waits_for f (Start c cs)) frames) w)

unfoldable pub step_valued : Program → Frame → Frames → (class : ℕ) → List ℕ → End → World → Stepped
step_valued p f frames c cs (Returned v) w = step_initialise f frames c cs (initialiser_of p c) w
step_valued p f frames c cs (Thrown a) w = jammed w
step_valued p f frames c cs (Stopped s) w = stopped s w
step_valued p f frames c cs Jammed w = jammed w

unfoldable pub step_valued_in : Program → Frame → Frames → (class : ℕ) → List ℕ → Raised → Stepped
step_valued_in p f frames c cs r = step_valued p f frames c cs r.end r.world

unfoldable pub step_starting : Script → Program → List ℕ → Frame → Frames → World → Stepped
step_starting script p [] f frames w = step_acts p f frames (acts_at script p f w)
step_starting script p (c ∷ cs) f frames w = step_valued_in p f frames c cs (put_statics script p c w)

unfoldable pub step_opened : Bool → Script → Program → Frame → Frames → Climbed → World → Stepped
step_opened true script p f frames k w = let r = start_refused script p k.todo (with_statuses w k.statuses) in step_failing p f r.end frames r.world
step_opened false script p f frames k w = quiet (Starting k.todo f frames (with_statuses w k.statuses))

unfoldable pub step_spent : Script → Program → Frame → Frames → Climbed → World → Stepped
step_spent script p f frames k w = step_opened k.refused script p f frames k w

unfoldable pub step_running : Script → Program → Frame → Frames → (left : ℕ) → World → Stepped
step_running script p f frames zero w = stopped cause.Budget w
step_running script p f frames (suc k) w = marked (Spent f.method) (step_spent script p f frames (starting p f w) (with_instructions w k))

-- ---- a call

unfoldable pub step_unentered : (method : ℕ) → End → Frames → World → Stepped
step_unentered m (Returned v) frames w = left_by m (Returned v) frames w
step_unentered m (Thrown a) frames w = left_by m (Thrown a) frames w
step_unentered m (Stopped c) frames w = stopped c w
step_unentered m Jammed frames w = jammed w

unfoldable pub step_body : Bool → Script → Program → (method : ℕ) → List Value → Stack → Frames → World → Stepped
step_body true script p m args stack frames w = quiet (Running (frame_for p m args stack) frames w)
step_body false script p m args stack frames w = let r = overflow script p w in step_unentered m r.end frames r.world

unfoldable pub step_calling : Script → Program → (method : ℕ) → List Value → Stack → Frames → World → Stepped
step_calling script p m args stack frames w = marked (Entered m args stack w) (step_body (room_for p m stack) script p m args stack frames w)

-- ---- an end

unfoldable pub step_given : Script → Program → Frame → Wait → End → Frames → World → Stepped
step_given script p f wait (Stopped s) frames w = stopped s w
step_given script p f wait Jammed frames w = jammed w
step_given script p f (Result next) (Returned v) frames w = quiet (Running (resumed f next v) frames w)
step_given script p f (Result next) (Thrown a) frames w = step_thrown p f a frames w
step_given script p f (Start c cs) (Returned v) frames w = quiet (Starting cs f frames (with_status w c ready))
step_given script p f (Start c cs) (Thrown a) frames w = let r = start_failed script p c cs a w in step_failing p f r.end frames r.world

unfoldable pub step_base : Script → Program → End → Base → World → Stepped
step_base script p e Bare w = quiet (Ending e (bottom Bare) w)
step_base script p (Returned v) (Opening c cs m args) w = quiet (Launching cs m args (with_status w c ready))
step_base script p (Thrown a) (Opening c cs m args) w = let r = start_failed script p c cs a w in quiet (Ending r.end (bottom Bare) r.world)
step_base script p (Stopped s) (Opening c cs m args) w = stopped s w
step_base script p Jammed (Opening c cs m args) w = jammed w

unfoldable pub step_ending_to : Script → Program → End → List Waiting → Base → World → Stepped
step_ending_to script p e [] base w = step_base script p e base w
step_ending_to script p e (x ∷ xs) base w = step_given script p x.frame x.wait e (standing xs base) w

unfoldable pub step_ending : Script → Program → End → Frames → World → Stepped
step_ending script p e frames w = step_ending_to script p e frames.waiting frames.base w

-- ---- the start of classes before a method is called

unfoldable pub step_launch : (class : ℕ) → List ℕ → (method : ℕ) → List Value → Option ℕ → World → Stepped
step_launch c cs m args None w = quiet (Launching cs m args (with_status w c ready))
step_launch c cs m args (Some i) w = quiet (Calling i [] no_frames (bottom (Opening c cs m args)) w)

unfoldable pub step_launch_valued : Program → (class : ℕ) → List ℕ → (method : ℕ) → List Value → End → World → Stepped
step_launch_valued p c cs m args (Returned v) w = step_launch c cs m args (initialiser_of p c) w
step_launch_valued p c cs m args (Thrown a) w = jammed w
step_launch_valued p c cs m args (Stopped s) w = stopped s w
step_launch_valued p c cs m args Jammed w = jammed w

unfoldable pub step_launch_in : Program → (class : ℕ) → List ℕ → (method : ℕ) → List Value → Raised → Stepped
step_launch_in p c cs m args r = step_launch_valued p c cs m args r.end r.world

unfoldable pub step_launching : Script → Program → List ℕ → (method : ℕ) → List Value → World → Stepped
step_launching script p [] m args w = quiet (Calling m args no_frames (bottom Bare) w)
step_launching script p (c ∷ cs) m args w = step_launch_in p c cs m args (put_statics script p c w)

-- ---- a step

unfoldable pub step : Script → Program → State → Stepped
step script p (Running f frames w) = step_running script p f frames w.counters.instructions w
step script p (Starting cs f frames w) = step_starting script p cs f frames w
step script p (Calling m args stack frames w) = step_calling script p m args stack frames w
step script p (Ending e frames w) = step_ending script p e frames w
step script p (Launching cs m args w) = step_launching script p cs m args w

-- ---- where a run begins

unfoldable pub opening_if : Bool → Script → Program → List Value → Climbed → World → State
opening_if true script p args k w = let r = start_refused script p k.todo (with_statuses w k.statuses) in Ending r.end (bottom Bare) r.world
opening_if false script p args k w = Launching k.todo p.main args (with_statuses w k.statuses)

unfoldable pub opening_in : Script → Program → List Value → Climbed → World → State
opening_in script p args k w = opening_if k.refused script p args k w

-- the class of `main` is to be started, and then `main` to be called with these arguments
unfoldable pub opening : Script → Program → List Value → World → State
opening script p args w = opening_in script p args (climb_from p (class_of_main p) w) w

-- ---- traces

-- a hook that evaluates here at each entry of a trace is led by it from t to t'
abbrev pub Tells : {T : Type 0} → Hook T → List Mark → T → T → Type 0
Tells hook [] t t' = t ≡ t'
Tells {T} hook (Entered m args stack w ∷ marks) t t' = (u : T) × (hook.entry m args stack w t ≡ Here u) × Tells hook marks u t'
Tells hook (Spent m ∷ marks) t t' = Tells hook marks (hook.spent m t) t'
Tells hook (Called m ∷ marks) t t' = Tells hook marks (hook.called m t) t'
Tells hook (Ended m e w ∷ marks) t t' = Tells hook marks (hook.ended m e w t) t'

-- one state leads to another by steps, with this trace
pub data Leads (script : Script) (p : Program) : State → List Mark → State → Type 0 where
  stays : {st : State} → Leads script p st [] st
  goes : {st0 st : State} {marks : List Mark} → Leads script p st0 marks st → Leads script p st0 (marks ++ (step script p st).marks) (step script p st).state
