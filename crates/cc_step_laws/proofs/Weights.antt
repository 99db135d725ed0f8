-- Each step brings a run nearer its end.
use Rattle.std.proofs.Common.{◌≡◌, ℕ, zero, suc, ◌+◌, ◌*◌, ◌<◌, ◌≤◌, List, [], ◌∷◌, length, Bool, true, false, Option, Some, None, refl, arith, slice_get, slice_set}
use Rattle.cc_meaning_typing.specs.Hierarchy.{superclass_of}
use Rattle.cc_meaning.specs.declared.program.Program.{Program}
use Rattle.cc_meaning.specs.declared.script.Script.{Script}
use Rattle.cc_meaning.specs.declared.value.Value.{Value}
use Rattle.cc_meaning.specs.BuiltIn.{exception_in_initializer_error_name, no_class_def_found_error_name, stack_overflow_error_name}
use Rattle.cc_meaning_world.specs.World.{World, Stack}
use Rattle.cc_meaning_world.specs.Changes.{with_instructions, with_status, with_statuses}
use Rattle.cc_meaning_world.specs.Acts.{Outcome, Next, Enter, Returns, Throws, Stops, Stuck, Act, Reached, run_act}
use Rattle.cc_meaning_world.specs.Throwing.{throw_new}
use Rattle.cc_meaning_exec.specs.Instructions.{act_at, insn_of_method}
use Rattle.cc_meaning_exec.specs.Frames.{Frame, room_for}
use Rattle.cc_meaning_exec.specs.Exceptions.{End, Returned, Thrown, Stopped, Jammed, Raised, raised_by, new_exception, overflow, handler_for}
use Rattle.cc_meaning_exec.specs.Starts.{busy, ready, failed, if_of_file, class_needed, Climbed, climb_at, climb_up, climb_from, starting, values_act, put_statics, initialiser_of, all_failed, is_error_in, wrapped_if, wrapped, with_failed, failed_with, all_fail, start_failed, start_refused}
use Rattle.cc_meaning_exec.specs.Eval.{acts_at}
use Rattle.cc_meaning_exec.specs.States.{Wait, Result, Start, Waiting, Base, Bare, Opening, Frames, standing, State, Running, Starting, Calling, Ending, Launching, GoesOn, GoesOnOver}
use Rattle.cc_meaning_exec.specs.Steps.{Stepped, step_caught, step_thrown, step_failing, step_after, marked_calls, step_acts, step_initialise, step_valued, step_valued_in, step_starting, step_opened, step_spent, step_running, step_unentered, step_body, step_calling, step_given, step_base, step_ending_to, step_ending, step_launch, step_launch_valued, step_launch_in, step_launching, step}
use Rattle.cc_meaning_exec.specs.Traces.{idle_in, wait_cost, base_cost, waits_cost, frames_cost, world_cost, weight}
use Rattle.cc_step_laws.proofs.Kept.{run_kept}

-- ---- statuses

-- a status that isn't idle counts for nothing
abbrev NotIdle : ℕ → Type 0
NotIdle x = (s : List ℕ) → idle_in (x ∷ s) ≤ idle_in s

idle_under : (y : ℕ) (s s' : List ℕ) → idle_in s ≤ idle_in s' → idle_in (y ∷ s) ≤ idle_in (y ∷ s')
unfolding idle_in
idle_under zero s s' h = omega arith
idle_under (suc n) s s' h = h

idle_above : (y : ℕ) (s : List ℕ) → idle_in s ≤ idle_in (y ∷ s)
unfolding idle_in
idle_above zero s = omega arith
idle_above (suc n) s = omega arith

set_idle : (x : ℕ) → NotIdle x → (s : List ℕ) (c : ℕ) → idle_in (slice_set s c x) ≤ idle_in s
set_idle x n [] c = omega arith
set_idle x n (y ∷ s) zero = let a = n s in let b = idle_above y s in omega arith
set_idle x n (y ∷ s) (suc c) = idle_under y _ _ (set_idle x n s c)

is_ready : NotIdle ready
unfolding idle_in
is_ready s = omega arith

has_failed : NotIdle failed
unfolding idle_in
has_failed s = omega arith

all_failed_idle : (cs : List ℕ) (s : List ℕ) → idle_in (all_failed cs s) ≤ idle_in s
unfolding all_failed
all_failed_idle [] s = omega arith
all_failed_idle (c ∷ cs) s = let a = all_failed_idle cs (slice_set s c failed) in let b = set_idle failed has_failed s c in omega arith

taken_idle : (s : List ℕ) (c : ℕ) → slice_get s c ≡ Some zero → suc (idle_in (slice_set s c busy)) ≤ idle_in s
unfolding idle_in
taken_idle [] c e = cc
taken_idle (zero ∷ s) zero e = omega arith
taken_idle (suc n ∷ s) zero e = cc
taken_idle (zero ∷ s) (suc c) e = let h = taken_idle s c e in omega arith
taken_idle (suc n ∷ s) (suc c) e = taken_idle s c e

climbs_idle : (s : List ℕ) (c : ℕ) (todo : List ℕ) (k : Climbed) (o : Option ℕ) → slice_get s c ≡ o → idle_in k.statuses + length k.todo ≤ idle_in (slice_set s c busy) + length (c ∷ todo) →
    idle_in (climb_at o k todo s).statuses + length (climb_at o k todo s).todo ≤ idle_in s + length todo
unfolding climb_at
climbs_idle s c todo k None e h = omega arith
climbs_idle s c todo k (Some zero) e h = let b = taken_idle s c e in omega arith
climbs_idle s c todo k (Some (suc zero)) e h = omega arith
climbs_idle s c todo k (Some (suc (suc zero))) e h = omega arith
climbs_idle s c todo k (Some (suc (suc (suc n)))) e h = omega arith

-- each class to be started was idle
climb_idle : (p : Program) (n : ℕ) (c : Option ℕ) (todo s : List ℕ) → idle_in (climb_up p n c todo s).statuses + length (climb_up p n c todo s).todo ≤ idle_in s + length todo
unfolding climb_up
climb_idle p zero c todo s = omega arith
climb_idle p (suc n) None todo s = omega arith
climb_idle p (suc n) (Some c) todo s = climbs_idle s c todo _ (slice_get s c) refl (climb_idle p n (if_of_file p (superclass_of p c)) (c ∷ todo) (slice_set s c busy))

-- ---- worlds

abbrev Light : ℕ → World → Type 0
Light n w = world_cost w ≤ n

act_light : (script : Script) (p : Program) (n : ℕ) (a : Act) (w : World) → Light n w → Light n (run_act script p a w).world
act_light script p n a w h = run_kept (λ left statuses. 5 * left + 4 * idle_in statuses ≤ n) script p a w h

new_light : (script : Script) (p : Program) (n : ℕ) (name : List ℕ) (w : World) → Light n w → Light n (new_exception script p name w).world
unfolding new_exception raised_by
new_light script p n name w h = act_light script p n (throw_new p name) w h

statics_light : (script : Script) (p : Program) (n class : ℕ) (w : World) → Light n w → Light n (put_statics script p class w).world
unfolding put_statics raised_by
statics_light script p n class w h = act_light script p n (values_act p class) w h

acts_light : (script : Script) (p : Program) (n : ℕ) (f : Frame) (w : World) → Light n w → Light n (acts_at script p f w).world
unfolding acts_at
acts_light script p n f w h = act_light script p n (act_at p f.method f.pc f.locals) w h

status_light : (n c x : ℕ) → NotIdle x → (w : World) → Light n w → Light n (with_status w c x)
unfolding with_status with_statuses
status_light n c x i w h = let a = set_idle x i w.counters.statuses c in omega arith

with_failed_light : (n : ℕ) (cs : List ℕ) (w : World) → Light n w → Light n (with_failed cs w)
unfolding with_failed with_statuses
with_failed_light n cs w h = let a = all_failed_idle cs w.counters.statuses in omega arith

failed_with_light : (n : ℕ) (cs : List ℕ) (e : End) (w : World) → Light n w → Light n (failed_with cs e w).world
unfolding failed_with
failed_with_light n cs (Returned v) w h = h
failed_with_light n cs (Thrown a) w h = with_failed_light n cs w h
failed_with_light n cs (Stopped c) w h = h
failed_with_light n cs Jammed w h = h

all_fail_light : (n : ℕ) (cs : List ℕ) (r : Raised) → Light n r.world → Light n (all_fail cs r).world
unfolding all_fail
all_fail_light n cs r h = failed_with_light n cs r.end r.world h

wrapped_light : (b : Bool) (script : Script) (p : Program) (n a : ℕ) (w : World) → Light n w → Light n (wrapped_if b script p a w).world
unfolding wrapped_if
wrapped_light true script p n a w h = h
wrapped_light false script p n a w h = new_light script p n exception_in_initializer_error_name w h

start_failed_light : (script : Script) (p : Program) (n c : ℕ) (cs : List ℕ) (a : ℕ) (w : World) → Light n w → Light n (start_failed script p c cs a w).world
unfolding start_failed wrapped
start_failed_light script p n c cs a w h =
    all_fail_light n cs _ (wrapped_light (is_error_in p (slice_get (with_status w c failed).objects a)) script p n a (with_status w c failed) (status_light n c failed has_failed w h))

refused_light : (script : Script) (p : Program) (n : ℕ) (cs : List ℕ) (w : World) → Light n w → Light n (start_refused script p cs w).world
unfolding start_refused
refused_light script p n cs w h = all_fail_light n cs _ (new_light script p n no_class_def_found_error_name w h)

overflow_light : (script : Script) (p : Program) (n : ℕ) (w : World) → Light n w → Light n (overflow script p w).world
unfolding overflow
overflow_light script p n w h = new_light script p n stack_overflow_error_name w h

-- ---- steps

-- the step weighs at most n beside the frames
abbrev Weighs : Stepped → Frames → ℕ → Type 0
Weighs s frames n = weight s.state ≤ n + frames_cost frames

caught_weighs : (n : ℕ) (f : Frame) (a : ℕ) (o : Option ℕ) (frames : Frames) (w : World) → Light n w → Weighs (step_caught f a o frames w) frames (n + 1)
unfolding step_caught weight
caught_weighs n f a None frames w h = omega arith
caught_weighs n f a (Some target) frames w h = omega arith

failing_weighs : (n : ℕ) (p : Program) (f : Frame) (e : End) (frames : Frames) (w : World) → Light n w → Weighs (step_failing p f e frames w) frames (n + 1)
unfolding step_failing step_thrown weight frames_cost waits_cost base_cost
failing_weighs n p f (Returned v) frames w h = omega arith
failing_weighs n p f (Thrown a) frames w h = caught_weighs n f a (handler_for p w a f) frames w h
failing_weighs n p f (Stopped c) frames w h = omega arith
failing_weighs n p f Jammed frames w h = omega arith

after_weighs : (n : ℕ) (p : Program) (f : Frame) (frames : Frames) (o : Outcome) (w : World) → Light n w → Weighs (step_after p f frames o w) frames (n + 4)
unfolding step_after step_thrown weight frames_cost waits_cost base_cost wait_cost
after_weighs n p f frames (Next pc locals) w h = omega arith
after_weighs n p f frames (Enter m args next) w h = omega arith
after_weighs n p f frames (Returns v) w h = omega arith
after_weighs n p f frames (Throws a) w h = let r = caught_weighs n f a (handler_for p w a f) frames w h in omega arith
after_weighs n p f frames (Stops c) w h = omega arith
after_weighs n p f frames Stuck w h = omega arith

calls_weigh : (ms : List ℕ) (s : Stepped) → weight (marked_calls ms s).state ≡ weight s.state
unfolding marked_calls
calls_weigh [] s = refl
calls_weigh (m ∷ ms) s = calls_weigh ms s

acts_weigh : (n : ℕ) (p : Program) (f : Frame) (frames : Frames) (r : Reached) → Light n r.world → Weighs (step_acts p f frames r) frames (n + 4)
unfolding step_acts
acts_weigh n p f frames r h = let a = calls_weigh r.called (step_after p f frames r.outcome r.world) in let b = after_weighs n p f frames r.outcome r.world h in omega arith

initialise_weighs : (n : ℕ) (f : Frame) (frames : Frames) (c : ℕ) (cs : List ℕ) (o : Option ℕ) (w : World) → Light n w → Weighs (step_initialise f frames c cs o w) frames (n + 8 + 4 * length cs)
unfolding step_initialise weight frames_cost waits_cost wait_cost
initialise_weighs n f frames c cs None w h = let a = status_light n c ready is_ready w h in omega arith
initialise_weighs n f frames c cs (Some m) w h = omega arith

valued_weighs : (n : ℕ) (p : Program) (f : Frame) (frames : Frames) (c : ℕ) (cs : List ℕ) (e : End) (w : World) → Light n w → Weighs (step_valued p f frames c cs e w) frames (n + 8 + 4 * length cs)
unfolding step_valued weight frames_cost waits_cost base_cost
valued_weighs n p f frames c cs (Returned v) w h = initialise_weighs n f frames c cs (initialiser_of p c) w h
valued_weighs n p f frames c cs (Thrown a) w h = omega arith
valued_weighs n p f frames c cs (Stopped s) w h = omega arith
valued_weighs n p f frames c cs Jammed w h = omega arith

starting_weighs : (n : ℕ) (script : Script) (p : Program) (cs : List ℕ) (f : Frame) (frames : Frames) (w : World) → Light n w → Weighs (step_starting script p cs f frames w) frames (n + 4 + 4 * length cs)
unfolding step_starting step_valued_in
starting_weighs n script p [] f frames w h = let r = acts_weigh n p f frames (acts_at script p f w) (acts_light script p n f w h) in omega arith
starting_weighs n script p (c ∷ cs) f frames w h =
    let r = valued_weighs n p f frames c cs (put_statics script p c w).end (put_statics script p c w).world (statics_light script p n c w h) in omega arith

opened_weighs : (n : ℕ) (b : Bool) (script : Script) (p : Program) (f : Frame) (frames : Frames) (k : Climbed) (w : World) → Light n w → idle_in k.statuses + length k.todo ≤ idle_in w.counters.statuses →
    Weighs (step_opened b script p f frames k w) frames (n + 5)
unfolding step_opened weight with_statuses
opened_weighs n true script p f frames k w h i =
    let u = with_statuses w k.statuses in
    let r = failing_weighs n p f (start_refused script p k.todo u).end frames (start_refused script p k.todo u).world (refused_light script p n k.todo u (omega arith)) in
    omega arith
opened_weighs n false script p f frames k w h i = omega arith

starting_idle : (p : Program) (f : Frame) (w : World) → idle_in (starting p f w).statuses + length (starting p f w).todo ≤ idle_in w.counters.statuses
unfolding starting climb_from
starting_idle p f w = let r = climb_idle p (length p.classes) (class_needed p (insn_of_method p f.method f.pc)) [] w.counters.statuses in omega arith

running_weighs : (script : Script) (p : Program) (f : Frame) (frames : Frames) (left : ℕ) (w : World) → left ≡ w.counters.instructions → Weighs (step_running script p f frames left w) frames (world_cost w)
unfolding step_running step_spent weight frames_cost waits_cost base_cost with_instructions
running_weighs script p f frames zero w e = omega arith
running_weighs script p f frames (suc left) w e =
    let r = opened_weighs (5 * left + 4 * idle_in w.counters.statuses) (starting p f w).refused script p f frames (starting p f w) (with_instructions w left) (omega arith) (starting_idle p f w) in
    omega arith

unentered_weighs : (n m : ℕ) (e : End) (frames : Frames) (w : World) → Light n w → Weighs (step_unentered m e frames w) frames n
unfolding step_unentered weight frames_cost waits_cost base_cost
unentered_weighs n m (Stopped c) frames w h = omega arith
unentered_weighs n m (Returned v) frames w h = omega arith
unentered_weighs n m (Thrown a) frames w h = omega arith
unentered_weighs n m Jammed frames w h = omega arith

body_weighs : (n : ℕ) (b : Bool) (script : Script) (p : Program) (m : ℕ) (args : List Value) (stack : Stack) (frames : Frames) (w : World) → Light n w → Weighs (step_body b script p m args stack frames w) frames (n + 1)
unfolding step_body weight
body_weighs n true script p m args stack frames w h = omega arith
body_weighs n false script p m args stack frames w h =
    let r = unentered_weighs n m (overflow script p w).end frames (overflow script p w).world (overflow_light script p n w h) in omega arith

given_weighs : (n : ℕ) (script : Script) (p : Program) (f : Frame) (wait : Wait) (e : End) (frames : Frames) (w : World) → Light n w → suc (weight (step_given script p f wait e frames w).state) ≤ n + wait_cost wait + frames_cost frames
unfolding step_given step_thrown weight frames_cost waits_cost base_cost wait_cost
given_weighs n script p f (Result next) (Stopped s) frames w h = omega arith
given_weighs n script p f (Start c cs) (Stopped s) frames w h = omega arith
given_weighs n script p f (Result next) Jammed frames w h = omega arith
given_weighs n script p f (Start c cs) Jammed frames w h = omega arith
given_weighs n script p f (Result next) (Returned v) frames w h = omega arith
given_weighs n script p f (Result next) (Thrown a) frames w h = let r = caught_weighs n f a (handler_for p w a f) frames w h in omega arith
given_weighs n script p f (Start c cs) (Returned v) frames w h = let a = status_light n c ready is_ready w h in omega arith
given_weighs n script p f (Start c cs) (Thrown a) frames w h =
    let r = failing_weighs n p f (start_failed script p c cs a w).end frames (start_failed script p c cs a w).world (start_failed_light script p n c cs a w h) in omega arith

base_falls : (script : Script) (p : Program) (e : End) (c : ℕ) (cs : List ℕ) (m : ℕ) (args : List Value) (w : World) → suc (weight (step_base script p e (Opening c cs m args) w).state) ≤ world_cost w + 6 + 4 * length cs
unfolding step_base weight frames_cost waits_cost base_cost
base_falls script p (Returned v) c cs m args w = let a = status_light (world_cost w) c ready is_ready w (omega arith) in omega arith
base_falls script p (Thrown x) c cs m args w = let a = start_failed_light script p (world_cost w) c cs x w (omega arith) in omega arith
base_falls script p (Stopped s) c cs m args w = omega arith
base_falls script p Jammed c cs m args w = omega arith

ending_to_falls : (script : Script) (p : Program) (e : End) (xs : List Waiting) (base : Base) (w : World) → GoesOnOver xs base → suc (weight (step_ending_to script p e xs base w).state) ≤ world_cost w + (waits_cost xs + base_cost base)
unfolding step_ending_to frames_cost waits_cost base_cost
ending_to_falls script p e [] Bare w h = absurd h
ending_to_falls script p e [] (Opening c cs m args) w h = let r = base_falls script p e c cs m args w in omega arith
ending_to_falls script p e (x ∷ xs) base w h = let r = given_weighs (world_cost w) script p x.frame x.wait e (standing xs base) w (omega arith) in omega arith

ending_falls : (script : Script) (p : Program) (e : End) (frames : Frames) (w : World) → GoesOn (Ending e frames w) → suc (weight (step_ending script p e frames w).state) ≤ world_cost w + frames_cost frames
unfolding step_ending frames_cost
ending_falls script p e frames w h = ending_to_falls script p e frames.waiting frames.base w h

launch_falls : (n c : ℕ) (cs : List ℕ) (m : ℕ) (args : List Value) (o : Option ℕ) (w : World) → Light n w → weight (step_launch c cs m args o w).state ≤ n + 8 + 4 * length cs
unfolding step_launch weight frames_cost waits_cost base_cost
launch_falls n c cs m args None w h = let a = status_light n c ready is_ready w h in omega arith
launch_falls n c cs m args (Some i) w h = omega arith

launch_valued_falls : (n : ℕ) (p : Program) (c : ℕ) (cs : List ℕ) (m : ℕ) (args : List Value) (e : End) (w : World) → Light n w → weight (step_launch_valued p c cs m args e w).state ≤ n + 8 + 4 * length cs
unfolding step_launch_valued weight frames_cost waits_cost base_cost
launch_valued_falls n p c cs m args (Returned v) w h = launch_falls n c cs m args (initialiser_of p c) w h
launch_valued_falls n p c cs m args (Thrown a) w h = omega arith
launch_valued_falls n p c cs m args (Stopped s) w h = omega arith
launch_valued_falls n p c cs m args Jammed w h = omega arith

launching_falls : (script : Script) (p : Program) (cs : List ℕ) (m : ℕ) (args : List Value) (w : World) → weight (step_launching script p cs m args w).state ≤ world_cost w + 4 + 4 * length cs
unfolding step_launching step_launch_in weight frames_cost waits_cost base_cost
launching_falls script p [] m args w = omega arith
launching_falls script p (c ∷ cs) m args w =
    let r = launch_valued_falls (world_cost w) p c cs m args (put_statics script p c w).end (put_statics script p c w).world (statics_light script p (world_cost w) c w (omega arith)) in omega arith

pub step_falls : (script : Script) (p : Program) (st : State) → GoesOn st → weight (step script p st).state < weight st
unfolding step weight step_calling
step_falls script p (Running f frames w) g = let r = running_weighs script p f frames w.counters.instructions w refl in omega arith
step_falls script p (Starting cs f frames w) g = let r = starting_weighs (world_cost w) script p cs f frames w (omega arith) in omega arith
step_falls script p (Calling m args stack frames w) g = let r = body_weighs (world_cost w) (room_for p m stack) script p m args stack frames w (omega arith) in omega arith
step_falls script p (Ending e frames w) g = let r = ending_falls script p e frames w g in omega arith
step_falls script p (Launching cs m args w) g = let r = launching_falls script p cs m args w in omega arith
