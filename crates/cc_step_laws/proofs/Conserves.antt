-- What a run spends is what is no longer left.
use Rattle.std.proofs.Common.{◌≡◌, ℕ, zero, suc, ◌+◌, List, [], ◌∷◌, map, Bool, true, false, Option, Some, None, refl, ap, ◌∙◌, arith, slice_get}
use Rattle.cc_meaning.specs.declared.program.Program.{Program}
use Rattle.cc_meaning.specs.declared.script.Script.{Script}
use Rattle.cc_meaning.specs.declared.value.Value.{Value}
use Rattle.cc_meaning.specs.BuiltIn.{exception_in_initializer_error_name, no_class_def_found_error_name, stack_overflow_error_name}
use Rattle.cc_meaning_world.specs.World.{World, Stack}
use Rattle.cc_meaning_world.specs.Changes.{with_instructions, with_status, with_statuses}
use Rattle.cc_meaning_world.specs.Acts.{Outcome, Next, Enter, Returns, Throws, Stops, Stuck, Act, run_act}
use Rattle.cc_meaning_world.specs.Throwing.{throw_new}
use Rattle.cc_meaning_exec.specs.Instructions.{act_at}
use Rattle.cc_meaning_exec.specs.Frames.{Frame, room_for}
use Rattle.cc_meaning_exec.specs.Exceptions.{End, Returned, Thrown, Stopped, Jammed, Raised, raised_by, new_exception, overflow, handler_for}
use Rattle.cc_meaning_exec.specs.Starts.{failed, class_of_main, Climbed, climb_from, starting, values_act, put_statics, initialiser_of, is_error_in, wrapped_if, wrapped, with_failed, failed_with, all_fail, start_failed, start_refused}
use Rattle.cc_meaning_exec.specs.Eval.{acts_at}
use Rattle.cc_meaning_exec.specs.States.{Wait, Result, Start, Waiting, Base, Bare, Opening, Frames, standing, State, Running, Starting, Calling, Ending, Launching, world_of, Mark, Called}
use Rattle.cc_meaning_exec.specs.Steps.{Stepped, step_caught, step_thrown, step_failing, step_after, marked_calls, step_acts, step_initialise, step_valued, step_valued_in, step_starting, step_opened, step_spent, step_running, step_unentered, step_body, step_calling, step_given, step_base, step_ending_to, step_ending, step_launch, step_launch_valued, step_launch_in, step_launching, step, opening_if, opening_in, opening, Leads, stays, goes}
use Rattle.cc_meaning_exec.specs.Traces.{spent_in, spends, first_told, calls_by, leaver, ended_by, last_told}
use Rattle.cc_step_laws.proofs.Kept.{run_kept}
use Rattle.cc_step_laws.proofs.Traces.{marks_are, spent_append}

abbrev Has : ℕ → World → Type 0
Has n w = w.counters.instructions ≡ n

abbrev Leaves : ℕ → Stepped → Type 0
Leaves n s = Has n (world_of s.state)

act_has : (script : Script) (p : Program) (n : ℕ) (a : Act) (w : World) → Has n w → Has n (run_act script p a w).world
act_has script p n a w h = run_kept (λ left statuses. left ≡ n) script p a w h

new_has : (script : Script) (p : Program) (n : ℕ) (name : List ℕ) (w : World) → Has n w → Has n (new_exception script p name w).world
unfolding new_exception raised_by
new_has script p n name w h = act_has script p n (throw_new p name) w h

statics_have : (script : Script) (p : Program) (n class : ℕ) (w : World) → Has n w → Has n (put_statics script p class w).world
unfolding put_statics raised_by
statics_have script p n class w h = act_has script p n (values_act p class) w h

acts_have : (script : Script) (p : Program) (n : ℕ) (f : Frame) (w : World) → Has n w → Has n (acts_at script p f w).world
unfolding acts_at
acts_have script p n f w h = act_has script p n (act_at p f.method f.pc f.locals) w h

failed_with_has : (n : ℕ) (cs : List ℕ) (e : End) (w : World) → Has n w → Has n (failed_with cs e w).world
unfolding failed_with with_failed with_statuses
failed_with_has n cs (Returned v) w h = h
failed_with_has n cs (Thrown a) w h = h
failed_with_has n cs (Stopped c) w h = h
failed_with_has n cs Jammed w h = h

all_fail_has : (n : ℕ) (cs : List ℕ) (r : Raised) → Has n r.world → Has n (all_fail cs r).world
unfolding all_fail
all_fail_has n cs r h = failed_with_has n cs r.end r.world h

wrapped_has : (b : Bool) (script : Script) (p : Program) (n a : ℕ) (w : World) → Has n w → Has n (wrapped_if b script p a w).world
unfolding wrapped_if
wrapped_has true script p n a w h = h
wrapped_has false script p n a w h = new_has script p n exception_in_initializer_error_name w h

start_failed_has : (script : Script) (p : Program) (n c : ℕ) (cs : List ℕ) (a : ℕ) (w : World) → Has n w → Has n (start_failed script p c cs a w).world
unfolding start_failed wrapped with_status with_statuses
start_failed_has script p n c cs a w h = all_fail_has n cs _ (wrapped_has (is_error_in p (slice_get w.objects a)) script p n a (with_status w c failed) h)

refused_has : (script : Script) (p : Program) (n : ℕ) (cs : List ℕ) (w : World) → Has n w → Has n (start_refused script p cs w).world
unfolding start_refused
refused_has script p n cs w h = all_fail_has n cs _ (new_has script p n no_class_def_found_error_name w h)

overflow_has : (script : Script) (p : Program) (n : ℕ) (w : World) → Has n w → Has n (overflow script p w).world
unfolding overflow
overflow_has script p n w h = new_has script p n stack_overflow_error_name w h

module _ (script : Script) (p : Program) (n : ℕ) where
  caught_leaves : (f : Frame) (a : ℕ) (o : Option ℕ) (frames : Frames) (w : World) → Has n w → Leaves n (step_caught f a o frames w)
  unfolding step_caught
  caught_leaves f a None frames w h = h
  caught_leaves f a (Some target) frames w h = h

  thrown_leaves : (f : Frame) (a : ℕ) (frames : Frames) (w : World) → Has n w → Leaves n (step_thrown p f a frames w)
  unfolding step_thrown
  thrown_leaves f a frames w h = caught_leaves f a (handler_for p w a f) frames w h

  failing_leaves : (f : Frame) (e : End) (frames : Frames) (w : World) → Has n w → Leaves n (step_failing p f e frames w)
  unfolding step_failing
  failing_leaves f (Returned v) frames w h = h
  failing_leaves f (Thrown a) frames w h = thrown_leaves f a frames w h
  failing_leaves f (Stopped c) frames w h = h
  failing_leaves f Jammed frames w h = h

  after_leaves : (f : Frame) (frames : Frames) (o : Outcome) (w : World) → Has n w → Leaves n (step_after p f frames o w)
  unfolding step_after
  after_leaves f frames (Next pc locals) w h = h
  after_leaves f frames (Enter m args next) w h = h
  after_leaves f frames (Returns v) w h = h
  after_leaves f frames (Throws a) w h = thrown_leaves f a frames w h
  after_leaves f frames (Stops c) w h = h
  after_leaves f frames Stuck w h = h

  calls_leave : (ms : List ℕ) (s : Stepped) → Leaves n s → Leaves n (marked_calls ms s)
  unfolding marked_calls
  calls_leave [] s h = h
  calls_leave (m ∷ ms) s h = calls_leave ms s h

  initialise_leaves : (f : Frame) (frames : Frames) (c : ℕ) (cs : List ℕ) (o : Option ℕ) (w : World) → Has n w → Leaves n (step_initialise f frames c cs o w)
  unfolding step_initialise with_status with_statuses
  initialise_leaves f frames c cs None w h = h
  initialise_leaves f frames c cs (Some m) w h = h

  valued_leaves : (f : Frame) (frames : Frames) (c : ℕ) (cs : List ℕ) (e : End) (w : World) → Has n w → Leaves n (step_valued p f frames c cs e w)
  unfolding step_valued
  valued_leaves f frames c cs (Returned v) w h = initialise_leaves f frames c cs (initialiser_of p c) w h
  valued_leaves f frames c cs (Thrown a) w h = h
  valued_leaves f frames c cs (Stopped s) w h = h
  valued_leaves f frames c cs Jammed w h = h

  opened_leaves : (b : Bool) (f : Frame) (frames : Frames) (k : Climbed) (w : World) → Has n w → Leaves n (step_opened b script p f frames k w)
  unfolding step_opened with_statuses
  opened_leaves true f frames k w h = failing_leaves f _ frames _ (refused_has script p n k.todo (with_statuses w k.statuses) h)
  opened_leaves false f frames k w h = h

  unentered_leaves : (m : ℕ) (e : End) (frames : Frames) (w : World) → Has n w → Leaves n (step_unentered m e frames w)
  unfolding step_unentered
  unentered_leaves m (Stopped c) frames w h = h
  unentered_leaves m (Returned v) frames w h = h
  unentered_leaves m (Thrown a) frames w h = h
  unentered_leaves m Jammed frames w h = h

  body_leaves : (b : Bool) (m : ℕ) (args : List Value) (stack : Stack) (frames : Frames) (w : World) → Has n w → Leaves n (step_body b script p m args stack frames w)
  unfolding step_body
  body_leaves true m args stack frames w h = h
  body_leaves false m args stack frames w h = unentered_leaves m _ frames _ (overflow_has script p n w h)

  given_leaves : (f : Frame) (wait : Wait) (e : End) (frames : Frames) (w : World) → Has n w → Leaves n (step_given script p f wait e frames w)
  unfolding step_given with_status with_statuses
  given_leaves f (Result next) (Stopped s) frames w h = h
  given_leaves f (Start c cs) (Stopped s) frames w h = h
  given_leaves f (Result next) Jammed frames w h = h
  given_leaves f (Start c cs) Jammed frames w h = h
  given_leaves f (Result next) (Returned v) frames w h = h
  given_leaves f (Result next) (Thrown a) frames w h = thrown_leaves f a frames w h
  given_leaves f (Start c cs) (Returned v) frames w h = h
  given_leaves f (Start c cs) (Thrown a) frames w h = failing_leaves f _ frames _ (start_failed_has script p n c cs a w h)

  base_leaves : (e : End) (base : Base) (w : World) → Has n w → Leaves n (step_base script p e base w)
  unfolding step_base with_status with_statuses
  base_leaves e Bare w h = h
  base_leaves (Returned v) (Opening c cs m args) w h = h
  base_leaves (Thrown a) (Opening c cs m args) w h = start_failed_has script p n c cs a w h
  base_leaves (Stopped s) (Opening c cs m args) w h = h
  base_leaves Jammed (Opening c cs m args) w h = h

  launch_leaves : (c : ℕ) (cs : List ℕ) (m : ℕ) (args : List Value) (o : Option ℕ) (w : World) → Has n w → Leaves n (step_launch c cs m args o w)
  unfolding step_launch with_status with_statuses
  launch_leaves c cs m args None w h = h
  launch_leaves c cs m args (Some i) w h = h

  launch_valued_leaves : (c : ℕ) (cs : List ℕ) (m : ℕ) (args : List Value) (e : End) (w : World) → Has n w → Leaves n (step_launch_valued p c cs m args e w)
  unfolding step_launch_valued
  launch_valued_leaves c cs m args (Returned v) w h = launch_leaves c cs m args (initialiser_of p c) w h
  launch_valued_leaves c cs m args (Thrown a) w h = h
  launch_valued_leaves c cs m args (Stopped s) w h = h
  launch_valued_leaves c cs m args Jammed w h = h

ending_leaves : (script : Script) (p : Program) (n : ℕ) (e : End) (xs : List Waiting) (base : Base) (w : World) → Has n w → Leaves n (step_ending_to script p e xs base w)
unfolding step_ending_to
ending_leaves script p n e [] base w h = base_leaves script p n e base w h
ending_leaves script p n e (x ∷ xs) base w h = given_leaves script p n x.frame x.wait e (standing xs base) w h

running_left : (script : Script) (p : Program) (f : Frame) (frames : Frames) (left : ℕ) (w : World) → w.counters.instructions ≡ left →
    (world_of (step_running script p f frames left w).state).counters.instructions + spent_in (spends f.method left) ≡ left
unfolding step_running step_spent with_instructions
running_left script p f frames zero w e = omega arith
running_left script p f frames (suc left) w e =
    let h = opened_leaves script p left (starting p f w).refused f frames (starting p f w) (with_instructions w left) refl in omega arith

first_left : (script : Script) (p : Program) (st : State) → (world_of (step script p st).state).counters.instructions + spent_in (first_told st) ≡ (world_of st).counters.instructions
unfolding step step_starting step_valued_in step_acts step_calling step_ending step_launching step_launch_in
first_left script p (Running f frames w) = running_left script p f frames w.counters.instructions w refl
first_left script p (Starting [] f frames w) =
    let a = after_leaves script p w.counters.instructions f frames (acts_at script p f w).outcome (acts_at script p f w).world (acts_have script p w.counters.instructions f w refl) in
    let h = calls_leave script p w.counters.instructions (acts_at script p f w).called (step_after p f frames (acts_at script p f w).outcome (acts_at script p f w).world) a in omega arith
first_left script p (Starting (c ∷ cs) f frames w) =
    let h = valued_leaves script p w.counters.instructions f frames c cs (put_statics script p c w).end (put_statics script p c w).world (statics_have script p w.counters.instructions c w refl) in omega arith
first_left script p (Calling m args stack frames w) = let h = body_leaves script p w.counters.instructions (room_for p m stack) m args stack frames w refl in omega arith
first_left script p (Ending e frames w) = let h = ending_leaves script p w.counters.instructions e frames.waiting frames.base w refl in omega arith
first_left script p (Launching [] m args w) = omega arith
first_left script p (Launching (c ∷ cs) m args w) =
    let h = launch_valued_leaves script p w.counters.instructions c cs m args (put_statics script p c w).end (put_statics script p c w).world (statics_have script p w.counters.instructions c w refl) in omega arith

calls_spent : (ms : List ℕ) → spent_in (map Called ms) ≡ 0
calls_spent [] = refl
calls_spent (m ∷ ms) = calls_spent ms

last_spent : (o : Option ℕ) (st : State) → spent_in (ended_by o st) ≡ 0
last_spent None st = refl
last_spent (Some m) (Ending (Returned v) frames w) = refl
last_spent (Some m) (Ending (Thrown a) frames w) = refl
last_spent (Some m) (Ending (Stopped c) frames w) = refl
last_spent (Some m) (Ending Jammed frames w) = refl
last_spent (Some m) (Running f frames w) = refl
last_spent (Some m) (Starting cs f frames w) = refl
last_spent (Some m) (Calling m' args stack frames w) = refl
last_spent (Some m) (Launching cs m' args w) = refl

spent_of : (script : Script) (p : Program) (st : State) → spent_in (step script p st).marks ≡ spent_in (first_told st)
spent_of script p st =
    ap spent_in (marks_are script p st) ∙ spent_append (first_told st) _
    ∙ (let a = spent_append (map Called (calls_by script p st)) (last_told script p st) in let b = calls_spent (calls_by script p st) in let c = last_spent (leaver st) (step script p st).state in omega arith)

pub leads_spend : (script : Script) (p : Program) (st st' : State) (marks : List Mark) → Leads script p st marks st' →
    (world_of st').counters.instructions + spent_in marks ≡ (world_of st).counters.instructions
leads_spend script p st _ _ stays = omega arith
leads_spend script p st _ _ (goes {st = mid} {marks = marks} h) =
    let a = leads_spend script p st mid marks h in
    let b = first_left script p mid in
    let c = spent_of script p mid in
    let d = spent_append marks (step script p mid).marks in
    omega arith

left_if : (script : Script) (p : Program) (b : Bool) (args : List Value) (k : Climbed) (w : World) → (world_of (opening_if b script p args k w)).counters.instructions ≡ w.counters.instructions
unfolding opening_if with_statuses
left_if script p true args k w = refused_has script p w.counters.instructions k.todo (with_statuses w k.statuses) refl
left_if script p false args k w = refl

pub opening_left : (script : Script) (p : Program) (args : List Value) (w : World) → (world_of (opening script p args w)).counters.instructions ≡ w.counters.instructions
unfolding opening opening_in
opening_left script p args w = let k = climb_from p (class_of_main p) w in left_if script p k.refused args k w
