-- A step leaves what is left to do as it was, with what the hook was told.
use Rattle.std.proofs.Common.{◌≡◌, ℕ, zero, suc, ◌≤◌, List, [], ◌∷◌, ◌++◌, Bool, true, false, Option, Some, None, refl, ap, ◌∙◌, arith}
use Rattle.cc_meaning.specs.declared.program.Program.{Program}
use Rattle.cc_meaning.specs.declared.report.StopCause.{StopCause}
use Rattle.cc_meaning.specs.declared.report.StopCause.TheVariants.{Budget}
use Rattle.cc_meaning.specs.declared.script.Script.{Script}
use Rattle.cc_meaning.specs.declared.value.Value.{Value}
use Rattle.cc_meaning_world.specs.World.{World, Stack}
use Rattle.cc_meaning_world.specs.Changes.{with_instructions, with_status, with_statuses}
use Rattle.cc_meaning_world.specs.Acts.{Outcome, Next, Enter, Returns, Throws, Stops, Stuck, Reached}
use Rattle.cc_meaning_exec.specs.Frames.{Frame, room_for, frame_for, no_frames}
use Rattle.cc_meaning_exec.specs.Exceptions.{End, Returned, Thrown, Stopped, Jammed, handler_for}
use Rattle.cc_meaning_exec.specs.Starts.{class_of_main, Climbed, climb_from, starting, put_statics, initialiser_of, start_failed}
use Rattle.cc_meaning_exec.specs.Eval.{Ran, ran, Hook, Go, caught, thrown, failing, resume, told, as_ran, body_if, body, replied, call, after, told_calls, after_acts, acts_at, initialised, initialise, valued, valued_in, starts, started, opened_if, opened, turn, eval_with}
use Rattle.cc_meaning_exec.specs.Runs.{launched, run_main}
use Rattle.cc_meaning_exec.specs.States.{Wait, Result, Start, Waiting, Base, Bare, Opening, Frames, standing, bottom, waits_for, over, State, Running, Starting, Calling, Ending, Launching, world_of, Mark, Entered, Spent, Called, Ended}
use Rattle.cc_meaning_exec.specs.Steps.{Stepped, quiet, stopped, jammed, step_caught, step_thrown, step_failing, step_after, marked_calls, step_acts, step_initialise, step_valued, step_valued_in, step_starting, step_opened, step_spent, step_running, step_unentered, step_body, step_calling, step_given, step_base, step_ending_to, step_ending, step_launch, step_launch_valued, step_launch_in, step_launching, step, opening_if, opening_in, opening, Tells, stays, goes}
use Rattle.cc_meaning_exec.specs.Rest.{given_to, given_base, unwind_list, unwind, rest}
use Rattle.cc_meaning_exec.specs.Traces.{spends}
use Rattle.cc_meaning_exec.specs.Laws.{HookSpends, StepKeeps, RunKeeps, OpeningIsMain}
use Rattle.cc_step_laws.proofs.Bounds.{Within, failed_within, refused_within, overflow_within, acts_within, statics_within, eval_turn}

module _ {T : Type 0} (hook : Hook T) (script : Script) (p : Program) (n : ℕ) where
  go : Go T
  go = eval_with hook script p n

  -- the step comes to this run of the upper frames, from t, for the frames that wait
  abbrev Comes : Stepped → Frames → Ran T → T → Type 0
  Comes s frames r t = (t' : T) → Tells hook s.marks t t' → (unwind hook go script p frames r ≡ rest hook script p n s.state t') × Within n (world_of s.state)

  given_stopped : (f : Frame) (wait : Wait) (c : StopCause) (w : World) (t : T) → given_to hook go script p f wait (ran (Stopped c) w t) ≡ ran (Stopped c) w t
  unfolding given_to resume initialised
  given_stopped f (Result next) c w t = refl
  given_stopped f (Start k cs) c w t = refl

  given_jammed : (f : Frame) (wait : Wait) (w : World) (t : T) → given_to hook go script p f wait (ran Jammed w t) ≡ ran Jammed w t
  unfolding given_to resume initialised
  given_jammed f (Result next) w t = refl
  given_jammed f (Start k cs) w t = refl

  list_stopped : (xs : List Waiting) (base : Base) (c : StopCause) (w : World) (t : T) → unwind_list hook go script p xs base (ran (Stopped c) w t) ≡ ran (Stopped c) w t
  unfolding unwind_list told given_base initialised
  list_stopped [] Bare c w t = refl
  list_stopped [] (Opening k cs m args) c w t = refl
  list_stopped (x ∷ xs) base c w t = ap (λ r. unwind_list hook go script p xs base (told hook x.frame.method r)) (given_stopped x.frame x.wait c w t) ∙ list_stopped xs base c w t

  list_jammed : (xs : List Waiting) (base : Base) (w : World) (t : T) → unwind_list hook go script p xs base (ran Jammed w t) ≡ ran Jammed w t
  unfolding unwind_list told given_base initialised
  list_jammed [] Bare w t = refl
  list_jammed [] (Opening k cs m args) w t = refl
  list_jammed (x ∷ xs) base w t = ap (λ r. unwind_list hook go script p xs base (told hook x.frame.method r)) (given_jammed x.frame x.wait w t) ∙ list_jammed xs base w t

  unwind_stopped : (frames : Frames) (c : StopCause) (w : World) (t : T) → unwind hook go script p frames (ran (Stopped c) w t) ≡ ran (Stopped c) w t
  unfolding unwind
  unwind_stopped frames c w t = list_stopped frames.waiting frames.base c w t

  stopped_comes : (frames : Frames) (c : StopCause) (w : World) (t : T) → Within n w → Comes (stopped c w) frames (ran (Stopped c) w t) t
  unfolding rest unwind unwind_list given_base go
  stopped_comes frames c w t h t' e = (unwind_stopped frames c w t ∙ ap (ran (Stopped c) w) e, h)

  jammed_comes : (frames : Frames) (w : World) (t : T) → Within n w → Comes (jammed w) frames (ran Jammed w t) t
  unfolding rest unwind unwind_list given_base go
  jammed_comes frames w t h t' e = (list_jammed frames.waiting frames.base w t ∙ ap (ran Jammed w) e, h)

  running_comes : (f : Frame) (frames : Frames) (w : World) (t : T) → Within n w → Comes (quiet (Running f frames w)) frames (told hook f.method (go f w t)) t
  unfolding rest go
  running_comes f frames w t h t' e = (ap (λ u. unwind hook go script p frames (told hook f.method (go f w u))) e, h)

  caught_comes : (f : Frame) (a : ℕ) (o : Option ℕ) (frames : Frames) (w : World) (t : T) → Within n w → Comes (step_caught f a o frames w) frames (told hook f.method (caught go f a o w t)) t
  unfolding step_caught caught rest go told
  caught_comes f a None frames w t h t' e = (ap (λ u. unwind hook go script p frames (ran (Thrown a) w u)) e, h)
  caught_comes f a (Some target) frames w t h t' e = running_comes _ frames w t h t' e

  thrown_comes : (f : Frame) (a : ℕ) (frames : Frames) (w : World) (t : T) → Within n w → Comes (step_thrown p f a frames w) frames (told hook f.method (thrown go p f a w t)) t
  unfolding step_thrown thrown
  thrown_comes f a frames w t h = caught_comes f a (handler_for p w a f) frames w t h

  told_stopped_comes : (m : ℕ) (frames : Frames) (c : StopCause) (w : World) (t : T) → Within n w → Comes (stopped c w) frames (told hook m (ran (Stopped c) w t)) t
  unfolding told
  told_stopped_comes m frames c w t h = stopped_comes frames c w t h

  told_jammed_comes : (m : ℕ) (frames : Frames) (w : World) (t : T) → Within n w → Comes (jammed w) frames (told hook m (ran Jammed w t)) t
  unfolding told
  told_jammed_comes m frames w t h = jammed_comes frames w t h

  failing_comes : (f : Frame) (e : End) (frames : Frames) (w : World) (t : T) → Within n w → Comes (step_failing p f e frames w) frames (told hook f.method (failing go p f e w t)) t
  unfolding step_failing failing
  failing_comes f (Returned v) frames w t h = told_jammed_comes f.method frames w t h
  failing_comes f (Thrown a) frames w t h = thrown_comes f a frames w t h
  failing_comes f (Stopped c) frames w t h = told_stopped_comes f.method frames c w t h
  failing_comes f Jammed frames w t h = told_jammed_comes f.method frames w t h

  calling_comes : (m : ℕ) (args : List Value) (f : Frame) (wait : Wait) (frames : Frames) (w : World) (t : T) → Within n w →
      Comes (quiet (Calling m args f.stack (over (waits_for f wait) frames) w)) frames (told hook f.method (given_to hook go script p f wait (call hook go script p m args f.stack w t))) t
  unfolding rest unwind unwind_list go
  calling_comes m args f wait frames w t h t' e = (ap (λ u. unwind hook go script p frames (told hook f.method (given_to hook go script p f wait (call hook go script p m args f.stack w u)))) e, h)

  after_comes : (f : Frame) (frames : Frames) (o : Outcome) (w : World) (t : T) → Within n w → Comes (step_after p f frames o w) frames (told hook f.method (after hook go script p f o w t)) t
  unfolding step_after after rest go told given_to
  after_comes f frames (Next pc locals) w t h = running_comes _ frames w t h
  after_comes f frames (Enter m args next) w t h = calling_comes m args f (Result next) frames w t h
  after_comes f frames (Returns v) w t h = λ t' e. (ap (λ u. unwind hook go script p frames (ran (Returned v) w u)) e, h)
  after_comes f frames (Throws a) w t h = thrown_comes f a frames w t h
  after_comes f frames (Stops c) w t h = told_stopped_comes f.method frames c w t h
  after_comes f frames Stuck w t h = told_jammed_comes f.method frames w t h

  calls_come : (ms : List ℕ) (s : Stepped) (frames : Frames) (r : T → Ran T) (t : T) → ((u : T) → Comes s frames (r u) u) → Comes (marked_calls ms s) frames (r (told_calls hook ms t)) t
  unfolding marked_calls told_calls
  calls_come [] s frames r t k = k t
  calls_come (m ∷ ms) s frames r t k = calls_come ms s frames r (hook.called m t) k

  acts_come : (f : Frame) (frames : Frames) (r : Reached) (t : T) → Within n r.world → Comes (step_acts p f frames r) frames (told hook f.method (after_acts hook go script p f r t)) t
  unfolding step_acts after_acts
  acts_come f frames r t h = calls_come r.called _ frames (λ u. told hook f.method (after hook go script p f r.outcome r.world u)) t (λ u. after_comes f frames r.outcome r.world u h)

  starting_comes : (cs : List ℕ) (f : Frame) (frames : Frames) (w : World) (t : T) → Within n w → Comes (quiet (Starting cs f frames w)) frames (told hook f.method (started hook go script p f cs w t)) t
  unfolding rest go
  starting_comes cs f frames w t h t' e = (ap (λ u. unwind hook go script p frames (told hook f.method (started hook go script p f cs w u))) e, h)

  initialise_comes : (f : Frame) (frames : Frames) (c : ℕ) (cs : List ℕ) (o : Option ℕ) (w : World) (t : T) → Within n w →
      Comes (step_initialise f frames c cs o w) frames (told hook f.method (initialise hook go script p f.stack (failing go p f) c cs (started hook go script p f cs) o w t)) t
  unfolding step_initialise initialise with_status with_statuses given_to
  initialise_comes f frames c cs None w t h = starting_comes cs f frames _ t h
  initialise_comes f frames c cs (Some m) w t h = calling_comes m [] f (Start c cs) frames w t h

  valued_comes : (f : Frame) (frames : Frames) (c : ℕ) (cs : List ℕ) (x : End) (w : World) (t : T) → Within n w →
      Comes (step_valued p f frames c cs x w) frames (told hook f.method (valued hook go script p f.stack (failing go p f) c cs (started hook go script p f cs) x w t)) t
  unfolding step_valued valued
  valued_comes f frames c cs (Returned v) w t h = initialise_comes f frames c cs (initialiser_of p c) w t h
  valued_comes f frames c cs (Thrown a) w t h = told_jammed_comes f.method frames w t h
  valued_comes f frames c cs (Stopped s) w t h = told_stopped_comes f.method frames s w t h
  valued_comes f frames c cs Jammed w t h = told_jammed_comes f.method frames w t h

  -- the classes that remain, and the act
  starts_come : (cs : List ℕ) (f : Frame) (frames : Frames) (w : World) (t : T) → Within n w → Comes (step_starting script p cs f frames w) frames (told hook f.method (started hook go script p f cs w t)) t
  unfolding step_starting step_valued_in started starts valued_in
  starts_come [] f frames w t h = acts_come f frames (acts_at script p f w) t (acts_within script p n f w h)
  starts_come (c ∷ cs) f frames w t h = valued_comes f frames c cs (put_statics script p c w).end (put_statics script p c w).world t (statics_within script p n c w h)

  opened_comes : (b : Bool) (f : Frame) (frames : Frames) (k : Climbed) (w : World) (t : T) → Within n w → Comes (step_opened b script p f frames k w) frames (told hook f.method (opened_if b script p (failing go p f) (started hook go script p f) k w t)) t
  unfolding step_opened opened_if with_statuses
  opened_comes true f frames k w t h = failing_comes f _ frames _ t (refused_within script p n k.todo (with_statuses w k.statuses) h)
  opened_comes false f frames k w t h = starting_comes k.todo f frames _ t h

  turn_comes : (f : Frame) (frames : Frames) (left : ℕ) (w : World) (t : T) → Within n w → left ≤ n → Comes (step_running script p f frames left w) frames (told hook f.method (turn hook go script p f left w t)) t
  unfolding step_running step_spent turn opened with_instructions
  turn_comes f frames zero w t h hl = told_stopped_comes f.method frames Budget w t h
  turn_comes f frames (suc left) w t h hl = opened_comes (starting p f w).refused f frames (starting p f w) (with_instructions w left) (hook.spent f.method t) (omega arith)

  unentered_comes : (m : ℕ) (e : End) (frames : Frames) (w : World) (t : T) → Within n w → Comes (step_unentered m e frames w) frames (told hook m (ran e w t)) t
  unfolding step_unentered rest told go
  unentered_comes m (Stopped c) frames w t h = stopped_comes frames c w t h
  unentered_comes m (Returned v) frames w t h = λ t' e. (ap (λ u. unwind hook go script p frames (ran (Returned v) w u)) e, h)
  unentered_comes m Jammed frames w t h = jammed_comes frames w t h
  unentered_comes m (Thrown a) frames w t h = λ t' e. (ap (λ u. unwind hook go script p frames (ran (Thrown a) w u)) e, h)

  body_comes : (b : Bool) (m : ℕ) (args : List Value) (stack : Stack) (frames : Frames) (w : World) (t : T) → Within n w → Comes (step_body b script p m args stack frames w) frames (told hook m (body_if b go script p m args stack w t)) t
  unfolding step_body body_if as_ran frame_for
  body_comes true m args stack frames w t h = running_comes (frame_for p m args stack) frames w t h
  body_comes false m args stack frames w t h = unentered_comes m _ frames _ t (overflow_within script p n w h)

  call_comes : (m : ℕ) (args : List Value) (stack : Stack) (frames : Frames) (w : World) (t : T) → Within n w → Comes (step_calling script p m args stack frames w) frames (call hook go script p m args stack w t) t
  unfolding step_calling call replied body
  call_comes m args stack frames w t h = λ t' e.
      let b = body_comes (room_for p m stack) m args stack frames w e.0 h t' e.2 in
      (ap (λ x. unwind hook go script p frames (replied hook go script p m args stack w x)) e.1 ∙ b.0, b.1)

  given_comes : (f : Frame) (wait : Wait) (e : End) (frames : Frames) (w : World) (t : T) → Within n w → Comes (step_given script p f wait e frames w) frames (told hook f.method (given_to hook go script p f wait (ran e w t))) t
  unfolding step_given given_to resume initialised with_status with_statuses
  given_comes f (Result next) (Stopped c) frames w t h = told_stopped_comes f.method frames c w t h
  given_comes f (Start k cs) (Stopped c) frames w t h = told_stopped_comes f.method frames c w t h
  given_comes f (Result next) Jammed frames w t h = told_jammed_comes f.method frames w t h
  given_comes f (Start k cs) Jammed frames w t h = told_jammed_comes f.method frames w t h
  given_comes f (Result next) (Returned v) frames w t h = running_comes _ frames w t h
  given_comes f (Result next) (Thrown a) frames w t h = thrown_comes f a frames w t h
  given_comes f (Start k cs) (Returned v) frames w t h = starting_comes cs f frames _ t h
  given_comes f (Start k cs) (Thrown a) frames w t h = failing_comes f _ frames _ t (failed_within script p n k cs a w h)

  launching_comes : (cs : List ℕ) (m : ℕ) (args : List Value) (w : World) (t : T) → Within n w → Comes (quiet (Launching cs m args w)) (bottom Bare) (launched hook go script p m args cs w t) t
  unfolding rest unwind unwind_list given_base go
  launching_comes cs m args w t h t' e = (ap (launched hook go script p m args cs w) e, h)

  base_comes : (e : End) (base : Base) (w : World) (t : T) → Within n w → Comes (step_base script p e base w) (bottom base) (ran e w t) t
  unfolding step_base rest unwind unwind_list given_base initialised with_status with_statuses go
  base_comes e Bare w t h = λ t' q. (ap (ran e w) q, h)
  base_comes (Returned v) (Opening c cs m args) w t h = launching_comes cs m args _ t h
  base_comes (Thrown a) (Opening c cs m args) w t h = λ t' q. (ap (ran (start_failed script p c cs a w).end (start_failed script p c cs a w).world) q, failed_within script p n c cs a w h)
  base_comes Jammed (Opening c cs m args) w t h = λ t' q. (ap (ran Jammed w) q, h)
  base_comes (Stopped s) (Opening c cs m args) w t h = λ t' q. (ap (ran (Stopped s) w) q, h)

  ending_to_comes : (e : End) (xs : List Waiting) (base : Base) (w : World) (t : T) → Within n w → Comes (step_ending_to script p e xs base w) (standing xs base) (ran e w t) t
  unfolding step_ending_to unwind unwind_list
  ending_to_comes e [] base w t h = base_comes e base w t h
  ending_to_comes e (x ∷ xs) base w t h = given_comes x.frame x.wait e (standing xs base) w t h

  ending_comes : (e : End) (frames : Frames) (w : World) (t : T) → Within n w → Comes (step_ending script p e frames w) frames (ran e w t) t
  unfolding step_ending
  ending_comes e frames w t h = ending_to_comes e frames.waiting frames.base w t h

  launch_comes : (c : ℕ) (cs : List ℕ) (m : ℕ) (args : List Value) (o : Option ℕ) (w : World) (t : T) → Within n w →
      Comes (step_launch c cs m args o w) (bottom Bare) (initialise hook go script p no_frames ran c cs (launched hook go script p m args cs) o w t) t
  unfolding step_launch initialise with_status with_statuses rest unwind unwind_list given_base go
  launch_comes c cs m args None w t h = launching_comes cs m args _ t h
  launch_comes c cs m args (Some i) w t h = λ t' q. (ap (λ u. initialised script p ran c cs (launched hook go script p m args cs) (call hook go script p i [] no_frames w u)) q, h)

  launch_valued_comes : (c : ℕ) (cs : List ℕ) (m : ℕ) (args : List Value) (x : End) (w : World) (t : T) → Within n w →
      Comes (step_launch_valued p c cs m args x w) (bottom Bare) (valued hook go script p no_frames ran c cs (launched hook go script p m args cs) x w t) t
  unfolding step_launch_valued valued rest unwind unwind_list given_base go
  launch_valued_comes c cs m args (Returned v) w t h = launch_comes c cs m args (initialiser_of p c) w t h
  launch_valued_comes c cs m args (Thrown a) w t h = λ t' q. (ap (ran Jammed w) q, h)
  launch_valued_comes c cs m args (Stopped s) w t h = λ t' q. (ap (ran (Stopped s) w) q, h)
  launch_valued_comes c cs m args Jammed w t h = λ t' q. (ap (ran Jammed w) q, h)

  launches_come : (cs : List ℕ) (m : ℕ) (args : List Value) (w : World) (t : T) → Within n w → Comes (step_launching script p cs m args w) (bottom Bare) (launched hook go script p m args cs w t) t
  unfolding step_launching step_launch_in launched starts valued_in rest unwind unwind_list given_base go
  launches_come [] m args w t h = λ t' q. (ap (call hook go script p m args no_frames w) q, h)
  launches_come (c ∷ cs) m args w t h = launch_valued_comes c cs m args (put_statics script p c w).end (put_statics script p c w).world t (statics_within script p n c w h)

  module _ (spends : HookSpends hook) where
    step_comes : (st : State) (t t' : T) → Within n (world_of st) → Tells hook (step script p st).marks t t' → (rest hook script p n st t ≡ rest hook script p n (step script p st).state t') × Within n (world_of (step script p st).state)
    unfolding step rest unwind unwind_list given_base go
    step_comes (Running f frames w) t t' h e =
        let r = turn_comes f frames w.counters.instructions w t h h t' e in
        (ap (λ x. unwind hook go script p frames (told hook f.method x)) (eval_turn hook script p spends n f w t h) ∙ r.0, r.1)
    step_comes (Starting cs f frames w) t t' h e = starts_come cs f frames w t h t' e
    step_comes (Calling m args stack frames w) t t' h e = call_comes m args stack frames w t h t' e
    step_comes (Ending x frames w) t t' h e = ending_comes x frames w t h t' e
    step_comes (Launching cs m args w) t t' h e = launches_come cs m args w t h t' e

pub step_keeps : {T : Type 0} (hook : Hook T) (script : Script) (p : Program) → HookSpends hook → StepKeeps hook script p
step_keeps hook script p spends n st t t' h e = step_comes hook script p n spends st t t' h e

-- a trace in two parts
pub tells_split : {T : Type 0} (hook : Hook T) (a b : List Mark) (t t' : T) → Tells hook (a ++ b) t t' → (u : T) × Tells hook a t u × Tells hook b u t'
tells_split hook [] b t t' h = (t, refl, h)
tells_split hook (Entered m args stack w ∷ a) b t t' h = let r = tells_split hook a b h.0 t' h.2 in (r.0, (h.0, h.1, r.1), r.2)
tells_split hook (Spent m ∷ a) b t t' h = tells_split hook a b (hook.spent m t) t' h
tells_split hook (Called m ∷ a) b t t' h = tells_split hook a b (hook.called m t) t' h
tells_split hook (Ended m e w ∷ a) b t t' h = tells_split hook a b (hook.ended m e w t) t' h

pub run_keeps : {T : Type 0} (hook : Hook T) (script : Script) (p : Program) → HookSpends hook → RunKeeps hook script p
run_keeps hook script p spends n st _ _ t t' le stays e = (ap (rest hook script p n st) e, le)
run_keeps hook script p spends n st _ _ t t' le (goes {st = mid} {marks = marks} leads) e =
    let s = tells_split hook marks (step script p mid).marks t t' e in
    let a = run_keeps hook script p spends n st mid marks t s.0 le leads s.1 in
    let b = step_keeps hook script p spends n mid s.0 t' a.1 s.2 in
    (a.0 ∙ b.0, b.1)

opened_rest : {T : Type 0} (hook : Hook T) (script : Script) (p : Program) (b : Bool) (n : ℕ) (args : List Value) (k : Climbed) (w : World) (t : T) →
    rest hook script p n (opening_if b script p args k w) t ≡ opened_if b script p ran (launched hook (eval_with hook script p n) script p p.main args) k w t
unfolding opening_if opened_if rest unwind unwind_list given_base with_statuses
opened_rest hook script p true n args k w t = refl
opened_rest hook script p false n args k w t = refl

pub opening_is_main : {T : Type 0} (hook : Hook T) (script : Script) (p : Program) → OpeningIsMain hook script p
unfolding opening opening_in run_main opened
opening_is_main hook script p n args w t = let k = climb_from p (class_of_main p) w in opened_rest hook script p k.refused n args k w t
