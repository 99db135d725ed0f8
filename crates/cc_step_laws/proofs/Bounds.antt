-- No step gives instructions back, and a bound on turns that is large enough doesn't matter.
use Rattle.std.proofs.Common.{◌≡◌, ℕ, zero, suc, ◌≤◌, List, [], ◌∷◌, Bool, true, false, Option, Some, None, refl, sym, ◌∙◌, subst, arith, slice_get}
use Rattle.cc_meaning.specs.declared.program.Program.{Program}
use Rattle.cc_meaning.specs.declared.report.StopCause.TheVariants.{Budget}
use Rattle.cc_meaning.specs.declared.script.Script.{Script}
use Rattle.cc_meaning.specs.declared.value.Value.{Value}
use Rattle.cc_meaning.specs.BuiltIn.{exception_in_initializer_error_name, no_class_def_found_error_name, stack_overflow_error_name}
use Rattle.cc_meaning_world.specs.World.{World, Stack}
use Rattle.cc_meaning_world.specs.Changes.{with_instructions, with_status, with_statuses}
use Rattle.cc_meaning_world.specs.Acts.{Outcome, Next, Enter, Returns, Throws, Stops, Stuck, Act, run_act}
use Rattle.cc_meaning_world.specs.Throwing.{throw_new}
use Rattle.cc_meaning_exec.specs.Instructions.{act_at}
use Rattle.cc_meaning_exec.specs.Frames.{Frame, room_for}
use Rattle.cc_meaning_exec.specs.Exceptions.{End, Returned, Thrown, Stopped, Jammed, Raised, raised_by, new_exception, overflow, handler_for}
use Rattle.cc_meaning_exec.specs.Starts.{Climbed, starting, failed, values_act, put_statics, initialiser_of, is_error_in, wrapped_if, wrapped, with_failed, failed_with, all_fail, start_failed, start_refused}
use Rattle.cc_meaning_exec.specs.Eval.{Ran, ran, Reply, Here, Answer, Hook, Go, caught, thrown, failing, resume, told, as_ran, body_if, body, replied, call, after, after_acts, acts_at, Fails, initialised, initialise, valued, valued_in, starts, started, opened_if, opened, turn, eval_with}
use Rattle.cc_meaning_exec.specs.Laws.{KeepsLeft, HookSpends, BoundFree}
use Rattle.cc_step_laws.proofs.Kept.{run_kept}

-- ---- no step gives instructions back

abbrev pub Within : ℕ → World → Type 0
Within n w = w.counters.instructions ≤ n

pub run_within : (script : Script) (p : Program) (n : ℕ) (a : Act) (w : World) → Within n w → Within n (run_act script p a w).world
run_within script p n a w h = run_kept (λ left statuses. left ≤ n) script p a w h

pub exception_within : (script : Script) (p : Program) (n : ℕ) (name : List ℕ) (w : World) → Within n w → Within n (new_exception script p name w).world
unfolding new_exception raised_by
exception_within script p n name w h = run_within script p n (throw_new p name) w h

pub statics_within : (script : Script) (p : Program) (n class : ℕ) (w : World) → Within n w → Within n (put_statics script p class w).world
unfolding put_statics raised_by
statics_within script p n class w h = run_within script p n (values_act p class) w h

failed_with_within : (n : ℕ) (cs : List ℕ) (e : End) (w : World) → Within n w → Within n (failed_with cs e w).world
unfolding failed_with with_failed with_statuses
failed_with_within n cs (Returned v) w h = h
failed_with_within n cs (Thrown a) w h = h
failed_with_within n cs (Stopped c) w h = h
failed_with_within n cs Jammed w h = h

all_fail_within : (n : ℕ) (cs : List ℕ) (r : Raised) → Within n r.world → Within n (all_fail cs r).world
unfolding all_fail
all_fail_within n cs r h = failed_with_within n cs r.end r.world h

wrapped_if_within : (b : Bool) (script : Script) (p : Program) (n a : ℕ) (w : World) → Within n w → Within n (wrapped_if b script p a w).world
unfolding wrapped_if
wrapped_if_within true script p n a w h = h
wrapped_if_within false script p n a w h = exception_within script p n exception_in_initializer_error_name w h

pub failed_within : (script : Script) (p : Program) (n c : ℕ) (cs : List ℕ) (a : ℕ) (w : World) → Within n w → Within n (start_failed script p c cs a w).world
unfolding start_failed wrapped with_status with_statuses
failed_within script p n c cs a w h =
    all_fail_within n cs (wrapped script p a (with_status w c failed)) (wrapped_if_within (is_error_in p (slice_get w.objects a)) script p n a (with_status w c failed) h)

pub refused_within : (script : Script) (p : Program) (n : ℕ) (cs : List ℕ) (w : World) → Within n w → Within n (start_refused script p cs w).world
unfolding start_refused
refused_within script p n cs w h = all_fail_within n cs (new_exception script p no_class_def_found_error_name w) (exception_within script p n no_class_def_found_error_name w h)

pub overflow_within : (script : Script) (p : Program) (n : ℕ) (w : World) → Within n w → Within n (overflow script p w).world
unfolding overflow
overflow_within script p n w h = exception_within script p n stack_overflow_error_name w h

pub acts_within : (script : Script) (p : Program) (n : ℕ) (f : Frame) (w : World) → Within n w → Within n (acts_at script p f w).world
unfolding acts_at
acts_within script p n f w h = run_within script p n (act_at p f.method f.pc f.locals) w h

-- ---- two ways to go on that agree below a bound

abbrev pub LeftWithin : {T : Type 0} → ℕ → Ran T → Type 0
LeftWithin n (ran e w t) = Within n w

-- the same run, with no more than n instructions left
abbrev pub Same : {T : Type 0} → ℕ → Ran T → Ran T → Type 0
Same n r1 r2 = (r1 ≡ r2) × LeftWithin n r1

pub keeps_within : {T : Type 0} (n k : ℕ) → n ≤ k → (x : Reply T) → KeepsLeft n x → KeepsLeft k x
keeps_within n k le (Here t) h = tt
keeps_within n k le (Answer e w t) h = omega arith

-- a function of a run that respects both
same_by : {T U : Type 0} (n : ℕ) (g1 g2 : Ran T → Ran U) → ((r : Ran T) → LeftWithin n r → Same n (g1 r) (g2 r)) → (r1 r2 : Ran T) → Same n r1 r2 → Same n (g1 r1) (g2 r2)
same_by n g1 g2 both r1 r2 h = subst (λ r. Same n (g1 r1) (g2 r)) h.0 (both r1 h.1)

module _ {T : Type 0} (hook : Hook T) (spends : HookSpends hook) (script : Script) (p : Program) where
  Agree : ℕ → Go T → Go T → Type 0
  Agree n go1 go2 = (f : Frame) (w : World) (t : T) → Within n w → Same n (go1 f w t) (go2 f w t)

  module _ (n : ℕ) (go1 go2 : Go T) (ih : Agree n go1 go2) where
    caught_same : (f : Frame) (a : ℕ) (o : Option ℕ) (w : World) (t : T) → Within n w → Same n (caught go1 f a o w t) (caught go2 f a o w t)
    unfolding caught Agree
    caught_same f a None w t le = (refl, le)
    caught_same f a (Some target) w t le = ih _ w t le

    failing_same : (f : Frame) (e : End) (w : World) (t : T) → Within n w → Same n (failing go1 p f e w t) (failing go2 p f e w t)
    unfolding failing thrown
    failing_same f (Returned v) w t le = (refl, le)
    failing_same f (Thrown a) w t le = caught_same f a (handler_for p w a f) w t le
    failing_same f (Stopped c) w t le = (refl, le)
    failing_same f Jammed w t le = (refl, le)

    resume_same : (f : Frame) (next : ℕ) (r : Ran T) → LeftWithin n r → Same n (resume go1 p f next r) (resume go2 p f next r)
    unfolding resume thrown Agree
    resume_same f next (ran (Returned v) w t) le = ih _ w t le
    resume_same f next (ran (Thrown a) w t) le = caught_same f a (handler_for p w a f) w t le
    resume_same f next (ran (Stopped c) w t) le = (refl, le)
    resume_same f next (ran Jammed w t) le = (refl, le)

    told_same : (m : ℕ) (r : Ran T) → LeftWithin n r → Same n (told hook m r) (told hook m r)
    unfolding told
    told_same m (ran (Returned v) w t) le = (refl, le)
    told_same m (ran (Thrown a) w t) le = (refl, le)
    told_same m (ran (Stopped c) w t) le = (refl, le)
    told_same m (ran Jammed w t) le = (refl, le)

    body_same : (room : Bool) (m : ℕ) (args : List Value) (stack : Stack) (w : World) (t : T) → Within n w → Same n (body_if room go1 script p m args stack w t) (body_if room go2 script p m args stack w t)
    unfolding body_if as_ran Agree
    body_same true m args stack w t le = ih _ w t le
    body_same false m args stack w t le = (refl, overflow_within script p n w le)

    replied_same : (m : ℕ) (args : List Value) (stack : Stack) (w : World) (x : Reply T) → Within n w → KeepsLeft n x → Same n (replied hook go1 script p m args stack w x) (replied hook go2 script p m args stack w x)
    unfolding replied body
    replied_same m args stack w (Here t) le h = same_by n (told hook m) (told hook m) (told_same m) _ _ (body_same (room_for p m stack) m args stack w t le)
    replied_same m args stack w (Answer e w' t) le h = (refl, h)

    call_same : (m : ℕ) (args : List Value) (stack : Stack) (w : World) (t : T) → Within n w → Same n (call hook go1 script p m args stack w t) (call hook go2 script p m args stack w t)
    unfolding call
    call_same m args stack w t le =
        replied_same m args stack w (hook.entry m args stack w t) le (keeps_within w.counters.instructions n le (hook.entry m args stack w t) (spends m args stack w t))

    after_same : (f : Frame) (o : Outcome) (w : World) (t : T) → Within n w → Same n (after hook go1 script p f o w t) (after hook go2 script p f o w t)
    unfolding after thrown Agree
    after_same f (Next pc locals) w t le = ih _ w t le
    after_same f (Enter m args next) w t le = same_by n (resume go1 p f next) (resume go2 p f next) (resume_same f next) _ _ (call_same m args f.stack w t le)
    after_same f (Returns v) w t le = (refl, le)
    after_same f (Throws a) w t le = caught_same f a (handler_for p w a f) w t le
    after_same f (Stops c) w t le = (refl, le)
    after_same f Stuck w t le = (refl, le)

    FailsSame : Fails T → Fails T → Type 0
    FailsSame fail1 fail2 = (e : End) (w : World) (t : T) → Within n w → Same n (fail1 e w t) (fail2 e w t)

    FurtherSame : (World → T → Ran T) → (World → T → Ran T) → Type 0
    FurtherSame k1 k2 = (w : World) (t : T) → Within n w → Same n (k1 w t) (k2 w t)

    initialised_same : (c : ℕ) (cs : List ℕ) (fail1 fail2 : Fails T) (k1 k2 : World → T → Ran T) → FailsSame fail1 fail2 → FurtherSame k1 k2 →
        (r : Ran T) → LeftWithin n r → Same n (initialised script p fail1 c cs k1 r) (initialised script p fail2 c cs k2 r)
    unfolding initialised with_status with_statuses FailsSame FurtherSame
    initialised_same c cs fail1 fail2 k1 k2 fails further (ran (Returned v) w t) le = further _ t le
    initialised_same c cs fail1 fail2 k1 k2 fails further (ran (Thrown a) w t) le = fails _ _ t (failed_within script p n c cs a w le)
    initialised_same c cs fail1 fail2 k1 k2 fails further (ran (Stopped s) w t) le = (refl, le)
    initialised_same c cs fail1 fail2 k1 k2 fails further (ran Jammed w t) le = (refl, le)

    initialise_same : (stack : Stack) (c : ℕ) (cs : List ℕ) (fail1 fail2 : Fails T) (k1 k2 : World → T → Ran T) → FailsSame fail1 fail2 → FurtherSame k1 k2 →
        (o : Option ℕ) (w : World) (t : T) → Within n w → Same n (initialise hook go1 script p stack fail1 c cs k1 o w t) (initialise hook go2 script p stack fail2 c cs k2 o w t)
    unfolding initialise with_status with_statuses FurtherSame
    initialise_same stack c cs fail1 fail2 k1 k2 fails further None w t le = further _ t le
    initialise_same stack c cs fail1 fail2 k1 k2 fails further (Some m) w t le =
        same_by n (initialised script p fail1 c cs k1) (initialised script p fail2 c cs k2) (initialised_same c cs fail1 fail2 k1 k2 fails further) _ _ (call_same m [] stack w t le)

    valued_same : (stack : Stack) (c : ℕ) (cs : List ℕ) (fail1 fail2 : Fails T) (k1 k2 : World → T → Ran T) → FailsSame fail1 fail2 → FurtherSame k1 k2 →
        (e : End) (w : World) (t : T) → Within n w → Same n (valued hook go1 script p stack fail1 c cs k1 e w t) (valued hook go2 script p stack fail2 c cs k2 e w t)
    unfolding valued
    valued_same stack c cs fail1 fail2 k1 k2 fails further (Returned v) w t le = initialise_same stack c cs fail1 fail2 k1 k2 fails further (initialiser_of p c) w t le
    valued_same stack c cs fail1 fail2 k1 k2 fails further (Thrown a) w t le = (refl, le)
    valued_same stack c cs fail1 fail2 k1 k2 fails further (Stopped s) w t le = (refl, le)
    valued_same stack c cs fail1 fail2 k1 k2 fails further Jammed w t le = (refl, le)

    starts_same : (stack : Stack) (fail1 fail2 : Fails T) (k1 k2 : World → T → Ran T) → FailsSame fail1 fail2 → FurtherSame k1 k2 →
        (cs : List ℕ) (w : World) (t : T) → Within n w → Same n (starts hook go1 script p stack fail1 k1 cs w t) (starts hook go2 script p stack fail2 k2 cs w t)
    unfolding starts valued_in FurtherSame
    starts_same stack fail1 fail2 k1 k2 fails further [] w t le = further w t le
    starts_same stack fail1 fail2 k1 k2 fails further (c ∷ cs) w t le =
        valued_same stack c cs fail1 fail2 _ _ fails (λ w' t' le'. starts_same stack fail1 fail2 k1 k2 fails further cs w' t' le')
        (put_statics script p c w).end (put_statics script p c w).world t (statics_within script p n c w le)

    started_same : (f : Frame) (cs : List ℕ) (w : World) (t : T) → Within n w → Same n (started hook go1 script p f cs w t) (started hook go2 script p f cs w t)
    unfolding started after_acts FailsSame FurtherSame
    started_same f cs w t le = starts_same f.stack _ _ _ _ (λ e w' t' le'. failing_same f e w' t' le') (λ w' t' le'. after_same f _ _ _ (acts_within script p n f w' le')) cs w t le

    opened_same : (b : Bool) (f : Frame) (k : Climbed) (w : World) (t : T) → Within n w →
        Same n (opened_if b script p (failing go1 p f) (started hook go1 script p f) k w t) (opened_if b script p (failing go2 p f) (started hook go2 script p f) k w t)
    unfolding opened_if with_statuses
    opened_same true f k w t le = failing_same f _ _ t (refused_within script p n k.todo (with_statuses w k.statuses) le)
    opened_same false f k w t le = started_same f k.todo _ t le

    grows_within : (r : Ran T) → LeftWithin n r → LeftWithin (suc n) r
    grows_within (ran e w t) h = omega arith

    turn_same : (f : Frame) (left : ℕ) (w : World) (t : T) → Within (suc n) w → left ≤ suc n → Same (suc n) (turn hook go1 script p f left w t) (turn hook go2 script p f left w t)
    unfolding turn opened with_instructions
    turn_same f zero w t le lel = (refl, le)
    turn_same f (suc left) w t le lel =
        let q = opened_same (starting p f w).refused f (starting p f w) (with_instructions w left) (hook.spent f.method t) (omega arith) in
        (q.0, grows_within _ q.1)

  no_turn : (go : Go T) (f : Frame) (left : ℕ) (w : World) (t : T) → left ≤ 0 → turn hook go script p f left w t ≡ ran (Stopped Budget) w t
  unfolding turn
  no_turn go f zero w t h = refl
  no_turn go f (suc left) w t h = absurd (omega arith)

  no_eval : (n : ℕ) (f : Frame) (w : World) (t : T) → Within 0 w → eval_with hook script p n f w t ≡ ran (Stopped Budget) w t
  unfolding eval_with
  no_eval zero f w t h = refl
  no_eval (suc n) f w t h = no_turn (eval_with hook script p n) f w.counters.instructions w t h

  evals_agree : (l n k : ℕ) → l ≤ n → l ≤ k → Agree l (eval_with hook script p n) (eval_with hook script p k)
  unfolding eval_with Agree turn
  evals_agree zero n k ln lk f w t le =
      let a = no_eval n f w t le in
      let b = no_eval k f w t le in
      (a ∙ sym b, subst (λ r. LeftWithin 0 r) (sym a) le)
  evals_agree (suc l) zero k ln lk f w t le = absurd (omega arith)
  evals_agree (suc l) (suc n) zero ln lk f w t le = absurd (omega arith)
  evals_agree (suc l) (suc n) (suc k) ln lk f w t le =
      turn_same l (eval_with hook script p n) (eval_with hook script p k) (evals_agree l n k (omega arith) (omega arith)) f w.counters.instructions w t le le

pub bound_free : {T : Type 0} (hook : Hook T) (script : Script) (p : Program) → HookSpends hook → BoundFree hook script p
unfolding Agree
bound_free hook script p spends n k f w t ln lk = (evals_agree hook spends script p w.counters.instructions n k ln lk f w t (omega arith)).0

-- the meaning is its own turn
pub eval_turn : {T : Type 0} (hook : Hook T) (script : Script) (p : Program) → HookSpends hook → (n : ℕ) (f : Frame) (w : World) (t : T) → w.counters.instructions ≤ n →
    eval_with hook script p n f w t ≡ turn hook (eval_with hook script p n) script p f w.counters.instructions w t
unfolding eval_with
eval_turn hook script p spends n f w t h = bound_free hook script p spends n (suc n) f w t h (omega arith)
