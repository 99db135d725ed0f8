-- What each step of a run carries on from one world to the next, a method carries on from its entry to its end.
use Rattle.std.proofs.Common.{ℕ, zero, suc, List, [], ◌∷◌, Bool, true, false, Option, Some, None, slice_get}
use Rattle.cc_meaning.specs.declared.program.Program.{Program}
use Rattle.cc_meaning.specs.declared.script.Script.{Script}
use Rattle.cc_meaning.specs.declared.value.Value.{Value}
use Rattle.cc_meaning.specs.BuiltIn.{exception_in_initializer_error_name, no_class_def_found_error_name, stack_overflow_error_name}
use Rattle.cc_meaning_world.specs.World.{World, Stack}
use Rattle.cc_meaning_world.specs.Changes.{with_instructions, with_status, with_statuses}
use Rattle.cc_meaning_world.specs.Acts.{Act, Outcome, Next, Enter, Returns, Throws, Stops, Stuck, run_act}
use Rattle.cc_meaning_world.specs.Throwing.{throw_new}
use Rattle.cc_meaning_exec.specs.Instructions.{act_at}
use Rattle.cc_meaning_exec.specs.Frames.{Frame, room_for}
use Rattle.cc_meaning_exec.specs.Exceptions.{End, Returned, Thrown, Stopped, Jammed, Raised, raised_by, new_exception, overflow, handler_for}
use Rattle.cc_meaning_exec.specs.Starts.{Climbed, starting, failed, values_act, put_statics, initialiser_of, is_error_in, wrapped_if, wrapped, with_failed, failed_with, all_fail, start_failed, start_refused}
use Rattle.cc_meaning_exec.specs.Eval.{Ran, ran, Reply, Here, Answer, Hook, Go, caught, thrown, failing, resume, told, as_ran, body_if, body, replied, call, after, after_acts, acts_at, Fails, initialised, initialise, valued, valued_in, starts, started, opened_if, opened, turn, eval_with}

-- what is carried on: by doing nothing, by one step behind another, by the steps of an act, by spending an instruction, and by statuses that change
pub record Carries (script : Script) (p : Program) (R : World → World → Type 0) : Type 0 where
  pub still : (w : World) → R w w
  pub joined : (a b c : World) → R a b → R b c → R a c
  pub acts : (act : Act) (w : World) → R w (run_act script p act w).world
  pub spends : (w : World) (k : ℕ) → R w (with_instructions w k)
  pub statuses : (w : World) (ss : List ℕ) → R w (with_statuses w ss)

-- a reply of a hook that carries it on
abbrev pub ReplyCarries : {T : Type 0} → (World → World → Type 0) → World → Reply T → Type 0
ReplyCarries R w (Here t) = Unit {0}
ReplyCarries R w (Answer e w' t) = R w w'

abbrev pub HookCarries : {T : Type 0} → (World → World → Type 0) → Hook T → Type 0
HookCarries {T} R hook = (m : ℕ) (args : List Value) (stack : Stack) (w : World) (t : T) → ReplyCarries R w (hook.entry m args stack w t)

abbrev pub Comes : {T : Type 0} → (World → World → Type 0) → World → Ran T → Type 0
Comes R w (ran e w' t) = R w w'

module _ (script : Script) (p : Program) (R : World → World → Type 0) (c : Carries script p R) where
  new_carried : (name : List ℕ) (w : World) → R w (new_exception script p name w).world
  unfolding new_exception raised_by
  new_carried name w = c.acts (throw_new p name) w

  statics_carried : (class : ℕ) (w : World) → R w (put_statics script p class w).world
  unfolding put_statics raised_by
  statics_carried class w = c.acts (values_act p class) w

  status_carried : (w : World) (class status : ℕ) → R w (with_status w class status)
  unfolding with_status
  status_carried w class status = c.statuses w _

  failed_with_carried : (cs : List ℕ) (e : End) (w : World) → R w (failed_with cs e w).world
  unfolding failed_with with_failed
  failed_with_carried cs (Returned v) w = c.still w
  failed_with_carried cs (Thrown a) w = c.statuses w _
  failed_with_carried cs (Stopped s) w = c.still w
  failed_with_carried cs Jammed w = c.still w

  all_fail_carried : (cs : List ℕ) (w : World) (r : Raised) → R w r.world → R w (all_fail cs r).world
  unfolding all_fail
  all_fail_carried cs w r h = c.joined w r.world _ h (failed_with_carried cs r.end r.world)

  wrapped_if_carried : (b : Bool) (a : ℕ) (w : World) → R w (wrapped_if b script p a w).world
  unfolding wrapped_if
  wrapped_if_carried true a w = c.still w
  wrapped_if_carried false a w = new_carried exception_in_initializer_error_name w

  start_failed_carried : (class : ℕ) (cs : List ℕ) (a : ℕ) (w : World) → R w (start_failed script p class cs a w).world
  unfolding start_failed wrapped
  start_failed_carried class cs a w =
      all_fail_carried cs w _ (c.joined w (with_status w class failed) _ (status_carried w class failed) (wrapped_if_carried (is_error_in p (slice_get (with_status w class failed).objects a)) a (with_status w class failed)))

  refused_carried : (cs : List ℕ) (w : World) → R w (start_refused script p cs w).world
  unfolding start_refused
  refused_carried cs w = all_fail_carried cs w _ (new_carried no_class_def_found_error_name w)

  overflow_carried : (w : World) → R w (overflow script p w).world
  unfolding overflow
  overflow_carried w = new_carried stack_overflow_error_name w

  acts_carried : (f : Frame) (w : World) → R w (acts_at script p f w).world
  unfolding acts_at
  acts_carried f w = c.acts (act_at p f.method f.pc f.locals) w

  module _ {T : Type 0} (hook : Hook T) (hooked : HookCarries R hook) where
    behind : (a b : World) (r : Ran T) → R a b → Comes R b r → Comes R a r
    behind a b (ran e w t) h k = c.joined a b w h k

    told_comes : (m : ℕ) (w : World) (r : Ran T) → Comes R w r → Comes R w (told hook m r)
    unfolding told
    told_comes m w (ran (Returned v) w' t) h = h
    told_comes m w (ran (Thrown a) w' t) h = h
    told_comes m w (ran (Stopped s) w' t) h = h
    told_comes m w (ran Jammed w' t) h = h

    GoComes : Go T → Type 0
    GoComes go = (f : Frame) (w : World) (t : T) → Comes R w (go f w t)

    module _ (go : Go T) (ih : GoComes go) where
      caught_comes : (f : Frame) (a : ℕ) (o : Option ℕ) (w : World) (t : T) → Comes R w (caught go f a o w t)
      unfolding caught GoComes
      caught_comes f a None w t = c.still w
      caught_comes f a (Some target) w t = ih _ w t

      thrown_comes : (f : Frame) (a : ℕ) (w : World) (t : T) → Comes R w (thrown go p f a w t)
      unfolding thrown
      thrown_comes f a w t = caught_comes f a (handler_for p w a f) w t

      failing_comes : (f : Frame) (e : End) (w : World) (t : T) → Comes R w (failing go p f e w t)
      unfolding failing
      failing_comes f (Returned v) w t = c.still w
      failing_comes f (Thrown a) w t = thrown_comes f a w t
      failing_comes f (Stopped s) w t = c.still w
      failing_comes f Jammed w t = c.still w

      resume_comes : (f : Frame) (next : ℕ) (w : World) (r : Ran T) → Comes R w r → Comes R w (resume go p f next r)
      unfolding resume GoComes
      resume_comes f next w (ran (Returned v) w' t) h = behind w w' _ h (ih _ w' t)
      resume_comes f next w (ran (Thrown a) w' t) h = behind w w' _ h (thrown_comes f a w' t)
      resume_comes f next w (ran (Stopped s) w' t) h = h
      resume_comes f next w (ran Jammed w' t) h = h

      body_comes : (b : Bool) (m : ℕ) (args : List Value) (stack : Stack) (w : World) (t : T) → Comes R w (body_if b go script p m args stack w t)
      unfolding body_if as_ran GoComes
      body_comes true m args stack w t = ih _ w t
      body_comes false m args stack w t = overflow_carried w

      replied_comes : (m : ℕ) (args : List Value) (stack : Stack) (w : World) (x : Reply T) → ReplyCarries R w x → Comes R w (replied hook go script p m args stack w x)
      unfolding replied body
      replied_comes m args stack w (Here t) h = told_comes m w _ (body_comes (room_for p m stack) m args stack w t)
      replied_comes m args stack w (Answer e w' t) h = h

      call_comes : (m : ℕ) (args : List Value) (stack : Stack) (w : World) (t : T) → Comes R w (call hook go script p m args stack w t)
      unfolding call
      call_comes m args stack w t = replied_comes m args stack w (hook.entry m args stack w t) (hooked m args stack w t)

      after_comes : (f : Frame) (o : Outcome) (w : World) (t : T) → Comes R w (after hook go script p f o w t)
      unfolding after GoComes
      after_comes f (Next pc locals) w t = ih _ w t
      after_comes f (Enter m args next) w t = resume_comes f next w _ (call_comes m args f.stack w t)
      after_comes f (Returns v) w t = c.still w
      after_comes f (Throws a) w t = thrown_comes f a w t
      after_comes f (Stops s) w t = c.still w
      after_comes f Stuck w t = c.still w

      FailComes : Fails T → Type 0
      FailComes fail = (e : End) (w : World) (t : T) → Comes R w (fail e w t)

      FurtherComes : (World → T → Ran T) → Type 0
      FurtherComes further = (w : World) (t : T) → Comes R w (further w t)

      initialised_comes : (fail : Fails T) (class : ℕ) (cs : List ℕ) (further : World → T → Ran T) → FailComes fail → FurtherComes further → (w : World) (r : Ran T) → Comes R w r →
          Comes R w (initialised script p fail class cs further r)
      unfolding initialised FailComes FurtherComes
      initialised_comes fail class cs further fails k w (ran (Returned v) w' t) h = behind w w' _ h (behind w' _ _ (status_carried w' class _) (k _ t))
      initialised_comes fail class cs further fails k w (ran (Thrown a) w' t) h = behind w w' _ h (behind w' _ _ (start_failed_carried class cs a w') (fails _ _ t))
      initialised_comes fail class cs further fails k w (ran (Stopped s) w' t) h = h
      initialised_comes fail class cs further fails k w (ran Jammed w' t) h = h

      initialise_comes : (stack : Stack) (fail : Fails T) (class : ℕ) (cs : List ℕ) (further : World → T → Ran T) → FailComes fail → FurtherComes further → (o : Option ℕ) (w : World) (t : T) →
          Comes R w (initialise hook go script p stack fail class cs further o w t)
      unfolding initialise FurtherComes
      initialise_comes stack fail class cs further fails k None w t = behind w _ _ (status_carried w class _) (k _ t)
      initialise_comes stack fail class cs further fails k (Some m) w t = initialised_comes fail class cs further fails k w _ (call_comes m [] stack w t)

      valued_comes : (stack : Stack) (fail : Fails T) (class : ℕ) (cs : List ℕ) (further : World → T → Ran T) → FailComes fail → FurtherComes further → (e : End) (w : World) (t : T) →
          Comes R w (valued hook go script p stack fail class cs further e w t)
      unfolding valued
      valued_comes stack fail class cs further fails k (Returned v) w t = initialise_comes stack fail class cs further fails k (initialiser_of p class) w t
      valued_comes stack fail class cs further fails k (Thrown a) w t = c.still w
      valued_comes stack fail class cs further fails k (Stopped s) w t = c.still w
      valued_comes stack fail class cs further fails k Jammed w t = c.still w

      starts_come : (stack : Stack) (fail : Fails T) (further : World → T → Ran T) → FailComes fail → FurtherComes further → (cs : List ℕ) (w : World) (t : T) →
          Comes R w (starts hook go script p stack fail further cs w t)
      unfolding starts valued_in FurtherComes
      starts_come stack fail further fails k [] w t = k w t
      starts_come stack fail further fails k (class ∷ cs) w t =
          behind w (put_statics script p class w).world _ (statics_carried class w)
          (valued_comes stack fail class cs _ fails (λ w' t'. starts_come stack fail further fails k cs w' t') (put_statics script p class w).end (put_statics script p class w).world t)

      started_comes : (f : Frame) (cs : List ℕ) (w : World) (t : T) → Comes R w (started hook go script p f cs w t)
      unfolding started after_acts FailComes FurtherComes
      started_comes f cs w t = starts_come f.stack (failing go p f) _ (failing_comes f) (λ w' t'. behind w' _ _ (acts_carried f w') (after_comes f _ _ _)) cs w t

      opened_comes : (b : Bool) (f : Frame) (k : Climbed) (w : World) (t : T) → Comes R w (opened_if b script p (failing go p f) (started hook go script p f) k w t)
      unfolding opened_if
      opened_comes true f k w t = behind w (with_statuses w k.statuses) _ (c.statuses w k.statuses) (behind _ _ _ (refused_carried k.todo (with_statuses w k.statuses)) (failing_comes f _ _ t))
      opened_comes false f k w t = behind w (with_statuses w k.statuses) _ (c.statuses w k.statuses) (started_comes f k.todo _ t)

      turn_comes : (f : Frame) (left : ℕ) (w : World) (t : T) → Comes R w (turn hook go script p f left w t)
      unfolding turn opened
      turn_comes f zero w t = c.still w
      turn_comes f (suc left) w t = behind w (with_instructions w left) _ (c.spends w left) (opened_comes (starting p f w).refused f (starting p f w) (with_instructions w left) (hook.spent f.method t))

    pub eval_comes : (n : ℕ) (f : Frame) (w : World) (t : T) → Comes R w (eval_with hook script p n f w t)
    unfolding eval_with GoComes
    eval_comes zero f w t = c.still w
    eval_comes (suc n) f w t = turn_comes (eval_with hook script p n) (eval_comes n) f w.counters.instructions w t
