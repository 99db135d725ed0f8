-- What is right of a hook's notes at the end was right before.
use Rattle.std.proofs.Common.{ℕ, zero, suc, Bool, true, false, List, [], ◌∷◌, Option, Some, None}
use Rattle.std.specs.Prelude.{IsTrue}
use Rattle.cc_meaning.specs.declared.program.Program.{Program}
use Rattle.cc_meaning.specs.declared.script.Script.{Script}
use Rattle.cc_meaning.specs.declared.value.Value.{Value}
use Rattle.cc_meaning_world.specs.World.{World, Stack}
use Rattle.cc_meaning_world.specs.Changes.{with_instructions}
use Rattle.cc_meaning_world.specs.Acts.{Outcome, Next, Enter, Returns, Throws, Stops, Stuck, Reached}
use Rattle.cc_meaning_exec.specs.Frames.{Frame, handling, moved, resumed, frame_for, room_for}
use Rattle.cc_meaning_exec.specs.Exceptions.{End, Returned, Thrown, Stopped, Jammed, Raised, handler_for, overflow}
use Rattle.cc_meaning_exec.specs.Starts.{Climbed, starting, put_statics, initialiser_of}
use Rattle.cc_meaning_exec.specs.Eval.{Ran, ran, Reply, Here, Answer, Hook, Go, caught, thrown, failing, resume, told, as_ran, body_if, body, replied, call, after, told_calls, after_acts, acts_at, Fails, initialised, initialise, valued, valued_in, starts, started, opened_if, opened, turn, eval_with}
use Rattle.cc_meaning_alike.specs.Acts.{asks_within, AsksWithin}
use Rattle.cc_meaning_alike.specs.Ends.{WasRight, StaysRight}

-- what was noted before is right where the notes at the end are
abbrev pub Was : {T : Type 0} → (T → Bool) → T → Ran T → Type 0
Was ok t (ran e w t') = IsTrue (ok t') → IsTrue (ok t)

abbrev pub GoWas : {T : Type 0} → (T → Bool) → Go T → Type 0
GoWas {T} ok go = (f : Frame) (w : World) (t : T) → Was ok t (go f w t)

abbrev pub FailWas : {T : Type 0} → (T → Bool) → Fails T → Type 0
FailWas {T} ok fail = (e : End) (w : World) (t : T) → Was ok t (fail e w t)

abbrev pub FurtherWas : {T : Type 0} → (T → Bool) → (World → T → Ran T) → Type 0
FurtherWas {T} ok further = (w : World) (t : T) → Was ok t (further w t)

module _ {T : Type 0} (ok : T → Bool) (script : Script) (p : Program) (hook : Hook T) (right : StaysRight ok hook) where
  was_before : (a b : T) (r : Ran T) → (IsTrue (ok b) → IsTrue (ok a)) → Was ok b r → Was ok a r
  was_before a b (ran e w t) h g = λ o. h (g o)

  pub told_was : (t : T) (m : ℕ) (r : Ran T) → Was ok t r → Was ok t (told hook m r)
  unfolding told
  told_was t m (ran (Returned v) w t') h = λ o. h (right.ended m (Returned v) w t' o)
  told_was t m (ran (Thrown a) w t') h = λ o. h (right.ended m (Thrown a) w t' o)
  told_was t m (ran (Stopped c) w t') h = h
  told_was t m (ran Jammed w t') h = h

  pub calls_were : (ms : List ℕ) (t : T) → IsTrue (ok (told_calls hook ms t)) → IsTrue (ok t)
  unfolding told_calls
  calls_were [] t o = o
  calls_were (m ∷ ms) t o = right.called m t (calls_were ms (hook.called m t) o)

  as_ran_was : (r : Raised) (t : T) → Was ok t (as_ran r t)
  unfolding as_ran
  as_ran_was r t = λ o. o

  module _ (go : Go T) (ih : GoWas ok go) where
    caught_was : (f : Frame) (a : ℕ) (x : Option ℕ) (w : World) (t : T) → Was ok t (caught go f a x w t)
    unfolding caught
    caught_was f a None w t = λ o. o
    caught_was f a (Some target) w t = ih (handling f target a) w t

    pub thrown_was : (f : Frame) (a : ℕ) (w : World) (t : T) → Was ok t (thrown go p f a w t)
    unfolding thrown
    thrown_was f a w t = caught_was f a (handler_for p w a f) w t

    pub failing_was : (f : Frame) → FailWas ok (failing go p f)
    unfolding failing
    failing_was f (Returned v) w t = λ o. o
    failing_was f (Thrown a) w t = thrown_was f a w t
    failing_was f (Stopped c) w t = λ o. o
    failing_was f Jammed w t = λ o. o

    pub resume_was : (t : T) (f : Frame) (next : ℕ) (r : Ran T) → Was ok t r → Was ok t (resume go p f next r)
    unfolding resume
    resume_was t f next (ran (Returned v) w t') h = was_before t t' _ h (ih (resumed f next v) w t')
    resume_was t f next (ran (Thrown a) w t') h = was_before t t' _ h (thrown_was f a w t')
    resume_was t f next (ran (Stopped c) w t') h = h
    resume_was t f next (ran Jammed w t') h = h

    body_if_was : (b : Bool) (m : ℕ) (args : List Value) (stack : Stack) (w : World) (t : T) → Was ok t (body_if b go script p m args stack w t)
    unfolding body_if
    body_if_was true m args stack w t = ih (frame_for p m args stack) w t
    body_if_was false m args stack w t = as_ran_was (overflow script p w) t

    pub body_was : (m : ℕ) (args : List Value) (stack : Stack) (w : World) (t : T) → Was ok t (body go script p m args stack w t)
    unfolding body
    body_was m args stack w t = body_if_was (room_for p m stack) m args stack w t

    replied_was : (t : T) (m : ℕ) (args : List Value) (stack : Stack) (w : World) (x : Reply T) → WasRight ok t x → Was ok t (replied hook go script p m args stack w x)
    unfolding replied
    replied_was t m args stack w (Here t') h = was_before t t' _ h (told_was t' m _ (body_was m args stack w t'))
    replied_was t m args stack w (Answer e w' t') h = h

    pub call_was : (m : ℕ) (args : List Value) (stack : Stack) (w : World) (t : T) → Was ok t (call hook go script p m args stack w t)
    unfolding call
    call_was m args stack w t = replied_was t m args stack w (hook.entry m args stack w t) (right.entry m args stack w t)

    pub after_was : (f : Frame) (o : Outcome) (w : World) (t : T) → Was ok t (after hook go script p f o w t)
    unfolding after
    after_was f (Next pc l) w t = ih (moved f pc l) w t
    after_was f (Enter m args next) w t = resume_was t f next _ (call_was m args f.stack w t)
    after_was f (Returns v) w t = λ o. o
    after_was f (Throws a) w t = thrown_was f a w t
    after_was f (Stops c) w t = λ o. o
    after_was f Stuck w t = λ o. o

    pub after_acts_was : (f : Frame) (r : Reached) (t : T) → Was ok t (after_acts hook go script p f r t)
    unfolding after_acts
    after_acts_was f r t = was_before t (told_calls hook r.called t) _ (calls_were r.called t) (after_was f r.outcome r.world (told_calls hook r.called t))

    -- ---- the start of classes

    module _ (stack : Stack) (fail : Fails T) (fail_was : FailWas ok fail) where
      pub initialised_was : (t : T) (c : ℕ) (cs : List ℕ) (further : World → T → Ran T) → FurtherWas ok further → (r : Ran T) → Was ok t r → Was ok t (initialised script p fail c cs further r)
      unfolding initialised
      initialised_was t c cs further k (ran (Returned v) w t') h = was_before t t' _ h (k _ t')
      initialised_was t c cs further k (ran (Thrown a) w t') h = was_before t t' _ h (fail_was _ _ t')
      initialised_was t c cs further k (ran (Stopped s) w t') h = h
      initialised_was t c cs further k (ran Jammed w t') h = h

      initialise_was : (c : ℕ) (cs : List ℕ) (further : World → T → Ran T) → FurtherWas ok further → (x : Option ℕ) (w : World) (t : T) → Was ok t (initialise hook go script p stack fail c cs further x w t)
      unfolding initialise
      initialise_was c cs further k None w t = k _ t
      initialise_was c cs further k (Some m) w t = initialised_was t c cs further k _ (call_was m [] stack w t)

      valued_was : (c : ℕ) (cs : List ℕ) (further : World → T → Ran T) → FurtherWas ok further → (e : End) (w : World) (t : T) → Was ok t (valued hook go script p stack fail c cs further e w t)
      unfolding valued
      valued_was c cs further k (Returned v) w t = initialise_was c cs further k (initialiser_of p c) w t
      valued_was c cs further k (Thrown a) w t = λ o. o
      valued_was c cs further k (Stopped s) w t = λ o. o
      valued_was c cs further k Jammed w t = λ o. o

      pub starts_was : (further : World → T → Ran T) → FurtherWas ok further → (cs : List ℕ) (w : World) (t : T) → Was ok t (starts hook go script p stack fail further cs w t)
      unfolding starts valued_in
      starts_was further k [] w t = k w t
      starts_was further k (c ∷ cs) w t = valued_was c cs _ (λ w' t'. starts_was further k cs w' t') (put_statics script p c w).end (put_statics script p c w).world t

    pub started_was : (f : Frame) (cs : List ℕ) → FurtherWas ok (started hook go script p f cs)
    unfolding started
    started_was f cs w t = starts_was f.stack (failing go p f) (failing_was f) _ (λ w' t'. after_acts_was f (acts_at script p f w') t') cs w t

    opened_if_was : (fail : Fails T) → FailWas ok fail → (further : List ℕ → World → T → Ran T) → ((cs : List ℕ) → FurtherWas ok (further cs)) → (b : Bool) (k : Climbed) (w : World) (t : T) → Was ok t (opened_if b script p fail further k w t)
    unfolding opened_if
    opened_if_was fail fail_was further further_was true k w t = fail_was _ _ t
    opened_if_was fail fail_was further further_was false k w t = further_was k.todo _ t

    pub opened_was : (fail : Fails T) → FailWas ok fail → (further : List ℕ → World → T → Ran T) → ((cs : List ℕ) → FurtherWas ok (further cs)) → (k : Climbed) (w : World) (t : T) → Was ok t (opened script p fail further k w t)
    unfolding opened
    opened_was fail fail_was further further_was k w t = opened_if_was fail fail_was further further_was k.refused k w t

    turn_was : (f : Frame) (left : ℕ) (w : World) (t : T) → Was ok t (turn hook go script p f left w t)
    unfolding turn
    turn_was f zero w t = λ o. o
    turn_was f (suc k) w t = was_before t (hook.spent f.method t) _ (right.spent f.method t)
        (opened_was (failing go p f) (failing_was f) (started hook go script p f) (started_was f) (starting p f w) (with_instructions w k) (hook.spent f.method t))

  pub eval_was : (n : ℕ) → GoWas ok (eval_with hook script p n)
  unfolding eval_with
  eval_was zero f w t = λ o. o
  eval_was (suc n) f w t = turn_was (eval_with hook script p n) (eval_was n) f w.counters.instructions w t

-- then no answer was taken of a class outside K
pub calls_within : {T : Type 0} (ok : T → Bool) (K : ℕ → Bool) (script : Script) (p : Program) (hook : Hook T) → StaysRight ok hook → ((m : ℕ) (t : T) → IsTrue (ok (hook.called m t)) → IsTrue (asks_within K script p m)) →
    (ms : List ℕ) (t : T) → IsTrue (ok (told_calls hook ms t)) → AsksWithin K script p ms
unfolding told_calls
calls_within ok K script p hook right asks [] t o = tt
calls_within ok K script p hook right asks (m ∷ ms) t o = (asks m t (calls_were ok script p hook right ms (hook.called m t) o), calls_within ok K script p hook right asks ms (hook.called m t) o)
