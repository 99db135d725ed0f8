-- A bound on turns that is large enough doesn't matter.
use Rattle.std.proofs.Common.{◌≡◌, ℕ, zero, suc, ◌≤◌, Bool, true, false, List, length, Option, Some, None, refl, sym, ◌∙◌, subst, arith, slice_get}
use Rattle.cc_meaning.specs.declared.value.Value.{Value}
use Rattle.cc_meaning.specs.declared.report.StopCause.TheVariants as cause
use Rattle.cc_meaning.specs.declared.report.Event.TheVariants as event
use Rattle.cc_meaning.specs.Words.{words_of, words_of_event}
use Rattle.cc_meaning_run.specs.World.{Setting, World, Stack, Locals}
use Rattle.cc_meaning_run.specs.Acts.{Outcome, Next, Enter, Returns, Throws, Stops, Stuck, Act, Done, Make, Look, GetStatic, GetStatus, Tell, Reached, less_by, with_words, pay, with_object, with_event, found, noted, run_act}
use Rattle.cc_meaning.specs.BuiltIn.{stack_overflow_error_name}
use Rattle.cc_meaning_run.specs.Instructions.{throw_new, code_of, act_at}
use Rattle.cc_meaning_run.specs.Eval.{Returned, Thrown, Stopped, Jammed, Ran, ran, Reply, Here, Answer, Hook, Go, resume, has_room, overflowed_by, overflowed, body_if, body, replied, after, with_instructions, turn_in, turn, eval_with}
use Rattle.cc_meaning_run.specs.Laws.{KeepsLeft, HookSpends, BoundFree}

-- ---- no step gives instructions back

abbrev pub Within : ℕ → World → Type 0
Within n w = w.counters.instructions ≤ n

pay_within : (n : ℕ) (words : Option ℕ) (w : World) (go : World → Reached) → Within n w → ((w' : World) → Within n w' → Within n (go w').world) → Within n (pay words w go).world
unfolding pay with_words
pay_within n None w go h rest = h
pay_within n (Some k) w go h rest = rest (record w { counters = record w.counters { words = k } }) h

found_within : {A : Type 0} (n : ℕ) (x : Option A) (w : World) (go : A → Reached) → Within n w → ((a : A) → Within n (go a).world) → Within n (found x w go).world
unfolding found
found_within n None w go h rest = h
found_within n (Some a) w go h rest = rest a

pub run_within : (n : ℕ) (a : Act) (w : World) → Within n w → Within n (run_act a w).world
unfolding run_act with_object with_event noted
run_within n (Done o) w h = h
run_within n (Make o k) w h = pay_within n (less_by (words_of o) w.counters.words) w _ h (λ w' h'. run_within n (k (length w'.objects)) (with_object w' o) h')
run_within n (Look a k) w h = found_within n (slice_get w.objects a) w _ h (λ o. run_within n (k o) w h)
run_within n (GetStatic i k) w h = found_within n (slice_get w.statics i) w _ h (λ v. run_within n (k v) w h)
run_within n (GetStatus c k) w h = found_within n (slice_get w.counters.statuses c) w _ h (λ status. run_within n (k status) w h)
run_within n (Tell m units k) w h = pay_within n (less_by (words_of_event (event.Print units)) w.counters.words) w _ h (λ w' h'. run_within n k (with_event w' (event.Print units)) h')

-- ---- two ways to go on that agree below a bound

abbrev LeftWithin : {T : Type 0} → ℕ → Ran T → Type 0
LeftWithin n (ran e w t) = Within n w

-- the same run, with no more than n instructions left
abbrev Same : {T : Type 0} → ℕ → Ran T → Ran T → Type 0
Same n r1 r2 = (r1 ≡ r2) × LeftWithin n r1

keeps_within : {T : Type 0} (n k : ℕ) → n ≤ k → (x : Reply T) → KeepsLeft n x → KeepsLeft k x
keeps_within n k le (Here t) h = tt
keeps_within n k le (Answer e w t) h = omega arith

module _ {T : Type 0} (hook : Hook T) (spends : HookSpends hook) (s : Setting) where
  Agree : ℕ → Go T → Go T → Type 0
  Agree n go1 go2 = (m pc : ℕ) (locals : Locals) (stack : Stack) (w : World) (t : T) → Within n w → Same n (go1 m pc locals stack w t) (go2 m pc locals stack w t)

  module _ (n : ℕ) (go1 go2 : Go T) (ih : Agree n go1 go2) where
    resume_same : (m next : ℕ) (locals : Locals) (stack : Stack) (r1 r2 : Ran T) → Same n r1 r2 → Same n (resume go1 m next locals stack r1) (resume go2 m next locals stack r2)
    unfolding resume Agree
    resume_same m next locals stack r1 r2 h = subst (λ r. Same n (resume go1 m next locals stack r1) (resume go2 m next locals stack r)) h.0 (cases r1 h.1)
      where
        cases : (r : Ran T) → LeftWithin n r → Same n (resume go1 m next locals stack r) (resume go2 m next locals stack r)
        cases (ran (Returned v) w t) le = ih m next _ stack w t le
        cases (ran (Thrown a) w t) le = (refl, le)
        cases (ran (Stopped c) w t) le = (refl, le)
        cases (ran Jammed w t) le = (refl, le)

    overflowed_same : (o : Outcome) (w : World) (t : T) → Within n w → Same n (overflowed_by o w t) (overflowed_by o w t)
    unfolding overflowed_by
    overflowed_same (Next pc' locals') w t le = (refl, le)
    overflowed_same (Enter callee args next) w t le = (refl, le)
    overflowed_same (Returns v) w t le = (refl, le)
    overflowed_same (Throws a) w t le = (refl, le)
    overflowed_same (Stops c) w t le = (refl, le)
    overflowed_same Stuck w t le = (refl, le)

    body_same : (room : Bool) (callee : ℕ) (args : List Value) (stack : Stack) (w : World) (t : T) → Within n w → Same n (body_if room go1 s callee args stack w t) (body_if room go2 s callee args stack w t)
    unfolding body_if overflowed Agree
    body_same true callee args stack w t le = ih callee 0 _ _ w t le
    body_same false callee args stack w t le =
        let r = run_act (throw_new s.program stack_overflow_error_name) w in
        overflowed_same r.outcome r.world t (run_within n (throw_new s.program stack_overflow_error_name) w le)

    replied_same : (callee : ℕ) (args : List Value) (stack : Stack) (w : World) (x : Reply T) → Within n w → KeepsLeft n x → Same n (replied go1 s callee args stack w x) (replied go2 s callee args stack w x)
    unfolding replied body
    replied_same callee args stack w (Here t) le h = body_same (has_room (code_of s.program callee) stack) callee args stack w t le
    replied_same callee args stack w (Answer e w' t) le h = (refl, h)

    after_same : (m : ℕ) (locals : Locals) (stack : Stack) (o : Outcome) (w : World) (t : T) → Within n w → Same n (after hook go1 s m locals stack o w t) (after hook go2 s m locals stack o w t)
    unfolding after Agree
    after_same m locals stack (Next pc' locals') w t le = ih m pc' locals' stack w t le
    after_same m locals stack (Enter callee args next) w t le =
        resume_same m next locals stack _ _ (replied_same callee args stack w (hook.entry callee args stack w t) le (keeps_within w.counters.instructions n le (hook.entry callee args stack w t) (spends callee args stack w t)))
    after_same m locals stack (Returns v) w t le = (refl, le)
    after_same m locals stack (Throws a) w t le = (refl, le)
    after_same m locals stack (Stops c) w t le = (refl, le)
    after_same m locals stack Stuck w t le = (refl, le)

    grows_within : (r : Ran T) → LeftWithin n r → LeftWithin (suc n) r
    grows_within (ran e w t) h = omega arith

    turn_same : (m pc : ℕ) (locals : Locals) (stack : Stack) (left : ℕ) (w : World) (t : T) → Within (suc n) w → left ≤ suc n → Same (suc n) (turn hook go1 s m pc locals stack left w t) (turn hook go2 s m pc locals stack left w t)
    unfolding turn turn_in with_instructions
    turn_same m pc locals stack zero w t le lel = (refl, le)
    turn_same m pc locals stack (suc left) w t le lel =
        let r = run_act (act_at s.program m pc locals) (with_instructions w left) in
        let q = after_same m locals stack r.outcome r.world (hook.turned stack.depth r.called t) (run_within n (act_at s.program m pc locals) (with_instructions w left) (omega arith)) in
        (q.0, grows_within _ q.1)

  no_turn : (go : Go T) (m pc : ℕ) (locals : Locals) (stack : Stack) (left : ℕ) (w : World) (t : T) → left ≤ 0 → turn hook go s m pc locals stack left w t ≡ ran (Stopped cause.Budget) w t
  unfolding turn
  no_turn go m pc locals stack zero w t h = refl
  no_turn go m pc locals stack (suc left) w t h = absurd (omega arith)

  no_eval : (n m pc : ℕ) (locals : Locals) (stack : Stack) (w : World) (t : T) → Within 0 w → eval_with hook s n m pc locals stack w t ≡ ran (Stopped cause.Budget) w t
  unfolding eval_with
  no_eval zero m pc locals stack w t h = refl
  no_eval (suc n) m pc locals stack w t h = no_turn (eval_with hook s n) m pc locals stack w.counters.instructions w t h

  evals_agree : (l n k : ℕ) → l ≤ n → l ≤ k → Agree l (eval_with hook s n) (eval_with hook s k)
  unfolding eval_with Agree turn
  evals_agree zero n k ln lk m pc locals stack w t le =
      let a = no_eval n m pc locals stack w t le in
      let b = no_eval k m pc locals stack w t le in
      (a ∙ sym b, subst (λ r. LeftWithin 0 r) (sym a) le)
  evals_agree (suc l) zero k ln lk m pc locals stack w t le = absurd (omega arith)
  evals_agree (suc l) (suc n) zero ln lk m pc locals stack w t le = absurd (omega arith)
  evals_agree (suc l) (suc n) (suc k) ln lk m pc locals stack w t le =
      turn_same l (eval_with hook s n) (eval_with hook s k) (evals_agree l n k (omega arith) (omega arith)) m pc locals stack w.counters.instructions w t le le

pub bound_free : {T : Type 0} (hook : Hook T) (s : Setting) → HookSpends hook → BoundFree hook s
unfolding Agree
bound_free hook s spends n k m pc locals stack w t ln lk = (evals_agree hook spends s w.counters.instructions n k ln lk m pc locals stack w t (omega arith)).0
