-- A run with a hook that answers entries as the methods would end here ends as the run on one heap.
use Rattle.std.proofs.Common.{◌≡◌, ℕ, zero, suc, ◌≤◌, Bool, true, false, List, [], ◌∷◌, Some, None, refl, sym, ◌∙◌, ap, arith}
use Rattle.cc_meaning.specs.declared.value.Value.{Value}
use Rattle.cc_meaning.specs.declared.report.Limits.{Limits}
use Rattle.cc_meaning.specs.BuiltIn.{stack_overflow_error_name}
use Rattle.cc_meaning_run.specs.World.{Setting, World, Stack, Locals}
use Rattle.cc_meaning_run.specs.Acts.{Outcome, Next, Enter, Returns, Throws, Stops, Stuck, run_act}
use Rattle.cc_meaning_run.specs.Instructions.{throw_new, code_of, act_at}
use Rattle.cc_meaning_run.specs.Eval.{End, Returned, Thrown, Stopped, Jammed, Ran, ran, Reply, Here, Answer, Hook, Go, resume, has_room, overflowed_by, overflowed, body_if, body, replied, after, with_instructions, turn_in, turn, eval_with}
use Rattle.cc_meaning_run.specs.Laws.{KeepsLeft, HookSpends}
use Rattle.cc_meaning_run.specs.Invocations.{onlooker}
use Rattle.cc_meaning_run.specs.Local.{opening_world, make_args, begun, begin_in, run_with, report_of, local, with_ready}
use Rattle.cc_meaning_run.proofs.Bounds.{run_within, bound_free}
use Rattle.cc_meaning_images.specs.Instance.{silent}
use Rattle.cc_meaning_device.specs.Laws.{at_end, left_by, IsRight, FaithfulReports, FaithfulWhile, FaithfulFrom}

abbrev Within : ℕ → World → Type 0
Within n w = w.counters.instructions ≤ n

silent_spends : HookSpends silent
silent_spends m args stack w t = tt

body_bound : (s : Setting) (n k : ℕ) (room : Bool) (callee : ℕ) (args : List Value) (stack : Stack) (w : World) → Within n w → Within k w →
    body_if room (eval_with silent s n) s callee args stack w tt ≡ body_if room (eval_with silent s k) s callee args stack w tt
unfolding body_if
body_bound s n k true callee args stack w ln lk = bound_free silent s silent_spends n k callee 0 _ _ w tt ln lk
body_bound s n k false callee args stack w ln lk = refl

module _ {T : Type 0} (hook : Hook T) (s : Setting) (Holds Leads : T → Type 0) (spends : HookSpends hook) (right : FaithfulWhile hook s Holds Leads) where
  -- from `t` on, what holds is kept until `t'`; and where that leads to the end that is asked about, so does `t`, and this is as it is here
  Reaches : T → T → Type 0 → Type 0
  Reaches t t' Same = Holds t → Holds t' × (Leads t' → Leads t × Same)

  -- the end of a run with the hook, from `t` on, is that of the run without
  AsHere : ℕ → T → Ran T → Ran (Unit {0}) → Type 0
  AsHere n t (ran e w t') r = Within n w × Reaches t t' (r ≡ ran e w tt)

  same_here : (n : ℕ) (e : End) (w : World) (t : T) → Within n w → AsHere n t (ran e w t) (ran e w tt)
  unfolding AsHere Reaches
  same_here n e w t le = (le, λ h. (h, λ l. (l, refl)))

  behind : (n : ℕ) (t t1 : T) (x : Ran T) (y z : Ran (Unit {0})) → AsHere n t1 x y → Reaches t t1 (z ≡ y) → AsHere n t x z
  unfolding AsHere Reaches
  behind n t t1 (ran e w t') y z h f = (h.0, λ held. let a = f held in let b = h.1 a.0 in (b.0, λ l. let c = b.1 l in let d = a.1 c.0 in (d.0, d.1 ∙ c.1)))

  -- what comes of an end that is as it is here
  then_as : (t t1 : T) (r x : Ran (Unit {0})) (go : Ran (Unit {0}) → Ran (Unit {0})) → Reaches t t1 (r ≡ x) → Reaches t t1 (go r ≡ go x)
  unfolding Reaches
  then_as t t1 r x go h held = let a = h held in (a.0, λ l. let b = a.1 l in (b.0, ap go b.1))

  Similar : ℕ → Go T → Go (Unit {0}) → Type 0
  Similar n go1 go2 = (m pc : ℕ) (locals : Locals) (stack : Stack) (w : World) (t : T) → Within n w → AsHere n t (go1 m pc locals stack w t) (go2 m pc locals stack w tt)

  module _ (n : ℕ) (go1 : Go T) (ih : Similar n go1 (eval_with silent s n)) where
    resume_as : (m next : ℕ) (locals : Locals) (stack : Stack) (t : T) (r1 : Ran T) (r2 : Ran (Unit {0})) → AsHere n t r1 r2 →
        AsHere n t (resume go1 m next locals stack r1) (resume (eval_with silent s n) m next locals stack r2)
    unfolding resume AsHere Similar
    resume_as m next locals stack t (ran (Returned v) w t1) r2 h =
        behind n t t1 _ _ _ (ih m next (record locals { pending = v }) stack w t1 h.0) (then_as t t1 r2 _ (resume (eval_with silent s n) m next locals stack) h.1)
    resume_as m next locals stack t (ran (Thrown a) w t1) r2 h = (h.0, then_as t t1 r2 _ (resume (eval_with silent s n) m next locals stack) h.1)
    resume_as m next locals stack t (ran (Stopped c) w t1) r2 h = (h.0, then_as t t1 r2 _ (resume (eval_with silent s n) m next locals stack) h.1)
    resume_as m next locals stack t (ran Jammed w t1) r2 h = (h.0, then_as t t1 r2 _ (resume (eval_with silent s n) m next locals stack) h.1)

    overflowed_as : (o : Outcome) (w : World) (t : T) → Within n w → AsHere n t (overflowed_by o w t) (overflowed_by o w tt)
    unfolding overflowed_by
    overflowed_as (Next pc' locals') w t le = same_here n Jammed w t le
    overflowed_as (Enter callee args next) w t le = same_here n Jammed w t le
    overflowed_as (Returns v) w t le = same_here n Jammed w t le
    overflowed_as (Throws a) w t le = same_here n (Thrown a) w t le
    overflowed_as (Stops c) w t le = same_here n (Stopped c) w t le
    overflowed_as Stuck w t le = same_here n Jammed w t le

    body_as : (room : Bool) (callee : ℕ) (args : List Value) (stack : Stack) (w : World) (t : T) → Within n w →
        AsHere n t (body_if room go1 s callee args stack w t) (body_if room (eval_with silent s n) s callee args stack w tt)
    unfolding body_if overflowed Similar
    body_as true callee args stack w t le = ih callee 0 _ _ w t le
    body_as false callee args stack w t le =
        let r = run_act (throw_new s.program stack_overflow_error_name) w in
        overflowed_as r.outcome r.world t (run_within n (throw_new s.program stack_overflow_error_name) w le)

    replied_as : (callee : ℕ) (args : List Value) (stack : Stack) (w : World) (t : T) (x : Reply T) → Within n w → KeepsLeft w.counters.instructions x → (Holds t → Holds (left_by x)) →
        (Holds t → IsRight s Leads callee args stack w t x) → AsHere n t (replied go1 s callee args stack w x) (replied (eval_with silent s n) s callee args stack w (Here tt))
    unfolding replied body AsHere Reaches
    replied_as callee args stack w t (Here t1) le keeps kept is =
        behind n t t1 _ _ _ (body_as (has_room (code_of s.program callee) stack) callee args stack w t1 le) (λ held. (kept held, λ l. (is held l, refl)))
    replied_as callee args stack w t (Answer e w' t') le keeps kept is =
        (omega arith, λ held. (kept held, λ l. let q = is held l in (q.0, body_bound s n w.counters.instructions (has_room (code_of s.program callee) stack) callee args stack w le (omega arith) ∙ q.1)))

    after_as : (m : ℕ) (locals : Locals) (stack : Stack) (o : Outcome) (w : World) (t : T) → Within n w →
        AsHere n t (after hook go1 s m locals stack o w t) (after silent (eval_with silent s n) s m locals stack o w tt)
    unfolding after Similar
    after_as m locals stack (Next pc' locals') w t le = ih m pc' locals' stack w t le
    after_as m locals stack (Enter callee args next) w t le =
        resume_as m next locals stack t _ _
        (replied_as callee args stack w t (hook.entry callee args stack w t) le (spends callee args stack w t) (right.kept callee args stack w t) (right.entry callee args stack w t))
    after_as m locals stack (Returns v) w t le = same_here n (Returned v) w t le
    after_as m locals stack (Throws a) w t le = same_here n (Thrown a) w t le
    after_as m locals stack (Stops c) w t le = same_here n (Stopped c) w t le
    after_as m locals stack Stuck w t le = same_here n Jammed w t le

    wider : (t : T) (x : Ran T) (y : Ran (Unit {0})) → AsHere n t x y → AsHere (suc n) t x y
    unfolding AsHere
    wider t (ran e w t') y h = (omega arith, h.1)

    turn_as : (m pc : ℕ) (locals : Locals) (stack : Stack) (left : ℕ) (w : World) (t : T) → Within (suc n) w → left ≤ suc n →
        AsHere (suc n) t (turn hook go1 s m pc locals stack left w t) (turn silent (eval_with silent s n) s m pc locals stack left w tt)
    unfolding turn turn_in with_instructions Reaches
    turn_as m pc locals stack zero w t le lel = same_here (suc n) _ w t le
    turn_as m pc locals stack (suc left) w t le lel =
        let r = run_act (act_at s.program m pc locals) (with_instructions w left) in
        let t1 = hook.turned stack.depth r.called t in
        wider t _ _ (behind n t t1 _ _ _ (after_as m locals stack r.outcome r.world t1 (run_within n (act_at s.program m pc locals) (with_instructions w left) (omega arith)))
        (λ held. (right.still stack.depth r.called t held, λ l. (right.turned stack.depth r.called t held l, refl))))

  evals_as : (n : ℕ) → Similar n (eval_with hook s n) (eval_with silent s n)
  unfolding eval_with Similar
  evals_as zero m pc locals stack w t le = same_here zero _ w t le
  evals_as (suc n) m pc locals stack w t le = turn_as n (eval_with hook s n) (evals_as n) m pc locals stack w.counters.instructions w t le le

  begun_as : (n : ℕ) (o : Outcome) (w : World) (t : T) → Within n w → AsHere n t (begun (eval_with hook s n) s o w t) (begun (eval_with silent s n) s o w tt)
  unfolding begun body with_ready
  begun_as n (Returns (Some args)) w t le =
      body_as n (eval_with hook s n) (evals_as n) (has_room (code_of s.program s.program.main) (record { depth = 0; registers = 0 })) s.program.main (args ∷ []) (record { depth = 0; registers = 0 }) _ t le
  begun_as n (Returns None) w t le = same_here n Jammed w t le
  begun_as n (Stops c) w t le = same_here n (Stopped c) w t le
  begun_as n (Next pc' locals') w t le = same_here n Jammed w t le
  begun_as n (Enter callee args next) w t le = same_here n Jammed w t le
  begun_as n (Throws a) w t le = same_here n Jammed w t le
  begun_as n Stuck w t le = same_here n Jammed w t le

  run_as : (args : List (List ℕ)) (limits : Limits) (t : T) → AsHere limits.instructions t (run_with hook s args limits t) (run_with silent s args limits tt)
  unfolding run_with begin_in opening_world
  run_as args limits t =
      let r = run_act (make_args s.program args) (opening_world s.program limits) in
      begun_as limits.instructions r.outcome r.world t (run_within limits.instructions (make_args s.program args) (opening_world s.program limits) (omega arith))

  report_as : (n : ℕ) (limits : Limits) (t : T) (x : Ran T) (y : Ran (Unit {0})) → AsHere n t x y → Holds t → Leads (at_end x) → report_of limits x ≡ report_of limits y
  unfolding AsHere Reaches report_of
  report_as n limits t (ran e w t') y h held l = sym (ap (report_of limits) ((h.1 held).1 l).1)

  reports_as_here : (args : List (List ℕ)) (limits : Limits) (t : T) → Holds t → Leads (at_end (run_with hook s args limits t)) →
      report_of limits (run_with hook s args limits t) ≡ report_of limits (run_with silent s args limits tt)
  reports_as_here args limits t held l = report_as limits.instructions limits t _ _ (run_as args limits t) held l

-- ---- against the run on one heap

-- what only looks on is faithful
onlooker_spends : HookSpends onlooker
unfolding onlooker
onlooker_spends m args stack w t = tt

looks_on : (s : Setting) → FaithfulWhile onlooker s (λ list. Unit {0}) (λ list. Unit {0})
unfolding onlooker
looks_on s = record { kept = λ m args stack w t h. tt; entry = λ m args stack w t h l. tt; still = λ depth called t h. tt; turned = λ depth called t h l. tt }

pub faithful_from : {T : Type 0} (hook : Hook T) (s : Setting) (Holds Leads : T → Type 0) → FaithfulFrom hook s Holds Leads
unfolding local
faithful_from hook s Holds Leads spends right args limits t held l =
    reports_as_here hook s Holds Leads spends right args limits t held l
    ∙ sym (reports_as_here onlooker s (λ list. Unit {0}) (λ list. Unit {0}) onlooker_spends (looks_on s) args limits _ tt tt)

pub faithful_reports : {T : Type 0} (hook : Hook T) (s : Setting) (Leads : T → Type 0) → FaithfulReports hook s Leads
faithful_reports hook s Leads spends right args limits t l =
    faithful_from hook s (λ kept. Unit {0}) Leads spends
    (record { kept = λ m a stack w k h. tt; entry = λ m a stack w k h. right.entry m a stack w k; still = λ depth called k h. tt; turned = λ depth called k h. right.turned depth called k }) args limits t tt l
