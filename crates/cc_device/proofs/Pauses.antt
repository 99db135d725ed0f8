-- What a run comes to from pause to pause.
use Rattle.std.proofs.Common.{◌≡◌, ℕ, zero, suc, ◌≤◌, ◌&&◌, not, Bool, true, false, ℤ, List, drop, Option, Some, None, Result, Ok, Err, IfOk, refl, sym, ap, ◌∙◌, subst, arith, slice_set}
use Rattle.cc_meaning.specs.declared.report.StopCause.{StopCause}
use Rattle.cc_meaning.specs.declared.report.StopCause.TheVariants as cause
use Rattle.cc_meaning.specs.declared.report.Ending.TheVariants as ending
use Rattle.cc_meaning_run.specs.Acts.{less_by}
use Rattle.cc_meaning_plain.specs.declared.plain.PlainInsn.{PlainInsn}
use Rattle.cc_meaning_plain.specs.declared.plain.Plain.{Plain}
use Rattle.cc_meaning_plain.specs.Program.{function_number}
use Rattle.cc_meaning_device.specs.Received.{Received}
use Rattle.cc_machine.specs.declared.progress.Progress.{Progress}
use Rattle.cc_machine.specs.declared.progress.Came.{Came}
use Rattle.cc_machine.specs.declared.progress.Pause.{Pause}
use Rattle.cc_machine.specs.declared.progress.Pause.TheVariants as pauses
use Rattle.cc_machine.specs.Going.{Stepped, OnWith, Paused, Went, taking, behind, came_back, is_stop, gone_on, goes}
use Rattle.cc_machine.specs.Running.{begun}
use Rattle.cc_device.specs.Travelling.{moves_of, stops_in, course_from, begun_with, begun_course, paused_course, behind_call, IsLater, Keeps}
use Rattle.cc_device.proofs.Courses.{course_went, moved_is_done, fallen_is_done, goes_comes, back_comes}
use Rattle.cc_device.proofs.Keeping.{StepsSo, back_keeps, goes_keeps}

pub done_by : (plain : Plain) (moved : Option ℕ) (t : Received) (fallen : Bool) → t.fallen ≡ fallen → (function : ℕ) → is_stop (stops_in fallen moved) function ≡ false → (not t.fallen && moves_of plain moved (function_number plain function)) ≡ false
done_by plain moved t true e function h = fallen_is_done plain moved t e function h
done_by plain moved t false e function h = moved_is_done plain moved t function h

-- ---- a run

module _ (plain : Plain) (moved : Option ℕ) (fallen : Bool) (old new : Progress) (pause : Pause)
    (went : record { pause = pause; progress = new } ≡ goes plain.functions (stops_in fallen moved) (drop old.next plain.main.insns) old) where
  pub went_course : (t : Received) → t.fallen ≡ fallen → course_from plain (moves_of plain moved) old (drop old.next plain.main.insns) t ≡ paused_course plain (moves_of plain moved) pause new t
  went_course t e =
      goes_comes plain (moves_of plain moved) t (stops_in fallen moved) (done_by plain moved t fallen e) (drop old.next plain.main.insns) old refl
      ∙ ap (λ (w : Went). course_went plain (moves_of plain moved) t w) (sym went)

  pub went_keeps : Keeps old pause new
  went_keeps = subst (λ (w : Went). Keeps old w.pause w.progress) (sym went) (goes_keeps plain.functions (stops_in fallen moved) (drop old.next plain.main.insns) old)

-- ---- behind a call

-- a call never leads to the entry of another
abbrev IsEnd : Stepped → Type 0
IsEnd (OnWith p) = Unit {0}
IsEnd (Paused (pauses.AtEntry entry) p) = ⊥
IsEnd (Paused (pauses.Done ends) p) = Unit {0}

taking_ends : (n : ℕ) (p : Progress) (go : Progress → Stepped) → ((q : Progress) → IsEnd (go q)) → IsEnd (taking n p go)
taking_ends zero p go h = tt
taking_ends (suc n) p go h = h (record p { instructions = n })

back_ends : (to : ℕ) (came : Came) (p : Progress) → IsEnd (came_back to came p)
unfolding came_back
back_ends to came p = by came.value
  where
    by : (r : Result ℤ StopCause) → IsEnd (behind to r (record p { instructions = came.instructions; words = came.words }))
    by (Ok x) = taking_ends came.instructions (record p { instructions = came.instructions; words = came.words }) (λ p'. OnWith (record p' { numbers = slice_set p'.numbers to x })) (λ q. tt)
    by (Err c) = tt

module _ (plain : Plain) (moved : Option ℕ) (fallen : Bool) (to : ℕ) (came : Came) (old : Progress) where
  rest : List PlainInsn
  rest = drop old.next plain.main.insns

  comes_from : (t : Received) → t.fallen ≡ fallen → (q : Progress) → q.next ≡ old.next →
      course_from plain (moves_of plain moved) q (drop old.next plain.main.insns) t ≡ course_went plain (moves_of plain moved) t (goes plain.functions (stops_in fallen moved) (drop old.next plain.main.insns) q)
  comes_from t e q n =
      goes_comes plain (moves_of plain moved) t (stops_in fallen moved) (done_by plain moved t fallen e) (drop old.next plain.main.insns) q (ap (λ (k : ℕ). drop k plain.main.insns) (sym n))

  back_course : (t : Received) → t.fallen ≡ fallen →
      behind_call plain (moves_of plain moved) to came old t ≡ course_went plain (moves_of plain moved) t (gone_on (came_back to came old) (goes plain.functions (stops_in fallen moved) (drop old.next plain.main.insns)))
  back_course t e =
      back_comes plain (moves_of plain moved) t (goes plain.functions (stops_in fallen moved) (drop old.next plain.main.insns)) (drop old.next plain.main.insns) old.next refl (comes_from t e) came to old refl

  pub back_paused : (pause : Pause) (new : Progress) → Paused pause new ≡ came_back to came old → (t : Received) → t.fallen ≡ fallen →
      behind_call plain (moves_of plain moved) to came old t ≡ paused_course plain (moves_of plain moved) pause new t
  back_paused pause new step t e =
      back_course t e ∙ ap (λ (s : Stepped). course_went plain (moves_of plain moved) t (gone_on s (goes plain.functions (stops_in fallen moved) (drop old.next plain.main.insns)))) (sym step)

  pub back_on : (mid : Progress) → OnWith mid ≡ came_back to came old → mid.next ≡ old.next → (t : Received) → t.fallen ≡ fallen →
      behind_call plain (moves_of plain moved) to came old t ≡ course_from plain (moves_of plain moved) mid (drop mid.next plain.main.insns) t
  back_on mid step n t e =
      back_course t e ∙ ap (λ (s : Stepped). course_went plain (moves_of plain moved) t (gone_on s (goes plain.functions (stops_in fallen moved) (drop old.next plain.main.insns)))) (sym step)
      ∙ sym (comes_from t e mid n) ∙ ap (λ (k : ℕ). course_from plain (moves_of plain moved) mid (drop k plain.main.insns) t) (sym n)

module _ (to : ℕ) (came : Came) (old : Progress) (fewer : came.instructions ≤ old.instructions) (less : came.words ≤ old.words) where
  ends_later : (pause : Pause) (new : Progress) → IsEnd (Paused pause new) → IsLater pause old.next new.next
  ends_later (pauses.AtEntry entry) new h = absurd h
  ends_later (pauses.Done ends) new h = tt

  pub paused_keeps : (pause : Pause) (new : Progress) → Paused pause new ≡ came_back to came old → Keeps old pause new × (new.next ≡ old.next)
  paused_keeps pause new step =
      let k = subst (λ (s : Stepped). StepsSo old s) (sym step) (back_keeps to came old fewer less) in
      (record { instructions = k.instructions; words = k.words; later = ends_later pause new (subst IsEnd (sym step) (back_ends to came old)) }, k.next)

  pub on_keeps : (mid : Progress) → OnWith mid ≡ came_back to came old → (mid.instructions ≤ old.instructions) × (mid.words ≤ old.words) × (mid.next ≡ old.next)
  on_keeps mid step = let k = subst (λ (s : Stepped). StepsSo old s) (sym step) (back_keeps to came old fewer less) in (k.instructions, k.words, k.next)

later_from : (pause : Pause) (a b c : ℕ) → b ≡ a → IsLater pause b c → IsLater pause a c
later_from pause a b c e l = subst (λ (n : ℕ). IsLater pause n c) e l

pub keeps_since : (old mid new : Progress) (pause : Pause) → (mid.instructions ≤ old.instructions) × (mid.words ≤ old.words) × (mid.next ≡ old.next) → Keeps mid pause new → Keeps old pause new
keeps_since old mid new pause k g = record { instructions = omega (arith, k.0, g.instructions); words = omega (arith, k.1, g.words); later = later_from pause old.next mid.next new.next k.2 g.later }

-- ---- results

pub if_ok : {A E : Type 0} (r : Result A E) (P Q : A → Type 0) → ((a : A) → P a → Q a) → IfOk r P → IfOk r Q
if_ok (Ok a) P Q h p = h a p
if_ok (Err e) P Q h p = p

pub if_ok_two : {A E : Type 0} (r : Result A E) (P O Q : A → Type 0) → ((a : A) → P a → O a → Q a) → IfOk r P → IfOk r O → IfOk r Q
if_ok_two (Ok a) P O Q h p o = h a p o
if_ok_two (Err e) P O Q h p o = p

-- ---- the beginning

begins_end : (o : Option ℕ) (old : Progress) → IsEnd (begun o old)
begins_end None old = tt
begins_end (Some words) old = tt

words_left : (n left : ℕ) → less_by 2 n ≡ Some left → left ≤ n
unfolding less_by
words_left zero left e = absurd cc
words_left (suc zero) left e = absurd cc
words_left (suc (suc n)) left e = let same : n ≡ left = cc in omega arith

paused_parts : (a b : Pause) (p q : Progress) → Paused a p ≡ Paused b q → (a ≡ b) × (p ≡ q)
paused_parts a b p q e = (cc, cc)

on_parts : (p q : Progress) → OnWith p ≡ OnWith q → p ≡ q
on_parts p q e = cc

module _ (plain : Plain) (moves : ℕ → Bool) (old : Progress) where
  begun_by : (o : Option ℕ) (pause : Pause) (new : Progress) → Paused pause new ≡ begun o old → (t : Received) → begun_with plain moves o old t ≡ paused_course plain moves pause new t
  begun_by None pause new step t = let same = paused_parts pause (pauses.Done (ending.Stopped cause.Heap)) new old step in rw (same.0, same.1) refl
  begun_by (Some words) pause new step t = absurd cc

  pub begun_paused : (pause : Pause) (new : Progress) → Paused pause new ≡ begun (less_by 2 old.words) old → (t : Received) → begun_course plain moves old t ≡ paused_course plain moves pause new t
  begun_paused pause new step t = begun_by (less_by 2 old.words) pause new step t

  on_by : (o : Option ℕ) (mid : Progress) → OnWith mid ≡ begun o old → (t : Received) → begun_with plain moves o old t ≡ course_from plain moves mid (drop mid.next plain.main.insns) t
  on_by None mid step t = absurd cc
  on_by (Some words) mid step t = ap (λ (p : Progress). course_from plain moves p (drop p.next plain.main.insns) t) (sym (on_parts mid (record old { words = words }) step))

  pub begun_on : (mid : Progress) → OnWith mid ≡ begun (less_by 2 old.words) old → (t : Received) → begun_course plain moves old t ≡ course_from plain moves mid (drop mid.next plain.main.insns) t
  begun_on mid step t = on_by (less_by 2 old.words) mid step t

end_is_later : (old : Progress) (pause : Pause) (new : Progress) → IsEnd (Paused pause new) → IsLater pause old.next new.next
end_is_later old (pauses.AtEntry entry) new h = absurd h
end_is_later old (pauses.Done ends) new h = tt

begun_steps : (o : Option ℕ) (old : Progress) → ((left : ℕ) → o ≡ Some left → left ≤ old.words) → StepsSo old (begun o old)
begun_steps None old h = record { instructions = omega arith; words = omega arith; next = refl }
begun_steps (Some words) old h = record { instructions = omega arith; words = h words refl; next = refl }

module _ (old : Progress) where
  pub begun_paused_keeps : (pause : Pause) (new : Progress) → Paused pause new ≡ begun (less_by 2 old.words) old → Keeps old pause new × (new.next ≡ old.next)
  begun_paused_keeps pause new step =
      let k = subst (λ (s : Stepped). StepsSo old s) (sym step) (begun_steps (less_by 2 old.words) old (words_left old.words)) in
      (record { instructions = k.instructions; words = k.words; later = end_is_later old pause new (subst IsEnd (sym step) (begins_end (less_by 2 old.words) old)) }, k.next)

  pub begun_on_keeps : (mid : Progress) → OnWith mid ≡ begun (less_by 2 old.words) old → (mid.instructions ≤ old.instructions) × (mid.words ≤ old.words) × (mid.next ≡ old.next)
  begun_on_keeps mid step = let k = subst (λ (s : Stepped). StepsSo old s) (sym step) (begun_steps (less_by 2 old.words) old (words_left old.words)) in (k.instructions, k.words, k.next)
