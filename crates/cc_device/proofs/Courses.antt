-- What a run that goes down its instructions and pauses comes to, over the frames that come.
use Rattle.std.proofs.Common.{◌≡◌, ◌≢◌, ℕ, zero, suc, ◌+◌, ◌==◌, ◌&&◌, not, cond, Bool, true, false, ℤ, List, [], ◌∷◌, ◌++◌, length, drop, Option, Some, None, Result, Ok, Err, refl, sym, ap, ◌∙◌, arith, slice_get, slice_set, nat_lt}
use Rattle.std.proofs.lemmas.Bool.Decides.{nat_tests}
use Rattle.std.proofs.lemmas.List.{append_assoc, append-nil}
use Rattle.cc_meaning.specs.declared.report.StopCause.{StopCause}
use Rattle.cc_meaning.specs.declared.report.StopCause.TheVariants as cause
use Rattle.cc_meaning.specs.declared.report.Ending.{Ending}
use Rattle.cc_meaning.specs.declared.report.Ending.TheVariants as ending
use Rattle.cc_meaning_run.specs.Acts.{less_by}
use Rattle.cc_meaning_run.specs.Instructions.{line_of}
use Rattle.cc_meaning_plain.specs.declared.plain.PlainInsn.{PlainInsn}
use Rattle.cc_meaning_plain.specs.declared.plain.PlainInsn.TheVariants.{SgetOut, Const4, AddInt2Addr, AddIntLit8, InvokePrintln, CallFunction}
use Rattle.cc_meaning_plain.specs.declared.plain.Plain.{Plain}
use Rattle.cc_meaning_plain.specs.Program.{function_number, shifted, before_main}
use Rattle.cc_meaning_plain.specs.Text.{number_at, numbers_after, value_by, instructions_by}
use Rattle.cc_meaning_device.specs.Received.{Received}
use Rattle.cc_meaning_device.specs.Straight.{given_here, called_here, called_there, entry_image, called, Course, course_ends, course_with_line, course_taking, course_printing, course_behind, course_came, course_of}
use Rattle.cc_machine.specs.declared.progress.Progress.{Progress}
use Rattle.cc_machine.specs.declared.progress.Came.{Came}
use Rattle.cc_machine.specs.Going.{Stepped, OnWith, Went, taking, result_taken, behind, came_back, given, came_here, printed, is_stop, entered, entry_of, acted, stepped, returned, gone_on, goes}
use Rattle.cc_machine.specs.Running.{stage_ended}
use Rattle.cc_device.specs.Travelling.{moves_of, paused_course}

-- ---- numbers of functions

shifted_once : (n i j : ℕ) → shifted n 1 i ≡ shifted n 1 j → i ≡ j
shifted_once n i j e = by (nat_lt i n) (nat_lt j n) refl refl e
  where
    by : (a b : Bool) → nat_lt i n ≡ a → nat_lt j n ≡ b → cond (nat_lt i n) i (i + 1) ≡ cond (nat_lt j n) j (j + 1) → i ≡ j
    by true true p q h = rw (p, q) at h
    by true false p q h = let r = rw (p, q) at h in grind (arith, nat_tests, p, q, r)
    by false true p q h = let r = rw (p, q) at h in grind (arith, nat_tests, p, q, r)
    by false false p q h = let r = rw (p, q) at h in omega (arith, r)

pub number_once : (plain : Plain) (i j : ℕ) → function_number plain i ≡ function_number plain j → i ≡ j
number_once plain i j e = shifted_once (before_main plain.functions) i j (omega (arith, e))

-- ---- what a machine may do here

-- every function that the run doesn't pause at is done here
abbrev pub DoneHere : Plain → Option ℕ → Received → Option ℕ → Type 0
DoneHere plain moved t stops = (function : ℕ) → is_stop stops function ≡ false → (not t.fallen && moves_of plain moved (function_number plain function)) ≡ false

test_no : (a b : ℕ) → a ≢ b → (a == b) ≡ false
test_no a b h = grind (arith, h)

test_same : (a : ℕ) → (a == a) ≡ true
test_same a = grind arith

not_stop : (stop function : ℕ) → (stop == function) ≡ false → function ≢ stop
not_stop stop function e same = cc-by (ap (λ (n : ℕ). stop == n) same) e (test_same stop)
  where
    cc-by : (stop == function) ≡ (stop == stop) → (stop == function) ≡ false → (stop == stop) ≡ true → ⊥
    cc-by p q r = cc

and_no : (b : Bool) → (b && false) ≡ false
and_no true = refl
and_no false = refl

pub moved_is_done : (plain : Plain) (moved : Option ℕ) (t : Received) → DoneHere plain moved t moved
moved_is_done plain None t function e = and_no (not t.fallen)
moved_is_done plain (Some i) t function e =
    ap (λ (b : Bool). not t.fallen && b) (test_no (function_number plain function) (function_number plain i) (λ same. not_stop i function e (number_once plain function i same))) ∙ and_no (not t.fallen)

pub fallen_is_done : (plain : Plain) (moved : Option ℕ) (t : Received) → t.fallen ≡ true → DoneHere plain moved t None
fallen_is_done plain moved t fallen function e = ap (λ (b : Bool). not b && moves_of plain moved (function_number plain function)) fallen

-- ---- down the instructions

ends_here : (p : Progress) (ends : Ending) (n : ℕ) (t : Received) → p.instructions ≡ n → course_with_line p.text (course_ends ends n p.words t) ≡ record { stage = stage_ended p ends; received = t }
ends_here p ends n t e = rw (sym e, append-nil) refl

course_spent : (plain : Plain) (moves : ℕ → Bool) (t : Received) (numbers : List ℤ) (rest : List PlainInsn) (words : ℕ) (insn : PlainInsn) →
    course_of plain moves numbers (insn ∷ rest) 0 words t ≡ course_ends (ending.Stopped cause.Budget) 0 words t
unfolding course_of
course_spent plain moves t numbers rest words (SgetOut to) = refl
course_spent plain moves t numbers rest words (Const4 to v) = refl
course_spent plain moves t numbers rest words (AddInt2Addr to other) = refl
course_spent plain moves t numbers rest words (AddIntLit8 to from literal) = refl
course_spent plain moves t numbers rest words (InvokePrintln stream number) = refl
course_spent plain moves t numbers rest words (CallFunction function argument to) = refl

drop_tail : {A : Type 0} (k : ℕ) (all tail : List A) (i : A) → i ∷ tail ≡ drop k all → tail ≡ drop (suc k) all
drop_tail zero [] tail i e = absurd cc
drop_tail zero (x ∷ xs) tail i e = cc
drop_tail (suc k) [] tail i e = absurd cc
drop_tail (suc k) (x ∷ xs) tail i e = drop_tail k xs tail i e

tail_is : {A : Type 0} (k : ℕ) (all tail : List A) (i : A) → i ∷ tail ≡ drop k all → tail ≡ drop (k + 1) all
tail_is k all tail i e = let one : suc k ≡ k + 1 = omega arith in drop_tail k all tail i e ∙ ap (λ (n : ℕ). drop n all) one

module _ (plain : Plain) (moves : ℕ → Bool) (t : Received) where
  -- what a run comes to that holds this, with these instructions to come
  abbrev pub course_from : Progress → List PlainInsn → Course
  course_from p rest = course_with_line p.text (course_of plain moves p.numbers rest p.instructions p.words t)

  abbrev pub course_went : Went → Course
  course_went w = paused_course plain moves w.pause w.progress t

  module _ (go : Progress → Went) (rest : List PlainInsn) (at : ℕ) (is : rest ≡ drop at plain.main.insns)
      (comes : (q : Progress) → q.next ≡ at → course_from q rest ≡ course_went (go q)) where
    taken_comes : (n : ℕ) (p : Progress) (act : Progress → Stepped) (after : ℕ → Course) → p.instructions ≡ n → ((k : ℕ) → n ≡ suc k → course_with_line p.text (after k) ≡ course_went (gone_on (act (record p { instructions = k })) go)) →
        course_with_line p.text (course_taking n p.words t after) ≡ course_went (gone_on (taking n p act) go)
    taken_comes zero p act after e h = ends_here p (ending.Stopped cause.Budget) 0 t e
    taken_comes (suc n) p act after e h = h n refl

    result_comes : (to : ℕ) (x : ℤ) (p : Progress) → p.next ≡ at →
        course_with_line p.text (course_taking p.instructions p.words t (λ left. course_of plain moves (slice_set p.numbers to x) rest left p.words t)) ≡ course_went (gone_on (result_taken to x p) go)
    result_comes to x p n =
        taken_comes p.instructions p (λ p'. OnWith (record p' { numbers = slice_set p'.numbers to x })) (λ left. course_of plain moves (slice_set p.numbers to x) rest left p.words t) refl
        (λ k e. comes (record p { instructions = k; numbers = slice_set p.numbers to x }) n)

    given_comes : (o : Option ℕ) (to : ℕ) (x : ℤ) (p : Progress) → p.next ≡ at →
        course_with_line p.text (course_came (given_here o x p.words t) (λ n left words t'. course_of plain moves (slice_set p.numbers to n) rest left words t')) ≡ course_went (gone_on (came_back to (given o x p.words) p) go)
    unfolding came_back
    given_comes None to x p n = ends_here (record p { instructions = 0 }) (ending.Stopped cause.Budget) 0 t refl
    given_comes (Some left) to x p n = result_comes to x (record p { instructions = left }) n

    printed_comes : (o : Option ℕ) (line : List ℕ) (p : Progress) → p.next ≡ at →
        course_with_line p.text (course_printing line p.instructions p.words o t (λ words. course_of plain moves p.numbers rest p.instructions words t)) ≡ course_went (gone_on (printed line o p) go)
    printed_comes None line p n = ends_here p (ending.Stopped cause.Heap) p.instructions t refl
    printed_comes (Some words) line p n =
        let course = course_of plain moves p.numbers rest p.instructions words t in
        ap (λ (text : List ℕ). record course { stage = record course.stage { text = text } }) (sym (append_assoc p.text line course.stage.text)) ∙ comes (record p { text = p.text ++ line; words = words }) n

    -- a call of a function that is done here
    here_comes : (function : ℕ) (x : ℤ) (to : ℕ) (p : Progress) → p.next ≡ at → (not t.fallen && moves (function_number plain function)) ≡ false →
        course_with_line p.text (course_came (called plain moves function x p.instructions p.words t) (λ n left words t'. course_of plain moves (slice_set p.numbers to n) rest left words t'))
        ≡ course_went (gone_on (came_back to (came_here plain.functions function x p.instructions p.words) p) go)
    unfolding called came_here
    here_comes function x to p n none =
        let f = slice_get plain.functions function in
        ap (λ (b : Bool). course_with_line p.text (course_came (cond b (called_there plain function x (entry_image plain function x p.instructions p.words) t) (called_here f x p.instructions p.words t)) (λ n left words t'. course_of plain moves (slice_set p.numbers to n) rest left words t'))) none
        ∙ given_comes (less_by (instructions_by f) p.instructions) to (value_by f x) p n

    entered_comes : (stop : Bool) (function argument to : ℕ) (p : Progress) → p.next ≡ at → (stop ≡ false → (not t.fallen && moves (function_number plain function)) ≡ false) →
        course_with_line p.text (course_came (called plain moves function (number_at p.numbers argument) p.instructions p.words t) (λ n left words t'. course_of plain moves (slice_set p.numbers to n) rest left words t'))
        ≡ course_went (gone_on (entered stop plain.functions (entry_of p function argument to) p) go)
    entered_comes true function argument to p n none =
        ap (λ (insns : List PlainInsn). course_with_line p.text (course_came (called plain moves function (number_at p.numbers argument) p.instructions p.words t) (λ n left words t'. course_of plain moves (slice_set p.numbers to n) insns left words t')))
        (is ∙ ap (λ (k : ℕ). drop k plain.main.insns) (sym n))
    entered_comes false function argument to p n none = here_comes function (number_at p.numbers argument) to p n (none refl)

    acted_comes : (stops : Option ℕ) (done : (function : ℕ) → is_stop stops function ≡ false → (not t.fallen && moves (function_number plain function)) ≡ false) (insn : PlainInsn) (p : Progress) → p.next ≡ at →
        course_with_line p.text (course_of plain moves p.numbers (insn ∷ rest) (suc p.instructions) p.words t) ≡ course_went (gone_on (acted plain.functions stops insn p) go)
    unfolding acted course_of numbers_after
    acted_comes stops done (SgetOut to) p n = comes p n
    acted_comes stops done (Const4 to v) p n = comes (record p { numbers = slice_set p.numbers to v }) n
    acted_comes stops done (AddInt2Addr to other) p n = comes (record p { numbers = numbers_after p.numbers (AddInt2Addr to other ∷ []) }) n
    acted_comes stops done (AddIntLit8 to from literal) p n = comes (record p { numbers = numbers_after p.numbers (AddIntLit8 to from literal ∷ []) }) n
    acted_comes stops done (InvokePrintln stream number) p n = printed_comes (less_by (2 + length (line_of (number_at p.numbers number))) p.words) (line_of (number_at p.numbers number)) p n
    acted_comes stops done (CallFunction function argument to) p n = entered_comes (is_stop stops function) function argument to p n (done function)

    stepped_by : (stops : Option ℕ) (done : (function : ℕ) → is_stop stops function ≡ false → (not t.fallen && moves (function_number plain function)) ≡ false) (k : ℕ) (insn : PlainInsn) (p : Progress) → p.next ≡ at → p.instructions ≡ k →
        course_with_line p.text (course_of plain moves p.numbers (insn ∷ rest) k p.words t) ≡ course_went (gone_on (taking k p (acted plain.functions stops insn)) go)
    stepped_by stops done zero insn p n e = ap (course_with_line p.text) (course_spent plain moves t p.numbers rest p.words insn) ∙ ends_here p (ending.Stopped cause.Budget) 0 t e
    stepped_by stops done (suc k) insn p n e = acted_comes stops done insn (record p { instructions = k }) n

    pub stepped_comes : (stops : Option ℕ) (done : (function : ℕ) → is_stop stops function ≡ false → (not t.fallen && moves (function_number plain function)) ≡ false) (insn : PlainInsn) (p : Progress) → p.next ≡ at →
        course_from p (insn ∷ rest) ≡ course_went (gone_on (stepped plain.functions stops insn p) go)
    unfolding stepped
    stepped_comes stops done insn p n = stepped_by stops done p.instructions insn p n refl

    -- what a call came to
    pub back_comes : (came : Came) (to : ℕ) (p : Progress) → p.next ≡ at →
        course_with_line p.text (course_came (record { value = came.value; instructions = came.instructions; words = came.words; received = t }) (λ n left words t'. course_of plain moves (slice_set p.numbers to n) rest left words t'))
        ≡ course_went (gone_on (came_back to came p) go)
    unfolding came_back
    back_comes came to p n = by came.value
      where
        by : (r : Result ℤ StopCause) → course_with_line p.text (course_behind r came.instructions came.words t (λ x left. course_of plain moves (slice_set p.numbers to x) rest left came.words t)) ≡ course_went (gone_on (behind to r (record p { instructions = came.instructions; words = came.words })) go)
        by (Ok x) = result_comes to x (record p { instructions = came.instructions; words = came.words }) n
        by (Err c) = ends_here (record p { instructions = came.instructions; words = came.words }) (ending.Stopped c) came.instructions t refl

  returned_comes : (n : ℕ) (p : Progress) → p.instructions ≡ n → course_with_line p.text (course_of plain moves p.numbers [] n p.words t) ≡ course_went (returned n p)
  unfolding returned course_of
  returned_comes zero p e = ends_here p (ending.Stopped cause.Budget) 0 t e
  returned_comes (suc n) p e = ends_here (record p { instructions = n }) ending.Returned n t refl

  -- the run goes as the machine goes, and where that pauses it is left as it comes then
  pub goes_comes : (stops : Option ℕ) (done : (function : ℕ) → is_stop stops function ≡ false → (not t.fallen && moves (function_number plain function)) ≡ false) (insns : List PlainInsn) (p : Progress) → insns ≡ drop p.next plain.main.insns →
      course_from p insns ≡ course_went (goes plain.functions stops insns p)
  unfolding goes
  goes_comes stops done [] p is = returned_comes p.instructions p refl
  goes_comes stops done (insn ∷ rest) p is =
      stepped_comes (goes plain.functions stops rest) rest (p.next + 1) (tail_is p.next plain.main.insns rest insn is)
      (λ q n. goes_comes stops done rest q (tail_is p.next plain.main.insns rest insn is ∙ ap (λ (k : ℕ). drop k plain.main.insns) (sym n)))
      stops done insn (record p { next = p.next + 1 }) refl
