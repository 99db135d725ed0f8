-- What a run keeps on its way from pause to pause.
use Rattle.std.proofs.Common.{◌≡◌, ℕ, zero, suc, ◌+◌, ◌≤◌, ◌<◌, Bool, true, false, ℤ, List, [], ◌∷◌, length, Option, Some, None, Result, Ok, Err, refl, ◌∙◌, arith, slice_get, slice_set}
use Rattle.cc_meaning.specs.declared.report.StopCause.{StopCause}
use Rattle.cc_meaning_run.specs.Acts.{less_by}
use Rattle.cc_meaning_run.specs.Instructions.{line_of}
use Rattle.cc_meaning_plain.specs.declared.plain.PlainInsn.{PlainInsn}
use Rattle.cc_meaning_plain.specs.declared.plain.PlainInsn.TheVariants.{SgetOut, Const4, AddInt2Addr, AddIntLit8, InvokePrintln, CallFunction}
use Rattle.cc_meaning_plain.specs.declared.plain.PlainFunction.{PlainFunction}
use Rattle.cc_meaning_plain.specs.Text.{number_at, value_by, instructions_by}
use Rattle.cc_machine.specs.declared.progress.Progress.{Progress}
use Rattle.cc_machine.specs.declared.progress.Came.{Came}
use Rattle.cc_machine.specs.declared.progress.Pause.{Pause}
use Rattle.cc_machine.specs.declared.progress.Pause.TheVariants as pauses
use Rattle.cc_machine.specs.Going.{Stepped, OnWith, Paused, Went, taking, result_taken, behind, came_back, given, came_here, printed, is_stop, entered, entry_of, acted, stepped, returned, gone_on, goes}
use Rattle.cc_device.specs.Travelling.{IsLater, Keeps}

less_keeps : (k n left : ℕ) → less_by k n ≡ Some left → left ≤ n
unfolding less_by
less_keeps zero n left e = let same : n ≡ left = cc in omega arith
less_keeps (suc k) zero left e = absurd cc
less_keeps (suc k) (suc n) left e = let le = less_keeps k n left e in omega arith

-- a step leaves no more of either counter, and the place as it was
pub record StepKeeps (p q : Progress) : Type 0 where
  pub instructions : q.instructions ≤ p.instructions
  pub words : q.words ≤ p.words
  pub next : q.next ≡ p.next

abbrev pub StepsSo : Progress → Stepped → Type 0
StepsSo p (OnWith q) = StepKeeps p q
StepsSo p (Paused pause q) = StepKeeps p q

same_keeps : (p : Progress) → StepKeeps p p
same_keeps p = record { instructions = omega arith; words = omega arith; next = refl }

trans_keeps : (p q r : Progress) → StepKeeps p q → StepKeeps q r → StepKeeps p r
trans_keeps p q r a b = record { instructions = omega (arith, a.instructions, b.instructions); words = omega (arith, a.words, b.words); next = b.next ∙ a.next }

steps_trans : (p q : Progress) (s : Stepped) → StepKeeps p q → StepsSo q s → StepsSo p s
steps_trans p q (OnWith r) a b = trans_keeps p q r a b
steps_trans p q (Paused pause r) a b = trans_keeps p q r a b

taking_keeps : (n : ℕ) (p : Progress) (go : Progress → Stepped) → p.instructions ≡ n → ((q : Progress) → StepKeeps p q → StepsSo q (go q)) → StepsSo p (taking n p go)
taking_keeps zero p go e h = same_keeps p
taking_keeps (suc n) p go e h =
    let k : StepKeeps p (record p { instructions = n }) = record { instructions = omega (arith, e); words = omega arith; next = refl } in
    steps_trans p (record p { instructions = n }) (go (record p { instructions = n })) k (h (record p { instructions = n }) k)

result_keeps : (to : ℕ) (x : ℤ) (p : Progress) → StepsSo p (result_taken to x p)
result_keeps to x p = taking_keeps p.instructions p (λ q. OnWith (record q { numbers = slice_set q.numbers to x })) refl (λ q k. record { instructions = omega arith; words = omega arith; next = refl })

pub back_keeps : (to : ℕ) (came : Came) (p : Progress) → came.instructions ≤ p.instructions → came.words ≤ p.words → StepsSo p (came_back to came p)
unfolding came_back
back_keeps to came p i w = by came.value
  where
    q : Progress
    q = record p { instructions = came.instructions; words = came.words }

    fewer : StepKeeps p (record p { instructions = came.instructions; words = came.words })
    fewer = record { instructions = i; words = w; next = refl }

    by : (r : Result ℤ StopCause) → StepsSo p (behind to r (record p { instructions = came.instructions; words = came.words }))
    by (Ok x) = steps_trans p (record p { instructions = came.instructions; words = came.words }) (result_taken to x (record p { instructions = came.instructions; words = came.words })) fewer (result_keeps to x (record p { instructions = came.instructions; words = came.words }))
    by (Err c) = fewer

pub here_keeps : (functions : List PlainFunction) (function : ℕ) (x : ℤ) (instructions words : ℕ) → ((came_here functions function x instructions words).instructions ≤ instructions) × ((came_here functions function x instructions words).words ≤ words)
unfolding came_here
here_keeps functions function x instructions words = by (less_by (instructions_by (slice_get functions function)) instructions) refl
  where
    by : (o : Option ℕ) → less_by (instructions_by (slice_get functions function)) instructions ≡ o → ((given o (value_by (slice_get functions function) x) words).instructions ≤ instructions) × ((given o (value_by (slice_get functions function) x) words).words ≤ words)
    by None e = (omega arith, omega arith)
    by (Some left) e = (less_keeps (instructions_by (slice_get functions function)) instructions left e, omega arith)

printed_keeps : (line : List ℕ) (o : Option ℕ) (p : Progress) → ((left : ℕ) → o ≡ Some left → left ≤ p.words) → StepsSo p (printed line o p)
printed_keeps line None p h = same_keeps p
printed_keeps line (Some left) p h = record { instructions = omega arith; words = h left refl; next = refl }

entered_keeps : (stop : Bool) (functions : List PlainFunction) (function argument to : ℕ) (p : Progress) → StepsSo p (entered stop functions (entry_of p function argument to) p)
entered_keeps true functions function argument to p = same_keeps p
entered_keeps false functions function argument to p =
    let h = here_keeps functions function (number_at p.numbers argument) p.instructions p.words in
    back_keeps to (came_here functions function (number_at p.numbers argument) p.instructions p.words) p h.0 h.1

acted_keeps : (functions : List PlainFunction) (stops : Option ℕ) (insn : PlainInsn) (p : Progress) → StepsSo p (acted functions stops insn p)
unfolding acted
acted_keeps functions stops (SgetOut to) p = same_keeps p
acted_keeps functions stops (Const4 to v) p = record { instructions = omega arith; words = omega arith; next = refl }
acted_keeps functions stops (AddInt2Addr to other) p = record { instructions = omega arith; words = omega arith; next = refl }
acted_keeps functions stops (AddIntLit8 to from literal) p = record { instructions = omega arith; words = omega arith; next = refl }
acted_keeps functions stops (InvokePrintln stream number) p =
    printed_keeps (line_of (number_at p.numbers number)) (less_by (2 + length (line_of (number_at p.numbers number))) p.words) p (λ left e. less_keeps (2 + length (line_of (number_at p.numbers number))) p.words left e)
acted_keeps functions stops (CallFunction function argument to) p = entered_keeps (is_stop stops function) functions function argument to p

stepped_keeps : (functions : List PlainFunction) (stops : Option ℕ) (insn : PlainInsn) (p : Progress) → StepsSo p (stepped functions stops insn p)
unfolding stepped
stepped_keeps functions stops insn p = taking_keeps p.instructions p (acted functions stops insn) refl (λ q k. acted_keeps functions stops insn q)

-- ---- from pause to pause

returned_keeps : (n : ℕ) (p : Progress) → p.instructions ≡ n → Keeps p (returned n p).pause (returned n p).progress
unfolding returned
returned_keeps zero p e = record { instructions = omega arith; words = omega arith; later = tt }
returned_keeps (suc n) p e = record { instructions = omega (arith, e); words = omega arith; later = tt }

later_by : (pause : Pause) (a b c : ℕ) → a < b → b ≤ c → IsLater pause a c
later_by (pauses.AtEntry entry) a b c lt le = omega (arith, lt, le)
later_by (pauses.Done ends) a b c lt le = tt

later_since : (pause : Pause) (a b c : ℕ) → a ≤ b → IsLater pause b c → IsLater pause a c
later_since (pauses.AtEntry entry) a b c le l = omega (arith, le, l)
later_since (pauses.Done ends) a b c le l = tt

gone_keeps : (p : Progress) (s : Stepped) (go : Progress → Went) → StepsSo (record p { next = p.next + 1 }) s → ((q : Progress) → Keeps q (go q).pause (go q).progress) → Keeps p (gone_on s go).pause (gone_on s go).progress
gone_keeps p (OnWith q) go k goes_on =
    let g = goes_on q in
    record {
      instructions = omega (arith, k.instructions, g.instructions);
      words = omega (arith, k.words, g.words);
      later = later_since (go q).pause p.next q.next (go q).progress.next (omega (arith, k.next)) g.later;
    }
gone_keeps p (Paused pause q) go k goes_on = record { instructions = k.instructions; words = k.words; later = later_by pause p.next q.next q.next (omega (arith, k.next)) (omega arith) }

pub goes_keeps : (functions : List PlainFunction) (stops : Option ℕ) (insns : List PlainInsn) (p : Progress) → Keeps p (goes functions stops insns p).pause (goes functions stops insns p).progress
unfolding goes
goes_keeps functions stops [] p = returned_keeps p.instructions p refl
goes_keeps functions stops (insn ∷ rest) p =
    gone_keeps p (stepped functions stops insn (record p { next = p.next + 1 })) (goes functions stops rest) (stepped_keeps functions stops insn (record p { next = p.next + 1 })) (goes_keeps functions stops rest)
