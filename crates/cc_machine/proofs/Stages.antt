-- What a run without stops comes to is what its instructions come to.
use Rattle.std.proofs.Common.{◌≡◌, ℕ, zero, suc, ◌+◌, ℤ, List, [], ◌∷◌, ◌++◌, length, drop, Option, Some, None, refl, sym, ap, ◌∙◌, subst, slice_get, slice_set}
use Rattle.std.proofs.lemmas.List.{append_assoc, append-nil}
use Rattle.cc_meaning.specs.declared.report.StopCause.TheVariants as cause
use Rattle.cc_meaning.specs.declared.report.Ending.{Ending}
use Rattle.cc_meaning.specs.declared.report.Ending.TheVariants as ending
use Rattle.cc_meaning.specs.declared.report.Limits.{Limits}
use Rattle.cc_meaning_run.specs.Acts.{less_by}
use Rattle.cc_meaning_run.specs.Instructions.{line_of}
use Rattle.cc_meaning_plain.specs.declared.plain.PlainInsn.{PlainInsn}
use Rattle.cc_meaning_plain.specs.declared.plain.PlainInsn.TheVariants.{SgetOut, Const4, AddInt2Addr, AddIntLit8, InvokePrintln, CallFunction}
use Rattle.cc_meaning_plain.specs.declared.plain.PlainFunction.{PlainFunction}
use Rattle.cc_meaning_plain.specs.declared.plain.Plain.{Plain}
use Rattle.cc_meaning_plain.specs.Text.{number_at, numbers_after, value_by, instructions_by}
use Rattle.cc_meaning_plain.specs.Staged.{Stage, ends_with, with_line, taking_one, taking, printing, stage_of, main_stage, stage_report, plain_report}
use Rattle.cc_meaning_plain.proofs.Staged.{stage_spent}
use Rattle.cc_machine.specs.declared.progress.Progress.{Progress}
use Rattle.cc_machine.specs.declared.progress.Entry.{Entry}
use Rattle.cc_machine.specs.declared.progress.Pause.{Pause}
use Rattle.cc_machine.specs.declared.progress.Pause.TheVariants as pauses
use Rattle.cc_machine.specs.Going.{Stepped, OnWith, Went, taking as taking_steps, result_taken, came_back, given, came_here, printed, acted, stepped, returned, gone_on, goes}
use Rattle.cc_machine.specs.Running.{opening, begun, stage_ended, all_gone}

abbrev IsDone : Pause → Type 0
IsDone (pauses.AtEntry entry) = ⊥
IsDone (pauses.Done ends) = Unit {0}

-- what a run came to where it ended
abbrev paused_stage : Pause → Progress → Stage
paused_stage (pauses.AtEntry entry) p = ends_with ending.Returned 0 0
paused_stage (pauses.Done ends) p = stage_ended p ends

-- it ended, and came to this stage
abbrev Comes : Went → Stage → Type 0
Comes w stage = IsDone w.pause × (paused_stage w.pause w.progress ≡ stage)

-- what a run comes to that holds this, with these instructions to come
abbrev stage_from : List PlainFunction → Progress → List PlainInsn → Stage
stage_from functions p rest = with_line p.text (stage_of functions p.numbers rest p.instructions p.words)

ends_here : (p : Progress) (ends : Ending) (n : ℕ) → p.instructions ≡ n → stage_ended p ends ≡ with_line p.text (ends_with ends n p.words)
ends_here p ends n e = rw (e, append-nil) refl

module _ (functions : List PlainFunction) (go : Progress → Went) (rest : List PlainInsn) (comes : (q : Progress) → Comes (go q) (stage_from functions q rest)) where
  taken_comes : (n : ℕ) (p : Progress) (act : Progress → Stepped) (after : ℕ → Stage) → p.instructions ≡ n → ((k : ℕ) → n ≡ suc k → Comes (gone_on (act (record p { instructions = k })) go) (with_line p.text (after k))) →
      Comes (gone_on (taking_steps n p act) go) (with_line p.text (taking_one n p.words after))
  unfolding taking_one
  taken_comes zero p act after e h = (tt, ends_here p (ending.Stopped cause.Budget) 0 e)
  taken_comes (suc n) p act after e h = h n refl

  result_comes : (to : ℕ) (x : ℤ) (p : Progress) →
      Comes (gone_on (result_taken to x p) go) (with_line p.text (taking_one p.instructions p.words (λ left. stage_of functions (slice_set p.numbers to x) rest left p.words)))
  result_comes to x p =
      taken_comes p.instructions p (λ p'. OnWith (record p' { numbers = slice_set p'.numbers to x })) (λ left. stage_of functions (slice_set p.numbers to x) rest left p.words) refl
      (λ k e. comes (record p { instructions = k; numbers = slice_set p.numbers to x }))

  given_comes : (o : Option ℕ) (to : ℕ) (x : ℤ) (p : Progress) →
      Comes (gone_on (came_back to (given o x p.words) p) go) (with_line p.text (taking p.words o (λ after. taking_one after p.words (λ left. stage_of functions (slice_set p.numbers to x) rest left p.words))))
  unfolding came_back taking
  given_comes None to x p = (tt, ends_here (record p { instructions = 0 }) (ending.Stopped cause.Budget) 0 refl)
  given_comes (Some left) to x p = result_comes to x (record p { instructions = left })

  printed_comes : (o : Option ℕ) (line : List ℕ) (p : Progress) → Comes (gone_on (printed line o p) go) (with_line p.text (printing line p.instructions p.words o (λ words. stage_of functions p.numbers rest p.instructions words)))
  unfolding printing
  printed_comes None line p = (tt, ends_here p (ending.Stopped cause.Heap) p.instructions refl)
  printed_comes (Some words) line p =
      let c = comes (record p { text = p.text ++ line; words = words }) in
      let stage = stage_of functions p.numbers rest p.instructions words in
      (c.0, c.1 ∙ ap (λ (text : List ℕ). record stage { text = text }) (append_assoc p.text line stage.text))

  acted_comes : (insn : PlainInsn) (p : Progress) → Comes (gone_on (acted functions None insn p) go) (with_line p.text (stage_of functions p.numbers (insn ∷ rest) (suc p.instructions) p.words))
  unfolding acted stage_of taking_one numbers_after came_here
  acted_comes (SgetOut to) p = comes p
  acted_comes (Const4 to v) p = comes (record p { numbers = slice_set p.numbers to v })
  acted_comes (AddInt2Addr to other) p = comes (record p { numbers = numbers_after p.numbers (AddInt2Addr to other ∷ []) })
  acted_comes (AddIntLit8 to from literal) p = comes (record p { numbers = numbers_after p.numbers (AddIntLit8 to from literal ∷ []) })
  acted_comes (InvokePrintln stream number) p = printed_comes (less_by (2 + length (line_of (number_at p.numbers number))) p.words) (line_of (number_at p.numbers number)) p
  acted_comes (CallFunction function argument to) p =
      given_comes (less_by (instructions_by (slice_get functions function)) p.instructions) to (value_by (slice_get functions function) (number_at p.numbers argument)) p

  stepped_by : (n : ℕ) (insn : PlainInsn) (p : Progress) → p.instructions ≡ n →
      Comes (gone_on (taking_steps n p (acted functions None insn)) go) (with_line p.text (stage_of functions p.numbers (insn ∷ rest) n p.words))
  stepped_by zero insn p e =
      (tt, ends_here p (ending.Stopped cause.Budget) 0 e ∙ ap (λ (stage : Stage). with_line p.text stage) (sym (stage_spent functions p.numbers (insn ∷ rest) p.words)))
  stepped_by (suc n) insn p e = acted_comes insn (record p { instructions = n })

  stepped_comes : (insn : PlainInsn) (p : Progress) → Comes (gone_on (stepped functions None insn p) go) (stage_from functions p (insn ∷ rest))
  unfolding stepped
  stepped_comes insn p = stepped_by p.instructions insn p refl

returned_comes : (functions : List PlainFunction) (n : ℕ) (p : Progress) → p.instructions ≡ n → Comes (returned n p) (with_line p.text (stage_of functions p.numbers [] n p.words))
unfolding returned stage_of taking_one
returned_comes functions zero p e = (tt, ends_here p (ending.Stopped cause.Budget) 0 e)
returned_comes functions (suc n) p e = (tt, ends_here (record p { instructions = n }) ending.Returned n refl)

goes_comes : (functions : List PlainFunction) (insns : List PlainInsn) (p : Progress) → Comes (goes functions None insns p) (stage_from functions p insns)
unfolding goes
goes_comes functions [] p = returned_comes functions p.instructions p refl
goes_comes functions (insn ∷ rest) p = stepped_comes functions (goes functions None rest) rest (goes_comes functions rest) insn (record p { next = p.next + 1 })

begun_comes : (plain : Plain) (limits : Limits) (o : Option ℕ) → Comes (gone_on (begun o (opening plain limits)) (λ q. goes plain.functions None (drop q.next plain.main.insns) q)) (main_stage plain limits o)
unfolding main_stage
begun_comes plain limits None = (tt, refl)
begun_comes plain limits (Some words) = goes_comes plain.functions plain.main.insns (record (opening plain limits) { words = words })

all_comes : (plain : Plain) (limits : Limits) → Comes (all_gone plain (opening plain limits)) (main_stage plain limits (less_by 2 limits.words))
all_comes plain limits = begun_comes plain limits (less_by 2 limits.words)

module _ (plain : Plain) (limits : Limits) (machine new : Progress) (pause : Pause) (begins : machine ≡ opening plain limits)
    (went : record { pause = pause; progress = new } ≡ all_gone plain machine) where
  all_went : Comes (record { pause = pause; progress = new }) (main_stage plain limits (less_by 2 limits.words))
  all_went = subst (λ (w : Went). Comes w (main_stage plain limits (less_by 2 limits.words))) (sym (went ∙ ap (all_gone plain) begins)) (all_comes plain limits)

  pub never_enters : (entry : Entry) → pause ≡ pauses.AtEntry entry → ⊥
  never_enters entry e = subst (λ (p : Pause). IsDone p) e all_went.0

  pub reports : (ends : Ending) → pause ≡ pauses.Done ends → stage_report limits (stage_ended new ends) ≡ plain_report plain limits
  unfolding plain_report
  reports ends e = ap (λ (stage : Stage). stage_report limits stage) (ap (λ (p : Pause). paused_stage p new) (sym e) ∙ all_went.1)
