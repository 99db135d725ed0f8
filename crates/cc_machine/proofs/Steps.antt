-- The steps of a run.
use Rattle.std.proofs.Common.{◌≡◌, ℕ, suc, ◌+◌, ◌-◌, ◌<◌, ◌≤◌, ℤ, pos, List, [], ◌∷◌, ◌++◌, length, drop, Option, Some, None, Result, Ok, Err, refl, sym, ap, ◌∙◌, subst, arith, slice_get, slice_index_or, Bool, true, false, MatchBool, MatchOption, IfOk, ◌⊎◌, inl, inr}
use Rattle.std.specs.declared.alloc.AllocError.{AllocError}
use Rattle.std.specs.Fmt.{signed_decimal}
use Rattle.std.proofs.lemmas.List.{append_assoc, drop_more}
use Rattle.std.proofs.Math.ListN.{drop_of_length-le}
use Rattle.cc_meaning.specs.declared.report.StopCause.{StopCause}
use Rattle.cc_meaning.specs.declared.report.StopCause.TheVariants as cause
use Rattle.cc_meaning.specs.declared.report.Ending.TheVariants as ending
use Rattle.cc_meaning_run.specs.Acts.{less_by}
use Rattle.cc_meaning_run.specs.Instructions.{line_of}
use Rattle.cc_meaning_plain.specs.declared.plain.PlainInsn.{PlainInsn}
use Rattle.cc_meaning_plain.specs.declared.plain.PlainInsn.TheVariants.{SgetOut, Const4, AddInt2Addr, AddIntLit8, InvokePrintln, CallFunction}
use Rattle.cc_meaning_plain.specs.declared.plain.PlainFunction.{PlainFunction}
use Rattle.cc_meaning_plain.specs.Text.{number_at, numbers_after, value_by, instructions_by}
use Rattle.cc_meaning_plain.proofs.Words.{less_some, less_none}
use Rattle.cc_machine.specs.declared.progress.Progress.{Progress}
use Rattle.cc_machine.specs.declared.progress.Came.{Came}
use Rattle.cc_machine.specs.declared.progress.Pause.{Pause}
use Rattle.cc_machine.specs.declared.progress.Pause.TheVariants as pauses
use Rattle.cc_machine.specs.Given.{Gives, GivesAt}
use Rattle.cc_machine.specs.Lines.{Printed, TooFewWords}
use Rattle.cc_machine.specs.Going.{Stepped, OnWith, Went, stepped_to, stopped, taking, result_taken, came_back, given, came_here, printed, is_stop, entered, acted, stepped, returned, gone_on, goes}
use Rattle.cc_machine.specs.Running.{begun}

pub push_line : (old mid new : List ℕ) (n : ℤ) → mid ≡ old ++ signed_decimal n → new ≡ mid ++ 10 ∷ [] → new ≡ old ++ line_of n
unfolding line_of
push_line old mid new n e f = f ∙ ap (λ (m : List ℕ). m ++ 10 ∷ []) e ∙ append_assoc old (signed_decimal n) (10 ∷ [])

-- ---- taking instructions

pub stops_by : (c : StopCause) (pause : Option Pause) (p : Progress) → pause ≡ Some (pauses.Done (ending.Stopped c)) → stepped_to pause p ≡ stopped c p
stops_by c pause p e = ap (λ (x : Option Pause). stepped_to x p) e

pub none_left : (n : ℕ) (pause : Option Pause) (p : Progress) (go : Progress → Stepped) → n ≡ 0 → pause ≡ Some (pauses.Done (ending.Stopped cause.Budget)) → stepped_to pause p ≡ taking n p go
none_left n pause p go e is = stops_by cause.Budget pause p is ∙ ap (λ (k : ℕ). taking k p go) (sym e)

pub one_taken : (n : ℕ) (p : Progress) (go : Progress → Stepped) → (n ≡ 0 → ⊥) → go (record p { instructions = n - 1 }) ≡ taking n p go
one_taken n p go some =
    let one : n ≡ suc (n - 1) = omega arith in
    ap (λ (k : ℕ). taking k p go) (sym one)

pub begins_without : (p q : Progress) → p ≡ q → q.words < 2 → stopped cause.Heap p ≡ begun (less_by 2 p.words) p
begins_without p q same few = ap (λ (o : Option ℕ). begun o p) (sym (less_none 2 p.words (omega (arith, few, ap Progress.words same))))

pub begins_with : (p q : Progress) → p ≡ q → 2 ≤ q.words → OnWith (record q { words = q.words - 2 }) ≡ begun (less_by 2 p.words) p
begins_with p q same enough =
    subst (λ (x : Progress). OnWith (record q { words = q.words - 2 }) ≡ begun (less_by 2 x.words) x) (sym same) (ap (λ (o : Option ℕ). begun o q) (sym (less_some 2 q.words enough)))

-- ---- the end

pub ends_without : (n : ℕ) (p : Progress) → n ≡ 0 → record { pause = pauses.Done (ending.Stopped cause.Budget); progress = p } ≡ returned n p
unfolding returned
ends_without n p e = ap (λ (k : ℕ). returned k p) (sym e)

pub ends_with_one : (n : ℕ) (p : Progress) → (n ≡ 0 → ⊥) → record { pause = pauses.Done ending.Returned; progress = record p { instructions = n - 1 } } ≡ returned n p
unfolding returned
ends_with_one n p some =
    let one : n ≡ suc (n - 1) = omega arith in
    ap (λ (k : ℕ). returned k p) (sym one)

-- ---- a call

pub gives_at : (functions : List PlainFunction) (function : ℕ) (f : PlainFunction) (argument : ℤ) (instructions : ℕ) (g : Option (ℤ × ℕ)) → slice_get functions function ≡ Some f → Gives f.code argument instructions g → GivesAt functions function argument instructions g
gives_at functions function f argument instructions g e h =
    subst (λ (o : Option PlainFunction). MatchOption g (less_by (instructions_by o) instructions ≡ None) (λ (x : ℤ × ℕ). (x.0 ≡ value_by o argument) × (less_by (instructions_by o) instructions ≡ Some x.1))) (sym e) h

pub gives_nowhere : (functions : List PlainFunction) (function : ℕ) (argument : ℤ) (instructions : ℕ) → slice_get functions function ≡ None → GivesAt functions function argument instructions (Some (pos 0, instructions))
unfolding less_by
gives_nowhere functions function argument instructions e =
    subst (λ (o : Option PlainFunction). (pos 0 ≡ value_by o argument) × (less_by (instructions_by o) instructions ≡ Some instructions)) (sym e) (refl, refl)

pub comes_with : (functions : List PlainFunction) (function : ℕ) (argument : ℤ) (instructions words : ℕ) (g : Option (ℤ × ℕ)) (x : ℤ × ℕ) → GivesAt functions function argument instructions g → g ≡ Some x →
    record { value = Ok x.0; instructions = x.1; words = words } ≡ came_here functions function argument instructions words
unfolding came_here
comes_with functions function argument instructions words None x h e = absurd cc
comes_with functions function argument instructions words (Some y) x h e =
    let same : y ≡ x = some_same y x e in
    let paid : less_by (instructions_by (slice_get functions function)) instructions ≡ Some x.1 = h.1 ∙ ap (λ (z : ℤ × ℕ). Some z.1) same in
    let value : x.0 ≡ value_by (slice_get functions function) argument = ap (λ (z : ℤ × ℕ). z.0) (sym same) ∙ h.0 in
    ap (λ (v : ℤ). given (Some x.1) v words) value ∙ ap (λ (o : Option ℕ). given o (value_by (slice_get functions function) argument) words) (sym paid)
  where
    some_same : (a b : ℤ × ℕ) → Some a ≡ Some b → a ≡ b
    some_same a b e = cc

pub comes_without : (functions : List PlainFunction) (function : ℕ) (argument : ℤ) (instructions words : ℕ) (g : Option (ℤ × ℕ)) → GivesAt functions function argument instructions g → g ≡ None →
    record { value = Err cause.Budget; instructions = 0; words = words } ≡ came_here functions function argument instructions words
unfolding came_here
comes_without functions function argument instructions words (Some y) h e = absurd cc
comes_without functions function argument instructions words None h e = ap (λ (o : Option ℕ). given o (value_by (slice_get functions function) argument) words) (sym h)

pub back_with : (to : ℕ) (came : Came) (p : Progress) (value taken : ℤ) (s : Stepped) → came.value ≡ Ok value → taken ≡ value → s ≡ result_taken to taken (record p { instructions = came.instructions; words = came.words }) → s ≡ came_back to came p
unfolding came_back
back_with to came p value taken s e same h = rw (e, sym same) h

pub back_without : (to : ℕ) (came : Came) (p : Progress) (c : StopCause) (s : Stepped) → came.value ≡ Err c → s ≡ stopped c (record p { instructions = came.instructions; words = came.words }) → s ≡ came_back to came p
unfolding came_back
back_without to came p c s e h = rw e h

-- ---- printing

done_of : (P Q : Type 0) (done : Bool) → done ≡ true → MatchBool done P Q → P
done_of P Q true e m = m
done_of P Q false e m = absurd cc

undone_of : (P Q : Type 0) (done : Bool) → done ≡ false → MatchBool done P Q → Q
undone_of P Q true e m = absurd cc
undone_of P Q false e m = m

pub prints : (old new : Progress) (line : List ℕ) (done : Bool) → done ≡ true → MatchBool done (Printed old line new) (TooFewWords old line new) → OnWith new ≡ printed line (less_by (2 + length line) old.words) old
prints old new line done d m =
    let p : Printed old line new = done_of _ _ done d m in
    let paid : less_by (2 + length line) old.words ≡ Some new.words = less_some (2 + length line) old.words (omega (arith, p.words)) ∙ ap Some (omega (arith, p.words)) in
    ap OnWith p.others ∙ ap (λ (text : List ℕ). OnWith (record old { text = text; words = new.words })) p.text ∙ ap (λ (o : Option ℕ). printed line o old) (sym paid)

pub lacks : (old new : Progress) (line : List ℕ) (done : Bool) → done ≡ false → MatchBool done (Printed old line new) (TooFewWords old line new) → stopped cause.Heap new ≡ printed line (less_by (2 + length line) old.words) old
lacks old new line done d m =
    let p : TooFewWords old line new = undone_of _ _ done d m in
    ap (λ (q : Progress). stopped cause.Heap q) p.same ∙ ap (λ (o : Option ℕ). printed line o old) (sym (less_none (2 + length line) old.words p.few))

-- ---- down the instructions

module _ (functions : List PlainFunction) (stops : Option ℕ) where
  -- a run goes from place i on as the whole goes
  abbrev pub Goes : List PlainInsn → Progress → Went → Type 0
  Goes insns p whole = goes functions stops (drop p.next insns) p ≡ whole

  pub goes_step : (insns : List PlainInsn) (old new : Progress) (insn : PlainInsn) (pause : Option Pause) (whole : Went) → old.next < length insns → insn ≡ slice_index_or insns old.next insn →
      stepped_to pause new ≡ stepped functions stops insn (record old { next = old.next + 1 }) → Goes insns old whole → gone_on (stepped_to pause new) (goes functions stops (drop (old.next + 1) insns)) ≡ whole
  unfolding goes
  goes_step insns old new insn pause whole h is step went =
      let first : drop old.next insns ≡ insn ∷ drop (old.next + 1) insns = drop_more insns old.next insn h ∙ ap (λ (x : PlainInsn). x ∷ drop (old.next + 1) insns) (sym is) in
      ap (λ (s : Stepped). gone_on s (goes functions stops (drop (old.next + 1) insns))) step ∙ sym (ap (λ (rest : List PlainInsn). goes functions stops rest old) first) ∙ went

  pub goes_to_end : (insns : List PlainInsn) (p : Progress) (whole : Went) → length insns ≤ p.next → Goes insns p whole → returned p.instructions p ≡ whole
  unfolding goes
  goes_to_end insns p whole h went = ap (λ (rest : List PlainInsn). goes functions stops rest p) (sym (drop_of_length-le insns h)) ∙ went

-- ---- one instruction

-- an instruction that adds changes numbers alone
abbrev pub IsAdding : PlainInsn → Type 0
IsAdding (SgetOut to) = ⊥
IsAdding (Const4 to v) = Unit {0}
IsAdding (AddInt2Addr to other) = Unit {0}
IsAdding (AddIntLit8 to from literal) = Unit {0}
IsAdding (InvokePrintln stream number) = ⊥
IsAdding (CallFunction function argument to) = ⊥

adding_by : (insn other : PlainInsn) → IsAdding other → insn ≡ other → IsAdding insn
adding_by insn other a e = subst (λ (i : PlainInsn). IsAdding i) (sym e) a

pub is_adding : (insn : PlainInsn) → ((x : ℕ) × (v : ℤ) × (insn ≡ Const4 x v)) ⊎ (((x : ℕ) × (y : ℕ) × (insn ≡ AddInt2Addr x y)) ⊎ ((x : ℕ) × (y : ℕ) × (v : ℤ) × (insn ≡ AddIntLit8 x y v))) → IsAdding insn
is_adding insn (inl c) = adding_by insn (Const4 c.0 c.1) tt c.2
is_adding insn (inr (inl c)) = adding_by insn (AddInt2Addr c.0 c.1) tt c.2
is_adding insn (inr (inr c)) = adding_by insn (AddIntLit8 c.0 c.1 c.2) tt c.3

if_ok_by : {A E : Type 0} (r : Result A E) (P Q : A → Type 0) → ((a : A) → P a → Q a) → IfOk r P → IfOk r Q
if_ok_by (Ok a) P Q h p = h a p
if_ok_by (Err e) P Q h p = p

module _ (functions : List PlainFunction) (stops : Option ℕ) where
  pub acts_out : (insn : PlainInsn) (to : ℕ) (p : Progress) → insn ≡ SgetOut to → OnWith p ≡ acted functions stops insn p
  unfolding acted
  acts_out insn to p is = rw is refl

  acts_by : (insn : PlainInsn) (p : Progress) → IsAdding insn → OnWith (record p { numbers = numbers_after p.numbers (insn ∷ []) }) ≡ acted functions stops insn p
  unfolding acted
  acts_by (SgetOut to) p a = absurd a
  acts_by (Const4 to v) p a = refl
  acts_by (AddInt2Addr to other) p a = refl
  acts_by (AddIntLit8 to from literal) p a = refl
  acts_by (InvokePrintln stream number) p a = absurd a
  acts_by (CallFunction function argument to) p a = absurd a

  pub acts_on_numbers : (insn : PlainInsn) (p : Progress) (numbers : List ℤ) → IsAdding insn → numbers ≡ numbers_after p.numbers (insn ∷ []) → OnWith (record p { numbers = numbers }) ≡ acted functions stops insn p
  acts_on_numbers insn p numbers a e = ap (λ (ns : List ℤ). OnWith (record p { numbers = ns })) e ∙ acts_by insn p a

  pub acts_on_stream : (insn : PlainInsn) (stream number : ℕ) (p new : Progress) (r : Result (Option Pause) AllocError) → insn ≡ InvokePrintln stream number →
      IfOk r (λ pause. stepped_to pause new ≡ printed (line_of (number_at p.numbers number)) (less_by (2 + length (line_of (number_at p.numbers number))) p.words) p) →
      IfOk r (λ pause. stepped_to pause new ≡ acted functions stops insn p)
  unfolding acted
  acts_on_stream insn stream number p new r is h = rw is h

  pub acts_on_call : (insn : PlainInsn) (function argument to : ℕ) (x : ℤ) (p new : Progress) (r : Result (Option Pause) AllocError) → insn ≡ CallFunction function argument to → x ≡ number_at p.numbers argument →
      IfOk r (λ pause. stepped_to pause new ≡ entered (is_stop stops function) functions (record { function = function; argument = x; to = to }) p) →
      IfOk r (λ pause. stepped_to pause new ≡ acted functions stops insn p)
  unfolding acted
  acts_on_call insn function argument to x p new r is same h = rw (is, sym same) h

  pub steps_without : (insn : PlainInsn) (pause : Option Pause) (p : Progress) → p.instructions ≡ 0 → pause ≡ Some (pauses.Done (ending.Stopped cause.Budget)) → stepped_to pause p ≡ stepped functions stops insn p
  unfolding stepped
  steps_without insn pause p e is = none_left p.instructions pause p (acted functions stops insn) e is

  pub steps_with : (insn : PlainInsn) (p new : Progress) (r : Result (Option Pause) AllocError) → (p.instructions ≡ 0 → ⊥) →
      IfOk r (λ pause. stepped_to pause new ≡ acted functions stops insn (record p { instructions = p.instructions - 1 })) → IfOk r (λ pause. stepped_to pause new ≡ stepped functions stops insn p)
  unfolding stepped
  steps_with insn p new r some h =
      if_ok_by r _ (λ pause. stepped_to pause new ≡ stepped functions stops insn p) (λ pause e. e ∙ one_taken p.instructions p (acted functions stops insn) some) h
