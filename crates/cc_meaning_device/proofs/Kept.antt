-- A function of a plain file, with a hook that keeps at each instruction what it kept: it keeps it through the function too.
use Rattle.std.proofs.Common.{◌≡◌, ℕ, zero, suc, ◌+◌, ◌-◌, ◌<◌, ◌≤◌, ℤ, pos, List, [], ◌∷◌, ◌++◌, length, replicate, Option, Some, None, refl, sym, ap, ◌∙◌, subst, arith, slice_get, slice_set}
use Rattle.std.specs.Int.{int_wrapping_add, w32}
use Rattle.std.proofs.lemmas.List.{append_assoc}
use Rattle.cc_meaning.specs.declared.value.Value.TheVariants as value
use Rattle.cc_meaning.specs.declared.value.Cell.TheVariants as cell
use Rattle.cc_meaning.specs.declared.report.StopCause.TheVariants as cause
use Rattle.cc_meaning.specs.declared.program.Method.{Method}
use Rattle.cc_meaning.specs.declared.instruction.Kind.TheVariants as access
use Rattle.cc_meaning.specs.declared.instruction.Insn.TheVariants as insn
use Rattle.cc_meaning_run.specs.World.{World, Stack, Locals}
use Rattle.cc_meaning_run.specs.Acts.{Returns, less_by, run_act}
use Rattle.cc_meaning_run.specs.Instructions.{on_cell, on_value, on_int, act_of, code_of_kind, code_of_method, code_of as code_in}
use Rattle.cc_meaning_run.specs.Eval.{Returned, Stopped, Ran, ran, Hook, cells_of, most_frames, most_registers, body, after, with_instructions, turn_in, eval_with}
use Rattle.cc_meaning_plain.specs.declared.plain.PlainInsn.{PlainInsn}
use Rattle.cc_meaning_plain.specs.declared.plain.PlainInsn.TheVariants.{SgetOut, Const4, AddInt2Addr, AddIntLit8, InvokePrintln, CallFunction}
use Rattle.cc_meaning_plain.specs.declared.plain.Last.{Last}
use Rattle.cc_meaning_plain.specs.declared.plain.Last.TheVariants.{ReturnVoid, Return}
use Rattle.cc_meaning_plain.specs.declared.plain.PlainCode.{PlainCode}
use Rattle.cc_meaning_plain.specs.declared.plain.PlainFunction.{PlainFunction}
use Rattle.cc_meaning_plain.specs.declared.plain.Plain.{Plain}
use Rattle.cc_meaning_plain.specs.declared.plain.Held.{Held}
use Rattle.cc_meaning_plain.specs.declared.plain.Held.TheVariants.{Nothing, Number}
use Rattle.cc_meaning_plain.specs.Code.{IsOfFunction, held_at_first, LastUses, UsesWhatIsSet}
use Rattle.cc_meaning_plain.specs.Plain.{IsPlain}
use Rattle.cc_meaning_plain.specs.Program.{function_number, placed, placed_from, code_of, function_of, program_of, setting_of}
use Rattle.cc_meaning_plain.specs.Text.{number_at, numbers_at_entry, numbers_after, number_returned, value_of, instructions_of}
use Rattle.cc_meaning_plain.specs.Laws.{AreBytes, function_ran}
use Rattle.cc_meaning_plain.proofs.Numbers.{numbers_methods}
use Rattle.cc_meaning_plain.proofs.Running.{units_before, units_before-more, Fits32, nothing, number, Fits, fnil, fcons, set_number, get_number, sum_fits, int_cell, led, evaluated, eval_spent, turn_goes, finds_first, const_turn, sum_turn, literal_turn}
use Rattle.cc_meaning_plain.proofs.Facts.{AllAdd, function_is_fine}
use Rattle.cc_meaning_plain.proofs.Functions.{body_begins}

-- what an instruction leaves of what the hook kept is all of it
abbrev pub KeepsStill : {T : Type 0} → Hook T → Type 0
KeepsStill {T} hook = (depth : ℕ) (called : List ℕ) (t : T) → hook.turned depth called t ≡ t

-- ---- what a straight run comes to

-- it gives this value with so many instructions left, or stops where too few stand
abbrev gave : {T : Type 0} → ℤ → World → Option ℕ → T → Ran T
gave x w None t = ran (Stopped cause.Budget) (with_instructions w 0) t
gave x w (Some left) t = ran (Returned (Some (value.Int x))) (with_instructions w left) t

gave_later : {T : Type 0} (x : ℤ) (w : World) (k : ℕ) (left : Option ℕ) (t : T) → gave x (with_instructions w k) left t ≡ gave x w left t
unfolding with_instructions
gave_later x w k None t = refl
gave_later x w k (Some left) t = refl

function_gave : {T : Type 0} (code : PlainCode) (argument : ℤ) (w : World) (left : Option ℕ) (t : T) → gave (value_of code argument) w left t ≡ function_ran code argument w left t
function_gave code argument w None t = refl
function_gave code argument w (Some left) t = refl

none_taken : (n : ℕ) → less_by (suc n) 0 ≡ None
unfolding less_by
none_taken n = refl

one_taken : (n k : ℕ) → less_by (suc n) (suc k) ≡ less_by n k
unfolding less_by
one_taken n k = refl

-- no more are left than there were
pub less_by_less : (n k left : ℕ) → less_by n k ≡ Some left → left ≤ k
unfolding less_by
less_by_less zero k left e = let same : k ≡ left = some_same e in omega arith
  where
    some_same : {a b : ℕ} → Some a ≡ Some b → a ≡ b
    some_same e = cc
less_by_less (suc n) zero left e = cc
less_by_less (suc n) (suc k) left e = let le = less_by_less n k left e in omega arith

-- ---- down the instructions

module _ {T : Type 0} (hook : Hook T) (still : KeepsStill hook) (plain : Plain) (m : ℕ) (code : PlainCode) (is_code : code_in (program_of plain) m ≡ Some (code_of plain code)) (of : IsOfFunction code.last) where
  more_done : (done rest : List PlainInsn) (i : PlainInsn) → code.insns ≡ done ++ (i ∷ rest) → code.insns ≡ (done ++ i ∷ []) ++ rest
  more_done done rest i e = e ∙ sym (append_assoc done (i ∷ []) rest)

  abbrev Gives : ℕ → ℕ → ℕ → ℤ → Locals → Stack → World → T → ℕ → Type 0
  Gives n pc left x locals stack w t count = evaluated hook plain m code is_code n pc locals stack w t ≡ gave x w (less_by count left) t

  spent : (n pc count : ℕ) (x : ℤ) (locals : Locals) (stack : Stack) (w : World) (t : T) → w.counters.instructions ≡ 0 → Gives n pc 0 x locals stack w t (suc count)
  unfolding with_instructions
  spent n pc count x locals stack w t e =
      eval_spent hook plain m code is_code n pc locals stack w t e ∙ ap (λ (left : ℕ). ran (Stopped cause.Budget) (with_instructions w left) t) e ∙ ap (λ (o : Option ℕ). gave x w o t) (sym (none_taken count))

  -- one instruction that gives nothing was done before the rest
  goes_on : (n k pc next count : ℕ) (x : ℤ) (locals locals' : Locals) (stack : Stack) (w : World) (t : T) →
      evaluated hook plain m code is_code (suc n) pc locals stack w t ≡ evaluated hook plain m code is_code n next locals' stack (with_instructions w k) (hook.turned stack.depth [] t) →
      Gives n next k x locals' stack (with_instructions w k) t count → Gives (suc n) pc (suc k) x locals stack w t (suc count)
  goes_on n k pc next count x locals locals' stack w t e rest =
      e ∙ ap (λ (t' : T). evaluated hook plain m code is_code n next locals' stack (with_instructions w k) t') (still stack.depth [] t)
      ∙ rest ∙ gave_later x w k (less_by count k) t ∙ ap (λ (o : Option ℕ). gave x w o t) (sym (one_taken count k))

  return_turn : (n k pc from : ℕ) (x : ℤ) (done : List PlainInsn) (locals : Locals) (stack : Stack) (w : World) (t : T) → code.insns ≡ done ++ [] → pc ≡ units_before done → w.counters.instructions ≡ suc k →
      code.last ≡ Return from → slice_get locals.cells from ≡ Some (int_cell x) → Gives (suc n) pc (suc k) x locals stack w t 1
  unfolding act_of run_act on_value on_cell on_int placed_from turn_in after less_by
  return_turn n k pc from x done locals stack w t e at left last ex =
      let p = placed pc 1 (insn.Return access.Plain from) in
      turn_goes hook plain m code is_code n k pc done [] p locals stack w t (led (Returns (Some (value.Int x))) (with_instructions w k) [])
      (finds_first hook plain m code is_code done [] pc p [] e at refl (ap (λ (a : ℕ). placed_from plain code.last a []) (sym at) ∙ ap (λ (l : Last). placed_from plain l pc []) last)) left (rw ex refl)
      ∙ ap (λ (t' : T). ran (Returned (Some (value.Int x))) (with_instructions w k) t') (still stack.depth [] t)

  returns : (n k pc : ℕ) (ns : List ℤ) (hs : List Held) (last : Last) (done : List PlainInsn) (locals : Locals) (stack : Stack) (w : World) (t : T) → code.insns ≡ done ++ [] → pc ≡ units_before done →
      Fits ns hs locals.cells → LastUses hs last → IsOfFunction last → code.last ≡ last → w.counters.instructions ≡ suc k → Gives (suc n) pc (suc k) (number_returned last ns) locals stack w t 1
  returns n k pc ns hs ReturnVoid done locals stack w t e at fits uses is last has = absurd is
  returns n k pc ns hs (Return from) done locals stack w t e at fits uses is last has =
      return_turn n k pc from (number_at ns from) done locals stack w t e at has last (get_number fits from uses).0

  goes_straight : (rest done : List PlainInsn) (n pc left : ℕ) (ns : List ℤ) (hs : List Held) (locals : Locals) (stack : Stack) (w : World) (t : T) → code.insns ≡ done ++ rest → pc ≡ units_before done →
      Fits ns hs locals.cells → UsesWhatIsSet code.last hs rest → AllAdd rest → w.counters.instructions ≡ left → left ≤ n →
      Gives n pc left (number_returned code.last (numbers_after ns rest)) locals stack w t (suc (length rest))
  unfolding numbers_after with_instructions
  goes_straight rest done n pc zero ns hs locals stack w t e at fits uses adds has le = spent n pc (length rest) _ locals stack w t has
  goes_straight rest done zero pc (suc k) ns hs locals stack w t e at fits uses adds has le = absurd (omega arith)
  goes_straight [] done (suc n) pc (suc k) ns hs locals stack w t e at fits uses adds has le = returns n k pc ns hs code.last done locals stack w t e at fits uses of refl has
  goes_straight (SgetOut to ∷ rest) done (suc n) pc (suc k) ns hs locals stack w t e at fits uses adds has le = absurd adds.0
  goes_straight (Const4 to v ∷ rest) done (suc n) pc (suc k) ns hs locals stack w t e at fits uses adds has le =
      goes_on n k pc (pc + 1) (suc (length rest)) _ locals _ stack w t (const_turn hook plain m code is_code n k pc to v done rest locals stack w t e at has)
      (goes_straight rest (done ++ Const4 to v ∷ []) n (pc + 1) k (slice_set ns to v) (slice_set hs to Number) _ stack _ t (more_done done rest (Const4 to v) e)
      (omega (arith, units_before-more done (Const4 to v))) (set_number fits to v adds.0) uses adds.1 refl (omega arith))
  goes_straight (AddInt2Addr to other ∷ rest) done (suc n) pc (suc k) ns hs locals stack w t e at fits uses adds has le =
      let x = get_number fits to uses.0 in
      let y = get_number fits other uses.1 in
      let sum = int_wrapping_add w32 (number_at ns to) (number_at ns other) in
      goes_on n k pc (pc + 1) (suc (length rest)) _ locals _ stack w t (sum_turn hook plain m code is_code n k pc to other _ _ done rest locals stack w t e at has x.0 y.0)
      (goes_straight rest (done ++ AddInt2Addr to other ∷ []) n (pc + 1) k (slice_set ns to sum) (slice_set hs to Number) _ stack _ t (more_done done rest (AddInt2Addr to other) e)
      (omega (arith, units_before-more done (AddInt2Addr to other))) (set_number fits to sum (sum_fits _ _ x.1 y.1)) uses.2 adds.1 refl (omega arith))
  goes_straight (AddIntLit8 to from literal ∷ rest) done (suc n) pc (suc k) ns hs locals stack w t e at fits uses adds has le =
      let x = get_number fits from uses.0 in
      let sum = int_wrapping_add w32 (number_at ns from) literal in
      goes_on n k pc (pc + 2) (suc (length rest)) _ locals _ stack w t (literal_turn hook plain m code is_code n k pc to from _ literal done rest locals stack w t e at has x.0)
      (goes_straight rest (done ++ AddIntLit8 to from literal ∷ []) n (pc + 2) k (slice_set ns to sum) (slice_set hs to Number) _ stack _ t (more_done done rest (AddIntLit8 to from literal) e)
      (omega (arith, units_before-more done (AddIntLit8 to from literal))) (set_number fits to sum (sum_fits _ _ x.1 adds.0)) uses.1 adds.1 refl (omega arith))
  goes_straight (InvokePrintln receiver from ∷ rest) done (suc n) pc (suc k) ns hs locals stack w t e at fits uses adds has le = absurd adds.0
  goes_straight (CallFunction function argument to ∷ rest) done (suc n) pc (suc k) ns hs locals stack w t e at fits uses adds has le = absurd adds.0

-- ---- a function's body

fits_at_entry : (unset : ℕ) (argument : ℤ) → Fits32 argument → Fits (replicate unset (pos 0) ++ argument ∷ []) (replicate unset Nothing ++ Number ∷ []) (replicate unset cell.Unset ++ int_cell argument ∷ [])
fits_at_entry zero argument f = fcons (number f) fnil
fits_at_entry (suc n) argument f = fcons nothing (fits_at_entry n argument f)

held_of_function : (last : Last) (registers : ℕ) → IsOfFunction last → held_at_first last registers ≡ replicate (registers - 1) Nothing ++ Number ∷ []
held_of_function ReturnVoid registers of = absurd of
held_of_function (Return from) registers of = refl

function_code : (plain : Plain) (i : ℕ) (f : PlainFunction) → slice_get plain.functions i ≡ Some f → code_in (program_of plain) (function_number plain i) ≡ Some (code_of plain f.code)
unfolding code_in code_of_method code_of_kind function_of
function_code plain i f e = ap (λ (method : Option Method). code_of_method method) ((numbers_methods plain).functions i f e)

-- a function that finds room for its frame gives its value, or stops, and the hook keeps what it kept
pub function_keeps : {T : Type 0} (hook : Hook T) (still : KeepsStill hook) (file : List ℕ) (plain : Plain) (i : ℕ) (f : PlainFunction) → AreBytes file → IsPlain file plain →
    slice_get plain.functions i ≡ Some f → (bound : ℕ) (number : ℤ) (stack : Stack) (w : World) (t : T) → Fits32 number → w.counters.instructions ≤ bound →
    stack.depth < most_frames → stack.registers + f.code.registers ≤ most_registers →
    body (eval_with hook (setting_of plain) bound) (setting_of plain) (function_number plain i) (value.Int number ∷ []) stack w t
    ≡ function_ran f.code number w (less_by (instructions_of f.code) w.counters.instructions) t
unfolding value_of instructions_of cells_of
function_keeps hook still file plain i f bytes is e bound argument stack w t fits le frames few =
    let fine = function_is_fine file plain bytes is i f e in
    let m = function_number plain i in
    let is_code = function_code plain i f e in
    let begins = body_begins hook plain m f.code is_code bound (value.Int argument) stack w t frames few in
    let uses = subst (λ (held : List Held). UsesWhatIsSet f.code.last held f.code.insns) (held_of_function f.code.last f.code.registers fine.returns) fine.uses in
    let runs = goes_straight hook still plain m f.code is_code fine.returns f.code.insns [] bound 0 w.counters.instructions (numbers_at_entry f.code argument) (replicate (f.code.registers - 1) Nothing ++ Number ∷ []) _ _ w t refl refl
    (fits_at_entry (f.code.registers - 1) argument fits) uses fine.adds refl le in
    begins ∙ runs ∙ function_gave f.code argument w (less_by (suc (length f.code.insns)) w.counters.instructions) t
