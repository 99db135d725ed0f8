-- What one turn of a plain file's method does, whatever accompanies the run: the instructions that add, and the others of `main`.
use Rattle.std.proofs.Common.{◌≡◌, ℕ, zero, suc, ◌+◌, ◌<◌, ◌≤◌, ◌==◌, ℤ, Bool, true, false, List, [], ◌∷◌, ◌++◌, Option, Some, None, refl, sym, ap, ◌∙◌, subst, arith, slice_get, slice_set, find}
use Rattle.std.specs.Int.{int_wrapping_add, w32}
use Rattle.std.specs.Int.RustNames.{FitsSigned}
use Rattle.std.proofs.lemmas.Int.{wrapping_add_is, SFits-int_wrap}
use Rattle.std.proofs.lemmas.Bool.Decides.{nat_tests}
use Rattle.cc_meaning.specs.declared.value.Value.TheVariants as value
use Rattle.cc_meaning.specs.declared.value.Cell.{Cell}
use Rattle.cc_meaning.specs.declared.value.Cell.TheVariants as cell
use Rattle.cc_meaning.specs.declared.report.StopCause.TheVariants as cause
use Rattle.cc_meaning.specs.declared.program.Placed.{Placed}
use Rattle.cc_meaning.specs.declared.instruction.Kind.TheVariants as access
use Rattle.cc_meaning.specs.declared.instruction.IntOp.TheVariants as op
use Rattle.cc_meaning.specs.declared.instruction.How.TheVariants as how
use Rattle.cc_meaning.specs.declared.instruction.MethodRef.TheVariants as ref
use Rattle.cc_meaning.specs.declared.instruction.Insn.TheVariants as insn
use Rattle.cc_meaning_run.specs.World.{Setting, World, Stack, Locals}
use Rattle.cc_meaning.specs.declared.program.Code.{Code}
use Rattle.cc_meaning_run.specs.Acts.{Outcome, Next, Act, Reached, run_act}
use Rattle.cc_meaning_run.specs.Instructions.{on_cell, on_value, on_int, set_next, act_of, code_of as code_in, placed_in, act_placed, act_at}
use Rattle.cc_meaning_run.specs.Eval.{Stopped, Ran, ran, Hook, after, with_instructions, turn_in, turn, eval_with}
use Rattle.cc_meaning_plain.specs.declared.plain.PlainInsn.{PlainInsn}
use Rattle.cc_meaning_plain.specs.declared.plain.PlainInsn.TheVariants.{SgetOut, Const4, AddInt2Addr, AddIntLit8, InvokePrintln, CallFunction}
use Rattle.cc_meaning_plain.specs.declared.plain.Last.{Last}
use Rattle.cc_meaning_plain.specs.declared.plain.PlainCode.{PlainCode}
use Rattle.cc_meaning_plain.specs.declared.plain.Plain.{Plain}
use Rattle.cc_meaning_plain.specs.declared.plain.Held.{Held}
use Rattle.cc_meaning_plain.specs.declared.plain.Held.TheVariants.{Nothing, Number, Stream}
use Rattle.cc_meaning_plain.specs.Code.{units_of}
use Rattle.cc_meaning_plain.specs.Program.{file_class, function_number, placed, placed_insn, placed_from, code_of, program_of, setting_of}
use Rattle.cc_meaning_plain.specs.Text.{number_at}

-- ---- the instruction at a place

-- how many units the instructions take
abbrev pub units_before : List PlainInsn → ℕ
units_before [] = 0
units_before (i ∷ rest) = units_of i + units_before rest

pub some_units : (i : PlainInsn) → 1 ≤ units_of i
some_units (SgetOut to) = omega arith
some_units (Const4 to value) = omega arith
some_units (AddInt2Addr to other) = omega arith
some_units (AddIntLit8 to from literal) = omega arith
some_units (InvokePrintln receiver from) = omega arith
some_units (CallFunction function argument to) = omega arith

pub not_same : (m n : ℕ) → m < n → (m == n) ≡ false
not_same m n h = grind (arith, nat_tests)

pub same : (m n : ℕ) → m ≡ n → (m == n) ≡ true
same m n h = grind (arith, nat_tests)

pub find_here : (p : Placed → Bool) (x : Placed) (xs : List Placed) → p x ≡ true → find p (x ∷ xs) ≡ Some x
find_here p x xs e = rw e refl

pub find_later : (p : Placed → Bool) (x : Placed) (xs : List Placed) → p x ≡ false → find p (x ∷ xs) ≡ find p xs
find_later p x xs e = rw e refl

abbrev pub is_at : ℕ → Placed → Bool
is_at pc placed = placed.at == pc

pub units_before-more : (done : List PlainInsn) (i : PlainInsn) → units_before (done ++ i ∷ []) ≡ units_before done + units_of i
units_before-more [] i = omega arith
units_before-more (x ∷ done) i = omega (arith, units_before-more done i)

module _ (plain : Plain) where
  -- an instruction before the place is passed over
  find_passes : (i : PlainInsn) (xs : List Placed) (at pc : ℕ) → at + units_of i ≤ pc → find (is_at pc) (placed_insn plain at i ++ xs) ≡ find (is_at pc) xs
  find_passes (SgetOut to) xs at pc le = find_later (is_at pc) _ xs (not_same at pc (omega arith))
  find_passes (Const4 to v) xs at pc le = find_later (is_at pc) _ xs (not_same at pc (omega arith))
  find_passes (AddInt2Addr to other) xs at pc le = find_later (is_at pc) _ xs (not_same at pc (omega arith))
  find_passes (AddIntLit8 to from literal) xs at pc le = find_later (is_at pc) _ xs (not_same at pc (omega arith))
  find_passes (InvokePrintln receiver from) xs at pc le = find_later (is_at pc) _ xs (not_same at pc (omega arith))
  find_passes (CallFunction function argument to) xs at pc le =
      let call = placed at 3 (insn.Invoke how.Static (ref.Known file_class (function_number plain function)) (argument ∷ [])) in
      let taken = placed (at + 3) 1 (insn.MoveResult access.Plain to) in
      find_later (is_at pc) call (taken ∷ xs) (not_same at pc (omega arith)) ∙ find_later (is_at pc) taken xs (not_same (at + 3) pc (omega arith))

  pub find_placed : (last : Last) (done rest : List PlainInsn) (at pc : ℕ) → at + units_before done ≤ pc →
      find (is_at pc) (placed_from plain last at (done ++ rest)) ≡ find (is_at pc) (placed_from plain last (at + units_before done) rest)
  unfolding placed_from
  find_placed last [] rest at pc le = let here : at ≡ at + 0 = omega arith in ap (λ (a : ℕ). find (is_at pc) (placed_from plain last a rest)) here
  find_placed last (i ∷ done) rest at pc le =
      let there : at + units_of i + units_before done ≡ at + (units_of i + units_before done) = omega arith in
      find_passes i (placed_from plain last (at + units_of i) (done ++ rest)) at pc (omega arith) ∙ find_placed last done rest (at + units_of i) pc (omega arith)
      ∙ ap (λ (a : ℕ). find (is_at pc) (placed_from plain last a rest)) there

-- ---- registers

abbrev pub Fits32 : ℤ → Type 0
Fits32 = FitsSigned w32

pub data FitsCell : ℤ → Held → Cell → Type 0 where
  nothing : {n : ℤ} {c : Cell} → FitsCell n Nothing c
  number : {n : ℤ} → Fits32 n → FitsCell n Number (cell.Value (value.Int n))
  stream : {n : ℤ} → FitsCell n Stream (cell.Value (value.Obj (Some 0)))

-- the registers of a frame hold these numbers and kinds of things
pub data Fits : List ℤ → List Held → List Cell → Type 0 where
  fnil : Fits [] [] []
  fcons : {n : ℤ} {h : Held} {c : Cell} {ns : List ℤ} {hs : List Held} {cs : List Cell} → FitsCell n h c → Fits ns hs cs → Fits (n ∷ ns) (h ∷ hs) (c ∷ cs)

pub set_number : {ns : List ℤ} {hs : List Held} {cs : List Cell} → Fits ns hs cs → (r : ℕ) (n : ℤ) → Fits32 n → Fits (slice_set ns r n) (slice_set hs r Number) (slice_set cs r (cell.Value (value.Int n)))
set_number fnil r n f = fnil
set_number (fcons c fs) zero n f = fcons (number f) fs
set_number (fcons c fs) (suc r) n f = fcons c (set_number fs r n f)

pub set_stream : {ns : List ℤ} {hs : List Held} {cs : List Cell} → Fits ns hs cs → (r : ℕ) → Fits ns (slice_set hs r Stream) (slice_set cs r (cell.Value (value.Obj (Some 0))))
set_stream fnil r = fnil
set_stream (fcons c fs) zero = fcons stream fs
set_stream (fcons c fs) (suc r) = fcons c (set_stream fs r)

abbrev pub HoldsNumber : List ℤ → List Cell → ℕ → Type 0
HoldsNumber ns cs r = (slice_get cs r ≡ Some (cell.Value (value.Int (number_at ns r)))) × Fits32 (number_at ns r)

some_of : {A : Type 0} {a b : A} → Some a ≡ Some b → a ≡ b
some_of e = cc

cell_number : {n : ℤ} {h : Held} {c : Cell} → FitsCell n h c → h ≡ Number → (c ≡ cell.Value (value.Int n)) × Fits32 n
cell_number nothing e = cc
cell_number (number f) e = (refl, f)
cell_number stream e = cc

cell_stream : {n : ℤ} {h : Held} {c : Cell} → FitsCell n h c → h ≡ Stream → c ≡ cell.Value (value.Obj (Some 0))
cell_stream nothing e = cc
cell_stream (number f) e = cc
cell_stream stream e = refl

pub get_number : {ns : List ℤ} {hs : List Held} {cs : List Cell} → Fits ns hs cs → (r : ℕ) → slice_get hs r ≡ Some Number → HoldsNumber ns cs r
get_number fnil r e = cc
get_number (fcons c fs) zero e = let h = cell_number c (some_of e) in (ap Some h.0, h.1)
get_number (fcons c fs) (suc r) e = get_number fs r e

pub get_stream : {ns : List ℤ} {hs : List Held} {cs : List Cell} → Fits ns hs cs → (r : ℕ) → slice_get hs r ≡ Some Stream → slice_get cs r ≡ Some (cell.Value (value.Obj (Some 0)))
get_stream fnil r e = cc
get_stream (fcons c fs) zero e = ap Some (cell_stream c (some_of e))
get_stream (fcons c fs) (suc r) e = get_stream fs r e

pub sum_fits : (x y : ℤ) → Fits32 x → Fits32 y → Fits32 (int_wrapping_add w32 x y)
sum_fits x y f g = subst (λ z. Fits32 z) (sym (wrapping_add_is w32 x y f g)) (SFits-int_wrap w32 _)

-- ---- one instruction

abbrev pub next_with : ℕ → List Cell → Outcome
next_with next cells = Next next (record { cells = cells; pending = None })

abbrev pub led : Outcome → World → List ℕ → Reached
led outcome w called = record { outcome = outcome; world = w; called = called }

abbrev pub int_cell : ℤ → Cell
int_cell n = cell.Value (value.Int n)

module _ {T : Type 0} (hook : Hook T) (plain : Plain) (m : ℕ) (code : PlainCode) (is_code : code_in (program_of plain) m ≡ Some (code_of plain code)) where
  abbrev pub s : Setting
  s = setting_of plain

  -- what the method does from an address on
  abbrev pub evaluated : (n pc : ℕ) → Locals → Stack → World → T → Ran T
  evaluated n pc locals stack w t = eval_with hook s n m pc locals stack w t

  eval_step : (n k pc : ℕ) (locals : Locals) (stack : Stack) (w : World) (t : T) → w.counters.instructions ≡ suc k →
      evaluated (suc n) pc locals stack w t ≡ turn_in hook (eval_with hook s n) s m locals stack (run_act (act_at s.program m pc locals) (with_instructions w k)) t
  unfolding eval_with turn
  eval_step n k pc locals stack w t e = ap (λ (left : ℕ). turn hook (eval_with hook s n) s m pc locals stack left w t) e

  -- where no instruction is left the run stops, whatever the bound
  pub eval_spent : (n pc : ℕ) (locals : Locals) (stack : Stack) (w : World) (t : T) → w.counters.instructions ≡ 0 → evaluated n pc locals stack w t ≡ ran (Stopped cause.Budget) w t
  unfolding eval_with turn
  eval_spent zero pc locals stack w t e = refl
  eval_spent (suc n) pc locals stack w t e = ap (λ (left : ℕ). turn hook (eval_with hook s n) s m pc locals stack left w t) e

  -- the instruction at a place behind those that are done
  abbrev pub Finds : (done rest : List PlainInsn) (pc : ℕ) → Placed → Type 0
  Finds done rest pc p = (code.insns ≡ done ++ rest) × (units_before done ≤ pc) × (find (is_at pc) (placed_from plain code.last (units_before done) rest) ≡ Some p)

  act_found : (done rest : List PlainInsn) (pc : ℕ) (p : Placed) (locals : Locals) → Finds done rest pc p → act_at s.program m pc locals ≡ act_of (program_of plain) (p.at + p.units) locals p.insn
  unfolding act_at placed_in act_placed setting_of
  act_found done rest pc p locals f =
      let at : (0 + units_before done) ≡ units_before done = omega arith in
      let first : find (is_at pc) (placed_from plain code.last 0 code.insns) ≡ Some p =
      ap (λ (is : List PlainInsn). find (is_at pc) (placed_from plain code.last 0 is)) f.0 ∙ find_placed plain code.last done rest 0 pc (omega (arith, f.1))
      ∙ ap (λ (a : ℕ). find (is_at pc) (placed_from plain code.last a rest)) at ∙ f.2 in
      ap (λ (c : Option Code). act_placed (program_of plain) locals (placed_in c pc)) is_code ∙ ap (λ (o : Option Placed). act_placed (program_of plain) locals o) first

  pub turn_goes : (n k pc : ℕ) (done rest : List PlainInsn) (p : Placed) (locals : Locals) (stack : Stack) (w : World) (t : T) (r : Reached) → Finds done rest pc p → w.counters.instructions ≡ suc k →
      run_act (act_of (program_of plain) (p.at + p.units) locals p.insn) (with_instructions w k) ≡ r →
      evaluated (suc n) pc locals stack w t ≡ turn_in hook (eval_with hook s n) s m locals stack r t
  turn_goes n k pc done rest p locals stack w t r finds left did =
      eval_step n k pc locals stack w t left
      ∙ ap (λ (a : Act). turn_in hook (eval_with hook s n) s m locals stack (run_act a (with_instructions w k)) t) (act_found done rest pc p locals finds)
      ∙ ap (λ (x : Reached). turn_in hook (eval_with hook s n) s m locals stack x t) did

  -- the first instruction of those that are left
  pub finds_first : (done rest : List PlainInsn) (pc : ℕ) (p : Placed) (behind : List Placed) → code.insns ≡ done ++ rest → pc ≡ units_before done → p.at ≡ pc →
      placed_from plain code.last (units_before done) rest ≡ p ∷ behind → Finds done rest pc p
  finds_first done rest pc p behind e at first is = (e, omega arith, ap (λ (ps : List Placed). find (is_at pc) ps) is ∙ find_here (is_at pc) p behind (same p.at pc first))

  -- ---- the instructions that add

  -- a number was put into a register, and the next instruction follows
  abbrev pub SetsNumber : (n k pc next to : ℕ) → ℤ → Locals → Stack → World → T → Type 0
  SetsNumber n k pc next to x locals stack w t =
      evaluated (suc n) pc locals stack w t ≡ evaluated n next (record { cells = slice_set locals.cells to (int_cell x); pending = None }) stack (with_instructions w k) (hook.turned stack.depth [] t)

  -- where an act sets a register, the turn does
  pub sets_number : (n k pc to : ℕ) (done rest : List PlainInsn) (p : Placed) (x : ℤ) (locals : Locals) (stack : Stack) (w : World) (t : T) → Finds done rest pc p → w.counters.instructions ≡ suc k →
      run_act (act_of (program_of plain) (p.at + p.units) locals p.insn) (with_instructions w k) ≡ led (next_with (p.at + p.units) (slice_set locals.cells to (int_cell x))) (with_instructions w k) [] →
      SetsNumber n k pc (p.at + p.units) to x locals stack w t
  unfolding turn_in after
  sets_number n k pc to done rest p x locals stack w t finds left did = turn_goes n k pc done rest p locals stack w t _ finds left did

  pub const_turn : (n k pc to : ℕ) (v : ℤ) (done rest : List PlainInsn) (locals : Locals) (stack : Stack) (w : World) (t : T) → code.insns ≡ done ++ Const4 to v ∷ rest → pc ≡ units_before done → w.counters.instructions ≡ suc k →
      SetsNumber n k pc (pc + 1) to v locals stack w t
  unfolding act_of set_next run_act placed_from
  const_turn n k pc to v done rest locals stack w t e at left =
      let p = placed pc 1 (insn.ConstInt to v) in
      sets_number n k pc to done (Const4 to v ∷ rest) p v locals stack w t (finds_first done (Const4 to v ∷ rest) pc p _ e at refl (ap (λ (a : ℕ). placed_from plain code.last a (Const4 to v ∷ rest)) (sym at))) left refl

  pub sum_turn : (n k pc to other : ℕ) (x y : ℤ) (done rest : List PlainInsn) (locals : Locals) (stack : Stack) (w : World) (t : T) → code.insns ≡ done ++ AddInt2Addr to other ∷ rest → pc ≡ units_before done → w.counters.instructions ≡ suc k →
      slice_get locals.cells to ≡ Some (int_cell x) → slice_get locals.cells other ≡ Some (int_cell y) → SetsNumber n k pc (pc + 1) to (int_wrapping_add w32 x y) locals stack w t
  unfolding act_of set_next run_act on_value on_cell on_int placed_from
  sum_turn n k pc to other x y done rest locals stack w t e at left ex ey =
      let p = placed pc 1 (insn.IntOp op.Add to to other) in
      sets_number n k pc to done (AddInt2Addr to other ∷ rest) p (int_wrapping_add w32 x y) locals stack w t (finds_first done (AddInt2Addr to other ∷ rest) pc p _ e at refl (ap (λ (a : ℕ). placed_from plain code.last a (AddInt2Addr to other ∷ rest)) (sym at))) left
      (rw (ex, ey) refl)

  pub literal_turn : (n k pc to from : ℕ) (x literal : ℤ) (done rest : List PlainInsn) (locals : Locals) (stack : Stack) (w : World) (t : T) → code.insns ≡ done ++ AddIntLit8 to from literal ∷ rest → pc ≡ units_before done → w.counters.instructions ≡ suc k →
      slice_get locals.cells from ≡ Some (int_cell x) → SetsNumber n k pc (pc + 2) to (int_wrapping_add w32 x literal) locals stack w t
  unfolding act_of set_next run_act on_value on_cell on_int placed_from
  literal_turn n k pc to from x literal done rest locals stack w t e at left ex =
      let p = placed pc 2 (insn.IntLit op.Add false to from literal) in
      sets_number n k pc to done (AddIntLit8 to from literal ∷ rest) p (int_wrapping_add w32 x literal) locals stack w t (finds_first done (AddIntLit8 to from literal ∷ rest) pc p _ e at refl (ap (λ (a : ℕ). placed_from plain code.last a (AddIntLit8 to from literal ∷ rest)) (sym at))) left
      (rw ex refl)
