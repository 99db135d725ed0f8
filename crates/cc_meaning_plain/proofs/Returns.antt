-- A plain file's run within the default limits returns, and prints what its instructions print.
use Rattle.std.proofs.Common.{◌≡◌, ℕ, zero, suc, ◌+◌, ◌-◌, ◌*◌, ◌<◌, ◌≤◌, ℤ, pos, List, [], ◌∷◌, ◌++◌, length, replicate, Option, Some, refl, sym, ap, subst, arith, slice_get, slice_set}
use Rattle.cc_meaning.specs.declared.report.Ending.TheVariants as ending
use Rattle.cc_meaning_run.specs.Acts.{less_by}
use Rattle.cc_meaning_run.specs.Instructions.{line_of}
use Rattle.cc_meaning_plain.specs.declared.plain.PlainInsn.{PlainInsn}
use Rattle.cc_meaning_plain.specs.declared.plain.PlainInsn.TheVariants.{SgetOut, Const4, AddInt2Addr, AddIntLit8, InvokePrintln, CallFunction}
use Rattle.cc_meaning_plain.specs.declared.plain.PlainFunction.{PlainFunction}
use Rattle.cc_meaning_plain.specs.declared.plain.Plain.{Plain}
use Rattle.cc_meaning_plain.specs.Plain.{scope_of}
use Rattle.cc_meaning_plain.specs.Text.{number_at, value_of, value_by, instructions_of, instructions_by, text_of}
use Rattle.cc_meaning_plain.specs.Staged.{Stage, with_line, taking_one, taking, printing, stage_of, main_stage, plain_report}
use Rattle.cc_meaning_plain.specs.Laws.{default_limits, PlainReports, PlainReturns}
use Rattle.cc_meaning_plain.proofs.Running.{sum_fits}
use Rattle.cc_meaning_plain.proofs.Facts.{few_insns, IsFine, function_is_fine, MainDoes, main_is_fine}
use Rattle.cc_meaning_plain.proofs.Values.{AllFit, zeros_fit, fits_at, fits_set, value_fits}
use Rattle.cc_meaning_plain.proofs.Lines.{line_is_short}
use Rattle.cc_meaning_plain.proofs.Words.{less_some}

-- ---- with enough instructions and words

-- it returns, and has printed this
pub record ReturnsWith (text : List ℕ) (stage : Stage) : Type 0 where
  pub text_is : stage.text ≡ text
  pub returned : stage.ending ≡ ending.Returned

line_returns : (line text : List ℕ) (stage : Stage) → ReturnsWith text stage → ReturnsWith (line ++ text) (with_line line stage)
line_returns line text stage r = record { text_is = ap (λ (rest : List ℕ). line ++ rest) r.text_is; returned = r.returned }

-- a call's own instruction, those of its function, and that of its result are taken
call_returns : (text : List ℕ) (count k words : ℕ) (go : ℕ → Stage) → count ≤ 1000 → 1001 ≤ k → ((left : ℕ) → k ≤ left + 1001 → ReturnsWith text (go left)) →
    ReturnsWith text (taking words (less_by count k) (λ (after : ℕ). taking_one after words go))
unfolding taking taking_one
call_returns text count k words go few enough rest =
    let paid = less_some count k (omega arith) in
    rw paid (one_more (k - count) (omega arith))
  where
    one_more : (left : ℕ) → k ≤ left + 1000 → ReturnsWith text (taking_one left words go)
    one_more zero le = absurd (omega arith)
    one_more (suc left) le = rest left (omega arith)

module _ (functions : List PlainFunction) (fine : (i : ℕ) (f : PlainFunction) → slice_get functions i ≡ Some f → IsFine f) where
  -- each instruction takes at most 1,002, and each line at most fourteen words
  stage_returns : (insns : List PlainInsn) (ns : List ℤ) (instructions words : ℕ) → AllFit ns → MainDoes functions insns → 1002 * length insns < instructions → 14 * length insns ≤ words →
      ReturnsWith (text_of functions ns insns) (stage_of functions ns insns instructions words)
  unfolding stage_of taking_one printing text_of
  stage_returns insns ns zero words fit does many enough = absurd (omega arith)
  stage_returns [] ns (suc k) words fit does many enough = record { text_is = refl; returned = refl }
  stage_returns (SgetOut to ∷ rest) ns (suc k) words fit does many enough = stage_returns rest ns k words fit does (omega arith) (omega arith)
  stage_returns (Const4 to v ∷ rest) ns (suc k) words fit does many enough = stage_returns rest (slice_set ns to v) k words (fits_set ns to v does.0 fit) does.1 (omega arith) (omega arith)
  stage_returns (AddInt2Addr to other ∷ rest) ns (suc k) words fit does many enough =
      stage_returns rest _ k words (fits_set ns to _ (sum_fits _ _ (fits_at ns to fit) (fits_at ns other fit)) fit) does (omega arith) (omega arith)
  stage_returns (AddIntLit8 to from literal ∷ rest) ns (suc k) words fit does many enough = absurd does
  stage_returns (InvokePrintln receiver from ∷ rest) ns (suc k) words fit does many enough =
      let line = line_of (number_at ns from) in
      let short : length line ≤ 12 = line_is_short (number_at ns from) (fits_at ns from fit) in
      let paid = less_some (2 + length line) words (omega arith) in
      rw paid (line_returns line (text_of functions ns rest) _ (stage_returns rest ns k (words - (2 + length line)) fit does (omega arith) (omega arith)))
  stage_returns (CallFunction function argument to ∷ rest) ns (suc k) words fit does many enough =
      let f = does.0.0 in
      let v = value_of f.code (number_at ns argument) in
      let known = fine function f does.0.1 in
      subst (λ (o : Option PlainFunction). ReturnsWith (text_of functions (slice_set ns to (value_by o (number_at ns argument))) rest) (taking words (less_by (instructions_by o) k)
      (λ (after : ℕ). taking_one after words (λ (left : ℕ). stage_of functions (slice_set ns to (value_by o (number_at ns argument))) rest left words)))) (sym does.0.1)
      (call_returns (text_of functions (slice_set ns to v) rest) (instructions_of f.code) k words (λ (left : ℕ). stage_of functions (slice_set ns to v) rest left words) known.few (omega arith)
      (λ left le. stage_returns rest (slice_set ns to v) left words (fits_set ns to v (value_fits f.code (number_at ns argument) known.adds (fits_at ns argument fit)) fit) does.1 (omega arith) (omega arith)))

-- ---- a plain file has few instructions

few_return : (plain : Plain) → ((i : ℕ) (f : PlainFunction) → slice_get plain.functions i ≡ Some f → IsFine f) → MainDoes plain.functions plain.main.insns → length plain.main.insns < 1000 →
    ReturnsWith (text_of plain.functions (replicate plain.main.registers (pos 0)) plain.main.insns) (main_stage plain default_limits (less_by 2 1048576))
unfolding main_stage less_by
few_return plain fine does few = stage_returns plain.functions fine plain.main.insns (replicate plain.main.registers (pos 0)) 100000000 1048574 (zeros_fit plain.main.registers) does (omega arith) (omega arith)

pub plain_returns : PlainReports → PlainReturns
unfolding plain_report
plain_returns reports file plain bytes is =
    let code = is.methods.is_main.code in
    let few = few_insns file bytes (scope_of plain) plain.main.last plain.main.registers plain.main.insns _ _ code.units in
    let most = code.few_units in
    let fine = main_is_fine file plain bytes is in
    let r = few_return plain (λ i f e. function_is_fine file plain bytes is i f e) fine.does (omega arith) in
    (plain_report plain default_limits, record { is_report = reports file plain default_limits bytes is; out = r.text_is; calls = refl; ending = r.returned })
