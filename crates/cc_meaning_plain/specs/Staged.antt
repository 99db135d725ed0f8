-- What a plain file's run comes to within limits.
use Rattle.std.specs.Prelude.{ℕ, zero, suc, ◌+◌, ◌-◌, ℤ, pos, List, [], ◌∷◌, ◌++◌, length, replicate, Option, Some, None, slice_get, slice_set}
use Rattle.std.specs.Int.{int_wrapping_add, w32}
use Rattle.cc_meaning.specs.declared.report.StopCause.TheVariants as cause
use Rattle.cc_meaning.specs.declared.report.Ending.{Ending}
use Rattle.cc_meaning.specs.declared.report.Ending.TheVariants as ending
use Rattle.cc_meaning.specs.declared.report.Report.{Report}
use Rattle.cc_meaning.specs.declared.report.Limits.{Limits}
use Rattle.cc_meaning_run.specs.Acts.{less_by}
use Rattle.cc_meaning_run.specs.Instructions.{line_of}
use Rattle.cc_meaning_plain.specs.declared.plain.PlainInsn.{PlainInsn}
use Rattle.cc_meaning_plain.specs.declared.plain.PlainInsn.TheVariants.{SgetOut, Const4, AddInt2Addr, AddIntLit8, InvokePrintln, CallFunction}
use Rattle.cc_meaning_plain.specs.declared.plain.PlainFunction.{PlainFunction}
use Rattle.cc_meaning_plain.specs.declared.plain.Plain.{Plain}
use Rattle.cc_meaning_plain.specs.Text.{number_at, value_by, instructions_by}

-- what instructions come to: what they print, how they end, and how many instructions and words are then left
pub record Stage : Type 0 where
  pub text : List ℕ
  pub ending : Ending
  pub instructions : ℕ
  pub words : ℕ

-- nothing is printed any more
abbrev pub ends_with : Ending → ℕ → ℕ → Stage
ends_with ends instructions words = record { text = []; ending = ends; instructions = instructions; words = words }

-- a line is printed before the rest
abbrev pub with_line : List ℕ → Stage → Stage
with_line line stage = record stage { text = line ++ stage.text }

-- one instruction is taken before it acts; where none is left the run stops
unfoldable pub taking_one : (instructions words : ℕ) → (ℕ → Stage) → Stage
taking_one zero words go = ends_with (ending.Stopped cause.Budget) 0 words
taking_one (suc left) words go = go left

-- the words of a line are taken before it is printed; where too few are left the run stops
unfoldable pub printing : List ℕ → (instructions words : ℕ) → Option ℕ → (ℕ → Stage) → Stage
printing line instructions words None go = ends_with (ending.Stopped cause.Heap) instructions words
printing line instructions words (Some left) go = with_line line (go left)

-- a function's instructions are taken; where too few are left the run stops within it
unfoldable pub taking : (words : ℕ) → Option ℕ → (ℕ → Stage) → Stage
taking words None go = ends_with (ending.Stopped cause.Budget) 0 words
taking words (Some left) go = go left

-- what these instructions, and the `return-void` behind them, come to with these numbers in the registers and so many instructions and words left
unfoldable pub stage_of : List PlainFunction → List ℤ → List PlainInsn → (instructions words : ℕ) → Stage
stage_of functions numbers [] instructions words = taking_one instructions words (λ left. ends_with ending.Returned left words)
stage_of functions numbers (SgetOut to ∷ rest) instructions words = taking_one instructions words (λ left. stage_of functions numbers rest left words)
stage_of functions numbers (Const4 to value ∷ rest) instructions words = taking_one instructions words (λ left. stage_of functions (slice_set numbers to value) rest left words)
stage_of functions numbers (AddInt2Addr to other ∷ rest) instructions words =
    taking_one instructions words (λ left. stage_of functions (slice_set numbers to (int_wrapping_add w32 (number_at numbers to) (number_at numbers other))) rest left words)
stage_of functions numbers (AddIntLit8 to from literal ∷ rest) instructions words =
    taking_one instructions words (λ left. stage_of functions (slice_set numbers to (int_wrapping_add w32 (number_at numbers from) literal)) rest left words)
stage_of functions numbers (InvokePrintln stream number ∷ rest) instructions words =
    taking_one instructions words (λ left.
    printing (line_of (number_at numbers number)) left words (less_by (2 + length (line_of (number_at numbers number))) words) (λ words'. stage_of functions numbers rest left words'))
stage_of functions numbers (CallFunction function argument to ∷ rest) instructions words =
    taking_one instructions words (λ left.
    taking words (less_by (instructions_by (slice_get functions function)) left) (λ after.
    taking_one after words (λ left'. stage_of functions (slice_set numbers to (value_by (slice_get functions function) (number_at numbers argument))) rest left' words)))

-- the array of no arguments takes two words before the first instruction
unfoldable pub main_stage : Plain → Limits → Option ℕ → Stage
main_stage plain limits None = ends_with (ending.Stopped cause.Heap) limits.instructions limits.words
main_stage plain limits (Some words) = stage_of plain.functions (replicate plain.main.registers (pos 0)) plain.main.insns limits.instructions words

-- what a stage says that began with these limits
abbrev pub stage_report : Limits → Stage → Report
stage_report limits stage = record {
  out = stage.text;
  calls = [];
  ending = stage.ending;
  instructions = limits.instructions - stage.instructions;
  words = limits.words - stage.words;
}

-- the report of a plain file's run, without arguments, within limits
unfoldable pub plain_report : Plain → Limits → Report
plain_report plain limits = stage_report limits (main_stage plain limits (less_by 2 limits.words))
