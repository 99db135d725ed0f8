-- The laws of plain files.
use Rattle.std.specs.Prelude.{◌≡◌, ◌⊎◌, ◌↔◌, ℕ, ◌+◌, ◌<◌, ◌≤◌, ℤ, pos, List, [], ◌∷◌, map, replicate, Option, Some, None, slice_get, slice_index}
use Rattle.std.specs.Int.{w32}
use Rattle.std.specs.List.Sorted.{IsPermutation}
use Rattle.std.specs.Int.RustNames.{FitsSigned}
use Rattle.cc_meaning.specs.declared.report.Ending.TheVariants as ending
use Rattle.cc_meaning.specs.declared.report.Report.{Report}
use Rattle.cc_meaning.specs.declared.report.Limits.{Limits}
use Rattle.cc_meaning.specs.declared.report.StopCause.TheVariants as cause
use Rattle.cc_meaning.specs.declared.value.Value.TheVariants as value
use Rattle.cc_meaning.specs.declared.program.Code.{Code}
use Rattle.cc_meaning.specs.declared.program.Method.{Method}
use Rattle.cc_meaning_run.specs.World.{World, Stack}
use Rattle.cc_meaning_run.specs.Instructions.{code_of_kind}
use Rattle.cc_meaning_run.specs.Acts.{less_by}
use Rattle.cc_meaning_run.specs.Eval.{Returned, Stopped, Ran, ran, Hook, body, with_instructions, eval_with, most_frames, most_registers}
use Rattle.cc_meaning_run.specs.Local.{local}
use Rattle.cc_meaning.specs.Order.{IsRising}
use Rattle.cc_meaning_plain.specs.declared.plain.Member.{Member}
use Rattle.cc_meaning_plain.specs.declared.plain.Last.{Last}
use Rattle.cc_meaning_plain.specs.declared.plain.PlainCode.{PlainCode}
use Rattle.cc_meaning_plain.specs.declared.plain.PlainFunction.{PlainFunction}
use Rattle.cc_meaning_plain.specs.declared.plain.Plain.{Plain}
use Rattle.cc_meaning_plain.specs.declared.plain.PlainInsn.{PlainInsn}
use Rattle.cc_meaning_plain.specs.Code.{Scope, IsOfMain, SpellsInsn, SpellsInsns, IsPlainCode}
use Rattle.cc_meaning_plain.specs.Names.{TypeRow, IsMain, IsFunction}
use Rattle.cc_meaning_plain.specs.Plain.{SpellsClassData, HasMethods, name_of, IsPlain}
use Rattle.cc_meaning_plain.specs.Methods.{AreMethods, ListsMethods}
use Rattle.cc_meaning_plain.specs.Program.{main_number, function_number, main_of, function_of, program_of, setting_of}
use Rattle.cc_meaning_plain.specs.Text.{text_of, value_of, instructions_of}
use Rattle.cc_meaning_plain.specs.Staged.{plain_report}

-- the limits of a run for which none are named
abbrev pub default_limits : Limits
default_limits = record { instructions = 100000000; words = 1048576 }

-- the report of a run that prints this text and returns
pub record Prints (plain : Plain) (text : List ℕ) (report : Report) : Type 0 where
  pub is_report : local (setting_of plain) [] default_limits ≡ Some report
  pub out : report.out ≡ text
  pub calls : report.calls ≡ []
  pub ending : report.ending ≡ ending.Returned

-- each number is a byte
abbrev pub AreBytes : List ℕ → Type 0
AreBytes file = (i : ℕ) → slice_index file i < 256

-- a plain file's run within any limits has just this report
abbrev pub PlainReports : Type 0
PlainReports = (file : List ℕ) (plain : Plain) (limits : Limits) → AreBytes file → IsPlain file plain →
    local (setting_of plain) [] limits ≡ Some (plain_report plain limits)

-- a plain file's run within the default limits always returns, and prints what its instructions print
abbrev pub PlainReturns : Type 0
PlainReturns = (file : List ℕ) (plain : Plain) → AreBytes file → IsPlain file plain →
    (report : Report) × Prints plain (text_of plain.functions (replicate plain.main.registers (pos 0)) plain.main.insns) report

-- a row of types has one descriptor at most
abbrev pub TypeOnce : Type 0
TypeOnce = (file : List ℕ) (row : ℕ) (first second : List ℕ) → TypeRow file row first → TypeRow file row second → first ≡ second

-- at a place stands the data of a class in one way at most
abbrev pub DataOnce : Type 0
DataOnce = (file : List ℕ) (at : ℕ) (first second : List Member) → SpellsClassData file at first → SpellsClassData file at second → first ≡ second

-- a row of methods isn't both a `main` and a function
abbrev pub MainIsNoFunction : Type 0
MainIsNoFunction = (file class : List ℕ) (row : ℕ) (name : List ℕ) → IsMain file class row → IsFunction file class row name → ⊥

-- methods are one `main` and one list of functions at most
abbrev pub MethodsOnce : Type 0
MethodsOnce = (file class : List ℕ) (members : List Member) (main1 main2 : Option Member) (functions1 functions2 : List PlainFunction) →
    AreMethods file class members main1 functions1 → AreMethods file class members main2 functions2 → (main1 ≡ main2) × (functions1 ≡ functions2)

-- the methods of a plain file, told one by one, are its methods
abbrev pub MethodsAgree : Type 0
MethodsAgree = (file : List ℕ) (members : List Member) (plain : Plain) → HasMethods file members plain ↔ ListsMethods file members plain

-- the same functions stand in the order of their names in one way at most
abbrev pub OrderOnce : Type 0
OrderOnce = (first second : List PlainFunction) → IsPermutation first second → IsRising (map name_of first) → IsRising (map name_of second) → first ≡ second

-- a file is plain in one way at most
abbrev pub PlainOnce : Type 0
PlainOnce = (file : List ℕ) (first second : Plain) → IsPlain file first → IsPlain file second → first ≡ second

-- a row of methods names one function of a class at most
abbrev pub NameOnce : Type 0
NameOnce = (file class : List ℕ) (row : ℕ) (first second : List ℕ) → IsFunction file class row first → IsFunction file class row second → first ≡ second

-- at a place stands one instruction at most, where no two functions have one name
abbrev pub InsnOnce : Type 0
InsnOnce = (file : List ℕ) (scope : Scope) (last : Last) (registers at : ℕ) (first second : PlainInsn) → IsRising scope.functions →
    SpellsInsn file scope last registers at first → SpellsInsn file scope last registers at second → first ≡ second

-- in so many units stand one list of instructions at most, and one last instruction of each kind
abbrev pub InsnsOnce : Type 0
InsnsOnce = (file : List ℕ) (scope : Scope) (first second : Last) (registers at count : ℕ) (xs ys : List PlainInsn) → IsRising scope.functions →
    (IsOfMain first ↔ IsOfMain second) → SpellsInsns file scope first registers at count xs → SpellsInsns file scope second registers at count ys →
    (first ≡ second) × (xs ≡ ys)

-- at a place stands one code item of `main` at most, and one of a function
abbrev pub CodeOnce : Type 0
CodeOnce = (file : List ℕ) (scope : Scope) (at : ℕ) (first second : PlainCode) → IsRising scope.functions → (IsOfMain first.last ↔ IsOfMain second.last) →
    IsPlainCode file scope at first → IsPlainCode file scope at second → first ≡ second

-- ---- a function by itself

-- what evaluating a function's body comes to, where so many instructions are left behind it, or too few stand
abbrev pub function_ran : {T : Type 0} → PlainCode → ℤ → World → Option ℕ → T → Ran T
function_ran code number w None t = ran (Stopped cause.Budget) (with_instructions w 0) t
function_ran code number w (Some left) t = ran (Returned (Some (value.Int (value_of code number)))) (with_instructions w left) t

-- A function of a plain file that finds room for its frame gives its value, and changes nothing in the world but the instructions left; where these are too
-- few it stops. So it is whatever the hook, which a function doesn't ask, and any bound that is large enough.
abbrev pub FunctionRuns : {T : Type 0} → Hook T → Type 0
FunctionRuns {T} hook = (file : List ℕ) (plain : Plain) (i : ℕ) (f : PlainFunction) → AreBytes file → IsPlain file plain →
    slice_get plain.functions i ≡ Some f → (bound : ℕ) (number : ℤ) (stack : Stack) (w : World) (t : T) → FitsSigned w32 number → w.counters.instructions ≤ bound →
    stack.depth < most_frames → stack.registers + f.code.registers ≤ most_registers →
    (after : T) × (body (eval_with hook (setting_of plain) bound) (setting_of plain) (function_number plain i) (value.Int number ∷ []) stack w t
    ≡ function_ran f.code number w (less_by (instructions_of f.code) w.counters.instructions) after)

-- the numbers of a plain file's methods in its program
pub record NumbersMethods (plain : Plain) : Type 0 where
  pub main : slice_get (program_of plain).methods (main_number plain) ≡ Some (main_of plain)
  pub functions : (i : ℕ) (f : PlainFunction) → slice_get plain.functions i ≡ Some f → slice_get (program_of plain).methods (function_number plain i) ≡ Some (function_of plain f)

-- no other method of its program has code
abbrev pub OnlyFileHasCode : Plain → Type 0
OnlyFileHasCode plain = (m : ℕ) (method : Method) (code : Code) → slice_get (program_of plain).methods m ≡ Some method → code_of_kind method.kind ≡ Some code →
    (m ≡ main_number plain) ⊎ ((i : ℕ) × (f : PlainFunction) × (m ≡ function_number plain i) × (slice_get plain.functions i ≡ Some f))
