-- Which methods a method calls directly, which it reaches, and which a partition may move.
use Rattle.std.specs.Prelude.{◌≡◌, ℕ, ◌<◌, ◌==◌, ◌&&◌, ◌||◌, ◌⊎◌, not, Bool, true, false, codes, List, [], length, AllPairs, Contains, filter, slice_get}
use Rattle.std.specs.List.{list_any, range_with_len}
use Rattle.std.specs.Str.{bytes_eq}
use Rattle.cc_meaning.specs.declared.fault.CallFault.{CallFault}
use Rattle.cc_meaning.specs.declared.fault.CallFault.TheVariants.{TooManyMethods}
use Rattle.cc_meaning.specs.declared.instruction.Insn.{Insn}
use Rattle.cc_meaning.specs.declared.instruction.Insn.TheVariants as insn
use Rattle.cc_meaning.specs.declared.instruction.MethodRef.TheVariants as ref
use Rattle.cc_meaning.specs.declared.program.Method.{Method}
use Rattle.cc_meaning.specs.declared.program.MethodKind.{MethodKind}
use Rattle.cc_meaning.specs.declared.program.MethodKind.TheVariants as kinds
use Rattle.cc_meaning.specs.declared.program.Placed.{Placed}
use Rattle.cc_meaning.specs.declared.program.Program.{Program}
use Rattle.cc_meaning.specs.declared.script.Script.{Script}
use Rattle.cc_meaning_typing.specs.Hierarchy.{on_value}
use Rattle.cc_meaning_typing.specs.WellTyped.{is_file_interface}
use Rattle.cc_meaning_world.specs.Scripts.{is_free}
use Rattle.cc_meaning_calls.specs.Kept.{is_print, holds_of}
use Rattle.cc_meaning_calls.specs.Selection.{selects}
use Rattle.cc_meaning_calls.specs.Starts.{inherits, initialises, can_start}

-- ---- the instructions of a method

unfoldable pub insns_of_kind : MethodKind → List Placed
insns_of_kind (kinds.Code code) = code.insns
insns_of_kind _ = []

-- some instruction of a method's code passes a test, also one that control never comes to
unfoldable pub some_insn : (Insn → Bool) → Method → Bool
some_insn test method = list_any (λ (placed : Placed). test placed.insn) (insns_of_kind method.kind)

-- ---- direct calls

unfoldable pub is_abstract_kind : MethodKind → Bool
is_abstract_kind kinds.Abstract = true
is_abstract_kind _ = false

unfoldable pub is_built_in_kind : MethodKind → Bool
is_built_in_kind kinds.BuiltIn = true
is_built_in_kind _ = false

-- a method that calls are counted of: no free one, and a built-in one only where it is PrintStream's
unfoldable pub is_counted : Program → Script → ℕ → Bool
is_counted p script m = not (is_free script p m) && (is_print p script m || holds_of (λ (method : Method). not (is_built_in_kind method.kind)) p m)

unfoldable pub invokes : Program → (own : ℕ) → (callee : ℕ) → Insn → Bool
invokes p own callee (insn.Invoke how (ref.Known class m) args) = on_value (slice_get p.methods m) false (λ named. selects p own how class m named callee)
invokes p own callee _ = false

-- an invoke of a method can select the callee, which isn't abstract
unfoldable pub calls_by_invoke : Program → Method → ℕ → Bool
calls_by_invoke p method callee = some_insn (invokes p method.class callee) method && holds_of (λ (called : Method). not (is_abstract_kind called.kind)) p callee

-- an instruction of a method can start a class whose initialiser is the callee, which is neither the method's class nor a superclass of it
unfoldable pub calls_by_start : Program → Method → ℕ → Bool
calls_by_start p method callee = some_insn (λ instruction. can_start p (λ class. not (inherits p method.class class)) instruction callee) method

-- A method of the instances of an interface of the file can run before that interface was started. So an instruction of it can start any class at all.
unfoldable pub calls_by_early_start : Program → Method → ℕ → Bool
calls_by_early_start p method callee =
    (is_file_interface (slice_get p.classes method.class) && not method.is_static) && some_insn (λ instruction. can_start p (λ class. true) instruction callee) method

-- the class of main and its superclasses are started before main
unfoldable pub is_started_before : Program → ℕ → Method → ℕ → Bool
is_started_before p m method callee = (m == p.main) && initialises p (λ class. true) method.class callee

unfoldable pub calls_in : Program → ℕ → Method → ℕ → Bool
calls_in p m method callee =
    (calls_by_invoke p method callee || calls_by_start p method callee) || (calls_by_early_start p method callee || is_started_before p m method callee)

-- the code of a method can call another one, whether that code is ever reached or not
unfoldable pub can_call : Program → Script → (m callee : ℕ) → Bool
can_call p script m callee = is_counted p script callee && on_value (slice_get p.methods m) false (λ method. calls_in p m method callee)

-- the methods that the code of a method can call, in number order
unfoldable pub callees : Program → Script → ℕ → List ℕ
callees p script m = filter (λ callee. can_call p script m callee) (range_with_len 0 (length p.methods))

-- a method leads to another by a chain of calls
pub data Leads (p : Program) (script : Script) : ℕ → ℕ → Type 0 where
  one : {m callee : ℕ} → can_call p script m callee ≡ true → Leads p script m callee
  more : {m between callee : ℕ} → can_call p script m between ≡ true → Leads p script between callee → Leads p script m callee

-- a method is reached where it is main, or main leads to it
abbrev pub IsReached : Program → Script → ℕ → Type 0
IsReached p script m = (m ≡ p.main) ⊎ Leads p script p.main m

-- A method calls another directly. What isn't reached from main calls nothing.
abbrev pub Direct : Program → Script → ℕ → ℕ → Type 0
Direct p script m callee = IsReached p script m × (can_call p script m callee ≡ true)

-- A method reaches another by a chain of direct calls; so it reaches itself only round a cycle.
pub data Reaches (p : Program) (script : Script) : ℕ → ℕ → Type 0 where
  direct : {m callee : ℕ} → Direct p script m callee → Reaches p script m callee
  further : {m between callee : ℕ} → Direct p script m between → Reaches p script between callee → Reaches p script m callee

-- ---- candidates

unfoldable pub has_code : MethodKind → Bool
has_code (kinds.Code code) = true
has_code _ = false

-- an initialiser, and whatever else has its name
unfoldable pub is_initialiser : Method → Bool
is_initialiser method = bytes_eq method.name (codes "<clinit>")

unfoldable pub is_constructor : Method → Bool
is_constructor method = bytes_eq method.name (codes "<init>")

-- a method with code that is neither main nor a constructor nor an initialiser
unfoldable pub is_movable : Program → ℕ → Bool
is_movable p m = not (m == p.main) && holds_of (λ (method : Method). has_code method.kind && (not (is_constructor method) && not (is_initialiser method))) p m

-- a method that a partition may move: it is reached and movable
abbrev pub IsCandidate : Program → Script → ℕ → Type 0
IsCandidate p script m = IsReached p script m × (is_movable p m ≡ true)

-- a list has exactly the numbers of which a predicate holds, each once, in rising order
pub record IsListOf (P : ℕ → Type 0) (list : List ℕ) : Type 0 where
  pub rises : AllPairs (λ (a : ℕ) (b : ℕ). a < b) list
  pub sound : (m : ℕ) → Contains list m → P m
  pub complete : (m : ℕ) → P m → Contains list m

-- the reached methods
abbrev pub AreReached : Program → Script → List ℕ → Type 0
AreReached p script list = IsListOf (IsReached p script) list

-- the candidates
abbrev pub AreCandidates : Program → Script → List ℕ → Type 0
AreCandidates p script list = IsListOf (IsCandidate p script) list

-- call relations are kept of at most so many methods
abbrev pub most_methods : ℕ
most_methods = 4096

-- There are too many methods: more are reached than call relations are kept of.
abbrev pub AreTooMany : Program → Script → CallFault → Type 0
AreTooMany p script fault = (list : List ℕ) × AreReached p script list × (most_methods < length list) × (fault ≡ TooManyMethods (length list))
