-- What soundness says: of an instruction, and of the evaluator under a hook whose answers fit.
use Rattle.std.specs.Prelude.{◌≡◌, ℕ, suc, ◌<◌, true, false, List, Option, Some, slice_get}
use Rattle.cc_meaning.specs.declared.program.Code.{Code}
use Rattle.cc_meaning.specs.declared.program.DexType.{DexType}
use Rattle.cc_meaning.specs.declared.program.Field.{Field}
use Rattle.cc_meaning.specs.declared.program.Method.{Method}
use Rattle.cc_meaning.specs.declared.program.MethodKind.TheVariants as kinds
use Rattle.cc_meaning.specs.declared.program.Placed.{Placed}
use Rattle.cc_meaning.specs.declared.program.Program.{Program}
use Rattle.cc_meaning.specs.declared.script.Script.{Script}
use Rattle.cc_meaning.specs.declared.value.Object.{Object}
use Rattle.cc_meaning.specs.declared.value.Value.{Value}
use Rattle.cc_meaning.specs.declared.report.Limits.{Limits}
use Rattle.cc_meaning.specs.declared.report.Report.{Report}
use Rattle.cc_meaning_typing.specs.declared.state.State.{State}
use Rattle.cc_meaning_typing.specs.Types.{array_of}
use Rattle.cc_meaning_typing.specs.Code.{placed_at, type_of_class}
use Rattle.cc_meaning_typing.specs.Typing.{Typing, IsTyping}
use Rattle.cc_meaning_typing.specs.WellTyped.{WellTyped}
use Rattle.cc_meaning_exec.specs.Eval.{Ran, ran, Reply, Here, Answer, Hook, eval_with}
use Rattle.cc_meaning_exec.specs.Exceptions.{End, Returned, Thrown, Stopped, Jammed}
use Rattle.cc_meaning_exec.specs.Frames.{Frame, frame_for}
use Rattle.cc_meaning_exec.specs.Instructions.{act_at}
use Rattle.cc_meaning_exec.specs.Runs.{report_of, run_with, local}
use Rattle.cc_meaning_fits.specs.Fits.{Heap, heap_of, Grows, FitsType, ObjectFits, WorldFits, FrameFits, literal_sort, AreThere, ResultFits, CallFits, ThrownFits, OutcomeFits}
use Rattle.cc_meaning_fits.specs.Premises.{IsLinked, ConstructorsStand, OutFits, MainFits, ScriptFits}
use Rattle.cc_meaning_world.specs.Acts.{Outcome, Throws, Act, Literal, ClassConstant, Done, Make, Look, ClassOf, Put, Append, GetStatic, PutStatic, Tell, Ask}
use Rattle.cc_meaning_world.specs.Layouts.{shape}
use Rattle.cc_meaning_world.specs.Opening.{opening_world}
use Rattle.cc_meaning_world.specs.Sorts.{Sort, Instance, Array, Text, Builder, Constant, sort_of, type_of}
use Rattle.cc_meaning_world.specs.World.{World, Stack}

-- ---- acts

-- an object of this sort takes this value at this place
abbrev pub Takes : Program → Heap → Sort → ℕ → Value → Type 0
Takes p h (Instance class fields) i v = (type : DexType) × (slice_get (shape p class) i ≡ Some type) × FitsType p h type v
Takes p h (Array class elements) i v = (element : DexType) × (type_of_class p class ≡ array_of element) × (i < elements) × FitsType p h element v
Takes p h _ i v = ⊥

-- The steps can be done in each world that fits and has this heap, and lead to what Q says. It is a recursion on the act alone: no world stands in it.
abbrev pub Safe : Program → (Heap → Outcome → Type 0) → Heap → Act → Type 0
Safe p Q h (Done o) = Q h o
Safe p Q h (Make o k) = ObjectFits p h o × ((h' : Heap) (a : ℕ) → Grows h h' → h' a ≡ Some (sort_of o) → Safe p Q h' (k a))
Safe p Q h (Look a k) = (sort : Sort) × (h a ≡ Some sort) × ((o : Object) → sort_of o ≡ sort → ObjectFits p h o → Safe p Q h (k o))
Safe p Q h (ClassOf a k) = (sort : Sort) × (h a ≡ Some sort) × Safe p Q h (k (type_of p sort))
Safe p Q h (Put a i v k) = (sort : Sort) × (h a ≡ Some sort) × Takes p h sort i v × ((h' : Heap) → Grows h h' → Safe p Q h' k)
Safe p Q h (Append a units k) = (h a ≡ Some Builder) × ((h' : Heap) → Grows h h' → Safe p Q h' k)
Safe p Q h (Tell m units k) = Safe p Q h k
Safe p Q h (Ask m args k) =
    AreThere h args × (callee : Method) × (slice_get p.methods m ≡ Some callee) × ((h' : Heap) (v : Option Value) → Grows h h' → ResultFits p h' callee.result v → Safe p Q h' (k v))
    × ((h' : Heap) (a : ℕ) → Grows h h' → ThrownFits p h' a → Q h' (Throws a))
Safe p Q h (Literal text k) = (h' : Heap) (a : ℕ) → Grows h h' → h' a ≡ Some (literal_sort p text) → Safe p Q h' (k a)
Safe p Q h (ClassConstant class k) = (h' : Heap) (a : ℕ) → Grows h h' → h' a ≡ Some (Constant class) → Safe p Q h' (k a)
Safe p Q h (PutStatic f v k) = ((field : Field) → slice_get p.fields f ≡ Some field → FitsType p h field.ty v) × Safe p Q h k
Safe p Q h (GetStatic f k) = (field : Field) × (slice_get p.fields f ≡ Some field) × (field.is_static ≡ true) × ((v : Value) → FitsType p h field.ty v → Safe p Q h (k v))

-- ---- the evaluator

-- an end fits a method's result: a result of it, an exception, or a stop of the run
abbrev pub EndFits : Program → Heap → Option DexType → End → Type 0
EndFits p h type (Returned v) = ResultFits p h type v
EndFits p h type (Thrown a) = ThrownFits p h a
EndFits p h type (Stopped c) = Unit {0}
EndFits p h type Jammed = ⊥

-- The world fits and has the objects that were there, and the end fits the method's result: it is no Jammed.
abbrev pub RanFits : {T : Type 0} → Program → Heap → Option DexType → Ran T → Type 0
RanFits p h type (ran e w t) = WorldFits p w × Grows h (heap_of w) × EndFits p (heap_of w) type e

-- the same of a hook's answer
abbrev pub ReplyFits : {T : Type 0} → Program → Heap → Option DexType → Reply T → Type 0
ReplyFits p h type (Here t) = Unit {0}
ReplyFits p h type (Answer e w t) = WorldFits p w × Grows h (heap_of w) × EndFits p (heap_of w) type e

-- whatever fits is asked, the hook's answers fit
abbrev pub HookFits : {T : Type 0} → Hook T → Program → Type 0
HookFits {T} hook p = (m : ℕ) (args : List Value) (stack : Stack) (w : World) (t : T) → WorldFits p w → (call : CallFits p (heap_of w) m args) → ReplyFits p (heap_of w) call.callee.result (hook.entry m args stack w t)

-- a frame stands: its registers fit the state of one of its method's typings at its address
pub record Stands (p : Program) (h : Heap) (f : Frame) : Type 0 where
  pub method : Method
  pub code : Code
  pub named : slice_get p.methods f.method ≡ Some method
  pub kind : method.kind ≡ kinds.Code code
  pub typing : Typing
  pub typed : IsTyping (record { program = p; method = method; code = code }) typing
  pub state : State
  pub here : typing f.pc ≡ Some state
  pub fits : FrameFits p code h state f.locals

-- An instruction's act is safe in each frame that stands, and leads to what fits.
abbrev pub StepIsSound : Type 0
StepIsSound = (p : Program) → IsLinked p → ConstructorsStand p → WellTyped p → (h : Heap) (f : Frame) (at : Stands p h f) →
    (placed : Placed) × (placed_at at.code f.pc ≡ Some placed)
    × Safe p (OutcomeFits (record { program = p; method = at.method; code = at.code }) placed at.state f.locals) h (act_at p f.method f.pc f.locals)

-- A run from a frame that stands, in a world that fits, under a script and a hook whose answers fit, ends in a world that fits with an end that fits: never Jammed.
abbrev pub EvalIsSound : {T : Type 0} → Hook T → Script → Program → Type 0
EvalIsSound {T} hook script p = IsLinked p → ConstructorsStand p → ScriptFits p script → WellTyped p → HookFits hook p →
    (n : ℕ) (f : Frame) (w : World) (t : T) → WorldFits p w → (at : Stands p (heap_of w) f) → RanFits p (heap_of w) at.method.result (eval_with hook script p n f w t)

-- ---- a whole run

-- a new world fits: its static fields hold zero, null or System.out
abbrev pub OpeningFits : Type 0
OpeningFits = (p : Program) (limits : Limits) → IsLinked p → OutFits p → WorldFits p (opening_world p limits)

-- an entered method stands at its first address
abbrev pub EntryStands : Type 0
EntryStands = (p : Program) (h : Heap) (m : ℕ) (args : List Value) (stack : Stack) → IsLinked p → WellTyped p → CallFits p h m args → Stands p h (frame_for p m args stack)

-- A well typed program is never stuck: its run on one heap, under a hook whose answers fit, has a report.
abbrev pub RunHasReport : {T : Type 0} → Hook T → Script → Program → Type 0
RunHasReport {T} hook script p = IsLinked p → ConstructorsStand p → OutFits p → MainFits p → ScriptFits p script → WellTyped p → HookFits hook p →
    (texts : List (List ℕ)) (limits : Limits) (t : T) → (report : Report) × (report_of limits (run_with hook script p texts limits t) ≡ Some report)

-- The same of the run that no hook answers for.
abbrev pub LocalHasReport : Type 0
LocalHasReport = (script : Script) (p : Program) → IsLinked p → ConstructorsStand p → OutFits p → MainFits p → ScriptFits p script → WellTyped p →
    (texts : List (List ℕ)) (limits : Limits) → (report : Report) × (local script p texts limits ≡ Some report)
