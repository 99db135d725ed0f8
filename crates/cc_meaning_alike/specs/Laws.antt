-- The laws of renaming and locality, and of faithful hooks: statements, which a crate above proves.
use Rattle.std.specs.Prelude.{◌≡◌, ℕ, ◌≤◌, ◌&&◌, Bool, true, List, IsTrue}
use Rattle.cc_meaning.specs.declared.program.Program.{Program}
use Rattle.cc_meaning.specs.declared.report.Limits.{Limits}
use Rattle.cc_meaning.specs.declared.script.Script.{Script}
use Rattle.cc_meaning.specs.declared.value.Value.{Value}
use Rattle.cc_meaning_world.specs.World.{World, Locals, Stack}
use Rattle.cc_meaning_world.specs.Opening.{out_object, opening_world}
use Rattle.cc_meaning_world.specs.Acts.{Act, run_act}
use Rattle.cc_meaning_rows.specs.Calls.{act_of_call}
use Rattle.cc_meaning_exec.specs.Instructions.{act_at}
use Rattle.cc_meaning_exec.specs.Eval.{Here, Hook, call, eval_with}
use Rattle.cc_meaning_exec.specs.Runs.{run_main, run_with, report_of, local, kept_of}
use Rattle.cc_meaning_exec.specs.WorkedPrograms.{nowhere}
use Rattle.cc_meaning_alike.specs.Maps.{Map, empty, link, OneToOne}
use Rattle.cc_meaning_alike.specs.Worlds.{Each, AlikeValue, AlikeLocals, Alike, Start, start_at, Pair}
use Rattle.cc_meaning_alike.specs.Acts.{AlikeAct, Reaches, asks_within}
use Rattle.cc_meaning_alike.specs.Ends.{frame_at, AlikeRan}

-- ---- acts

-- alike acts, done in worlds that are alike, lead to alike outcomes in worlds that are alike
abbrev pub RunsAreAlike : Type 0
RunsAreAlike = (K : ℕ → Bool) (script : Script) (p : Program) (s : Start) (f : Map) (a1 a2 : Act) (w1 w2 : World) → AlikeAct p f a1 a2 → Pair K s f w1 w2 →
    Reaches K script p s f (run_act script p a1 w1) (run_act script p a2 w2)

-- at each address of each method, alike registers give alike acts
abbrev pub InstructionsAreAlike : Type 0
InstructionsAreAlike = (p : Program) (f : Map) (m pc : ℕ) (l1 l2 : Locals) → OneToOne f → AlikeLocals f l1 l2 → AlikeAct p f (act_at p m pc l1) (act_at p m pc l2)

-- and so do alike arguments of each built-in method
abbrev pub BuiltInCallsAreAlike : Type 0
BuiltInCallsAreAlike = (p : Program) (f : Map) (m : ℕ) (args1 args2 : List Value) → OneToOne f → Each (AlikeValue f) args1 args2 → AlikeAct p f (act_of_call p m args1) (act_of_call p m args2)

-- the opening world is alike itself, by the one object that it has
abbrev pub OpeningIsAlike : Type 0
OpeningIsAlike = (K : ℕ → Bool) (p : Program) (limits : Limits) → Alike K (link out_object out_object empty) (opening_world p limits) (opening_world p limits)

-- ---- methods

-- what a test says of both notes and of cursors
abbrev pub held : {T U : Type 0} → (T → U → List ℕ → Bool) → T → U → List ℕ → Type 0
held holds t u cursors = IsTrue (holds t u cursors)

-- from worlds that are alike, a hook leads to what a hook that looks on leads to on the other side
abbrev pub HookIsFaithful : {T U : Type 0} → (T → Bool) → (U → Bool) → (T → U → List ℕ → Type 0) → (ℕ → Bool) → Hook T → Hook U → Script → Program → Type 0
HookIsFaithful {T} {U} ok fine Holds K hook look script p =
    (f : Map) (n m pc : ℕ) (stack : Stack) (l1 l2 : Locals) (w1 w2 : World) (t : T) (u : U) → Alike K f w1 w2 → AlikeLocals f l1 l2 → w2.counters.instructions ≤ n → Holds t u w1.cursors →
    AlikeRan ok fine Holds K (start_at f w1 w2) f n (eval_with hook script p n (frame_at m pc stack l1) w1 t) (eval_with look script p n (frame_at m pc stack l2) w2 u)

-- the same from the call of a method on
abbrev pub CallIsFaithful : {T U : Type 0} → (T → Bool) → (U → Bool) → (T → U → List ℕ → Type 0) → (ℕ → Bool) → Hook T → Hook U → Script → Program → Type 0
CallIsFaithful {T} {U} ok fine Holds K hook look script p =
    (f : Map) (n m : ℕ) (args1 args2 : List Value) (stack : Stack) (w1 w2 : World) (t : T) (u : U) → Alike K f w1 w2 → Each (AlikeValue f) args1 args2 → w2.counters.instructions ≤ n → Holds t u w1.cursors →
    AlikeRan ok fine Holds K (start_at f w1 w2) f n (call hook (eval_with hook script p n) script p m args1 stack w1 t) (call look (eval_with look script p n) script p m args2 stack w2 u)

-- the same from the start of the class of `main` on
abbrev pub MainIsFaithful : {T U : Type 0} → (T → Bool) → (U → Bool) → (T → U → List ℕ → Type 0) → (ℕ → Bool) → Hook T → Hook U → Script → Program → Type 0
MainIsFaithful {T} {U} ok fine Holds K hook look script p =
    (f : Map) (n : ℕ) (args1 args2 : List Value) (w1 w2 : World) (t : T) (u : U) → Alike K f w1 w2 → Each (AlikeValue f) args1 args2 → w2.counters.instructions ≤ n → Holds t u w1.cursors →
    AlikeRan ok fine Holds K (start_at f w1 w2) f n (run_main hook script p n args1 w1 t) (run_main look script p n args2 w2 u)

-- A whole run with a hook gives the report of the run on one heap, where what the hook has noted at its end is right, and so is what one that looks on has noted of the
-- run on one heap.
abbrev pub ReportIsLocal : {T U : Type 0} → (T → Bool) → (U → Bool) → (T → U → List ℕ → Type 0) → Hook T → Hook U → Script → Program → Type 0
ReportIsLocal {T} {U} ok fine Holds hook look script p = (texts : List (List ℕ)) (limits : Limits) (t : T) (u : U) → Holds t u (opening_world p limits).cursors →
    IsTrue (ok (kept_of (run_with hook script p texts limits t))) → IsTrue (fine (kept_of (run_with look script p texts limits u))) →
    report_of limits (run_with hook script p texts limits t) ≡ local script p texts limits

-- ---- renaming and locality

-- nothing is noted
abbrev pub no_notes : Unit {0} → Bool
no_notes u = true

abbrev pub no_hold : {T U : Type 0} → T → U → List ℕ → Type 0
no_hold t u cursors = Unit {0}

abbrev pub everything : ℕ → Bool
everything class = true

abbrev pub as_noted : Bool → Bool
as_noted b = b

-- evaluates every method where it is called, and notes whether all answers so far were of classes in `K`
unfoldable pub watch : (ℕ → Bool) → Script → Program → Hook Bool
watch K script p = record {
  entry = λ m args stack w t. Here t;
  spent = λ m t. t;
  called = λ m t. asks_within K script p m && t;
  ended = λ m e w t. t;
}

-- Renaming and locality: from alike registers in worlds that are alike, where only answers of classes in `K` are taken, evaluating leads to alike ends in worlds that are
-- alike again; the added events are equal, and the objects outside the map and the cursors outside `K` are as they were.
abbrev pub RenamingAndLocality : (ℕ → Bool) → Script → Program → Type 0
RenamingAndLocality K script p = HookIsFaithful as_noted no_notes no_hold K (watch K script p) nowhere script p

-- The same where all cursors agree: then nothing is asked of the answers that are taken.
abbrev pub WholeRenaming : Script → Program → Type 0
WholeRenaming script p = HookIsFaithful no_notes no_notes no_hold everything nowhere nowhere script p
