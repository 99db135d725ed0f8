-- Runs that end alike, and hooks whose answers are right.
use Rattle.std.specs.Prelude.{◌≡◌, ℕ, ◌≤◌, Bool, List, Option, IsTrue}
use Rattle.cc_meaning.specs.declared.program.Program.{Program}
use Rattle.cc_meaning.specs.declared.report.StopCause.{StopCause}
use Rattle.cc_meaning.specs.declared.script.Script.{Script}
use Rattle.cc_meaning.specs.declared.value.Value.{Value}
use Rattle.cc_meaning_world.specs.World.{World, Locals, Stack}
use Rattle.cc_meaning_exec.specs.Frames.{Frame}
use Rattle.cc_meaning_exec.specs.Exceptions.{End, Returned, Thrown, Stopped, Jammed}
use Rattle.cc_meaning_exec.specs.Eval.{Ran, ran, Reply, Here, Answer, Hook, told_calls, acts_at, call, eval_with}
use Rattle.cc_meaning_alike.specs.Maps.{Map, In, Extends}
use Rattle.cc_meaning_alike.specs.Worlds.{Each, Both, AlikeValue, Alike, Start, start_at, Pair}
use Rattle.cc_meaning_alike.specs.Acts.{asks_within}

-- the same kind of end, with alike values
pub data AlikeEnd (f : Map) : End → End → Type 0 where
  both_return : {v1 v2 : Option Value} → Both (AlikeValue f) v1 v2 → AlikeEnd f (Returned v1) (Returned v2)
  both_throw : {a b : ℕ} → In f a b → AlikeEnd f (Thrown a) (Thrown b)
  both_stop : {c : StopCause} → AlikeEnd f (Stopped c) (Stopped c)
  both_jam : AlikeEnd f Jammed Jammed

-- both ended alike, under a map that extends f, and no more than n instructions are left
pub record EndedAlike (K : ℕ → Bool) (s : Start) (f : Map) (n : ℕ) (e1 e2 : End) (w1 w2 : World) : Type 0 where
  pub map : Map
  pub extends : Extends f map
  pub ends : AlikeEnd map e1 e2
  pub pair : Pair K s map w1 w2
  pub within : w2.counters.instructions ≤ n

-- the frame of a method at an address, with these registers, where these frames stand
abbrev pub frame_at : (method pc : ℕ) → Stack → Locals → Frame
frame_at m pc stack locals = record { method = m; pc = pc; locals = locals; stack = stack }

-- ---- hooks

-- what is to hold where a run goes on behind an end
abbrev pub Onward : End → Type 0 → Type 0
Onward (Returned v) H = H
Onward (Thrown a) H = H
Onward (Stopped c) H = Unit {0}
Onward Jammed H = Unit {0}

-- Where what both sides have noted at the end is right (`ok`, `fine`), both runs ended alike, and where they go on, what is kept of both notes and of the first side's
-- cursors holds (`Holds`).
abbrev pub AlikeRan : {T U : Type 0} → (T → Bool) → (U → Bool) → (T → U → List ℕ → Type 0) → (ℕ → Bool) → Start → Map → ℕ → Ran T → Ran U → Type 0
AlikeRan ok fine Holds K s f n (ran e1 w1 t1) (ran e2 w2 u2) = IsTrue (ok t1) → IsTrue (fine u2) → EndedAlike K s f n e1 e2 w1 w2 × Onward e1 (Holds t1 u2 w1.cursors)

-- What a hook's reply has to be, where the other side has noted u at the entry and comes to r2: only where what is noted with it is right.
abbrev pub FitsReply : {T U : Type 0} → (T → Bool) → (U → Bool) → (T → U → List ℕ → Type 0) → (ℕ → Bool) → Start → Map → ℕ → U → List ℕ → Reply T → Ran U → Type 0
FitsReply ok fine Holds K s f n u cursors (Here t) r2 = IsTrue (ok t) → Holds t u cursors
FitsReply ok fine Holds K s f n u cursors (Answer e w t) r2 = AlikeRan ok fine Holds K s f n (ran e w t) r2

-- what was noted before a reply is right where what is noted with it is right
abbrev pub WasRight : {T : Type 0} → (T → Bool) → T → Reply T → Type 0
WasRight ok t (Here t') = IsTrue (ok t') → IsTrue (ok t)
WasRight ok t (Answer e w t') = IsTrue (ok t') → IsTrue (ok t)

-- what is right at the end was right throughout
pub record StaysRight {T : Type 0} (ok : T → Bool) (hook : Hook T) : Type 0 where
  pub entry : (m : ℕ) (args : List Value) (stack : Stack) (w : World) (t : T) → WasRight ok t (hook.entry m args stack w t)
  pub spent : (m : ℕ) (t : T) → IsTrue (ok (hook.spent m t)) → IsTrue (ok t)
  pub called : (m : ℕ) (t : T) → IsTrue (ok (hook.called m t)) → IsTrue (ok t)
  pub ended : (m : ℕ) (e : End) (w : World) (t : T) → IsTrue (ok (hook.ended m e w t)) → IsTrue (ok t)

-- What is right at the end was right throughout; then no answer was taken of a class outside `K`; and what is kept goes on to hold, as both sides are told the same.
pub record Keeps {T U : Type 0} (ok : T → Bool) (fine : U → Bool) (Holds : T → U → List ℕ → Type 0) (K : ℕ → Bool) (hook : Hook T) (look : Hook U) (script : Script) (p : Program) : Type 0 where
  pub right : StaysRight ok hook
  pub asks : (m : ℕ) (t : T) → IsTrue (ok (hook.called m t)) → IsTrue (asks_within K script p m)
  pub holds_spent : (m : ℕ) (cursors : List ℕ) (t : T) (u : U) → IsTrue (ok (hook.spent m t)) → IsTrue (fine (look.spent m u)) → Holds t u cursors → Holds (hook.spent m t) (look.spent m u) cursors
  pub holds_acted : (f : Frame) (w : World) (t : T) (u : U) → IsTrue (ok (told_calls hook (acts_at script p f w).called t)) → IsTrue (fine (told_calls look (acts_at script p f w).called u)) → Holds t u w.cursors →
      Holds (told_calls hook (acts_at script p f w).called t) (told_calls look (acts_at script p f w).called u) (acts_at script p f w).world.cursors
  pub holds_ended : (m : ℕ) (e1 e2 : End) (w1 w2 : World) (t : T) (u : U) → IsTrue (ok (hook.ended m e1 w1 t)) → IsTrue (fine (look.ended m e2 w2 u)) → Holds t u w1.cursors →
      Holds (hook.ended m e1 w1 t) (look.ended m e2 w2 u) w1.cursors

-- a hook that evaluates every method where it is called, and only notes; what it has noted at the end is right only where it was right throughout
pub record LooksOn {U : Type 0} (fine : U → Bool) (look : Hook U) : Type 0 where
  pub right : StaysRight fine look
  pub here : (m : ℕ) (args : List Value) (stack : Stack) (w : World) (u : U) → (u' : U) × (look.entry m args stack w u ≡ Here u')

-- At each entry, from worlds that are alike, the hook's answer is what the call comes to on the other side, where a hook only looks on. It may rest on what that one has
-- noted with this entry.
abbrev pub HookFits : {T U : Type 0} → (T → Bool) → (U → Bool) → (T → U → List ℕ → Type 0) → (ℕ → Bool) → Hook T → Hook U → Script → Program → Type 0
HookFits {T} {U} ok fine Holds K hook look script p =
    (f : Map) (w1 w2 : World) (m : ℕ) (args1 args2 : List Value) (stack : Stack) (n : ℕ) (t : T) (u u' : U) → Alike K f w1 w2 → Each (AlikeValue f) args1 args2 → w2.counters.instructions ≤ n →
    Holds t u w1.cursors → look.entry m args2 stack w2 u ≡ Here u' → IsTrue (fine u') →
    FitsReply ok fine Holds K (start_at f w1 w2) f n u' w1.cursors (hook.entry m args1 stack w1 t) (call look (eval_with look script p n) script p m args2 stack w2 u)
