-- A hook that has a call evaluated in a second world, and brings the outcome back.
use Rattle.std.specs.Prelude.{◌≡◌, ◌≤◌, ℕ, Bool, true, List, IsTrue}
use Rattle.cc_meaning.specs.declared.program.Program.{Program}
use Rattle.cc_meaning.specs.declared.script.Script.{Script}
use Rattle.cc_meaning.specs.declared.value.Value.{Value}
use Rattle.cc_meaning_world.specs.World.{World, Stack}
use Rattle.cc_meaning_exec.specs.Exceptions.{End}
use Rattle.cc_meaning_exec.specs.Eval.{Ran, ran, Reply, Here, Answer, Hook, call, eval_with}
use Rattle.cc_meaning_alike.specs.Maps.{Map}
use Rattle.cc_meaning_alike.specs.Worlds.{Each, AlikeValue, Alike, start_at}
use Rattle.cc_meaning_alike.specs.Ends.{EndedAlike, Onward}
use Rattle.cc_meaning_alike.specs.Laws.{everything, watch}

-- A call was captured, evaluated in a clone's world with answers of classes in `K` alone, whose cursors agreed, and its outcome merged: `after` is what `w` would be,
-- had the run happened there.
pub record Migrated (K : ℕ → Bool) (script : Script) (p : Program) (n m : ℕ) (args : List Value) (stack : Stack) (w : World) (e : End) (after : World) : Type 0 where
  pub map : Map
  pub clone : World
  pub clone_args : List Value
  pub captured : Alike K map w clone
  pub captured_args : Each (AlikeValue map) args clone_args
  pub clone_end : End
  pub clone_after : World
  pub evaluated : call (watch K script p) (eval_with (watch K script p) script p n) script p m clone_args stack clone true ≡ ran clone_end clone_after true
  pub merged : EndedAlike K (start_at map w clone) map n e clone_end after clone_after

-- A reply that evaluates the call here, or has migrated it; what is kept goes on to hold, where the other side has noted u at the entry and comes to r2.
abbrev pub IsMigrated : {T U : Type 0} → (T → Bool) → (U → Bool) → (T → U → List ℕ → Type 0) → (ℕ → Bool) → Script → Program → (n m : ℕ) → List Value → Stack → World → U → Reply T → Ran U → Type 0
IsMigrated ok fine Holds K script p n m args stack w u (Here t) r2 = IsTrue (ok t) → Holds t u w.cursors
IsMigrated ok fine Holds K script p n m args stack w u (Answer e after t) (ran e2 w2 u2) = IsTrue (ok t) → IsTrue (fine u2) → Migrated K script p n m args stack w e after × Onward e (Holds t u2 after.cursors)

-- At each entry, each reply of the hook does so. It may rest on what holds of both sides there, and on what the other side has noted with this entry.
abbrev pub HookMigrates : {T U : Type 0} → (T → Bool) → (U → Bool) → (T → U → List ℕ → Type 0) → (ℕ → Bool) → Hook T → Hook U → Script → Program → Type 0
HookMigrates {T} {U} ok fine Holds K hook look script p =
    (f : Map) (w1 w2 : World) (m : ℕ) (args1 args2 : List Value) (stack : Stack) (n : ℕ) (t : T) (u u' : U) → Alike everything f w1 w2 → Each (AlikeValue f) args1 args2 → w1.counters.instructions ≤ n →
    Holds t u w1.cursors → look.entry m args2 stack w2 u ≡ Here u' → IsTrue (fine u') →
    IsMigrated ok fine Holds K script p n m args1 stack w1 u' (hook.entry m args1 stack w1 t) (call look (eval_with look script p n) script p m args2 stack w2 u)
