-- On which node each invocation of a run may stand: what partitions promise of runs.
use Rattle.std.specs.Prelude.{◌≡◌, ◌<◌, ℕ, suc, List, Some, slice_get}
use Rattle.std.specs.List.{Contains}
use Rattle.cc_meaning.specs.declared.profile.Partition.{Partition}
use Rattle.cc_meaning.specs.declared.program.Program.{Program}
use Rattle.cc_meaning.specs.declared.report.Limits.{Limits}
use Rattle.cc_meaning.specs.declared.script.Script.{Script}
use Rattle.cc_meaning_exec.specs.Runs.{Invocation, invocations}
use Rattle.cc_meaning_calls.specs.Calls.{Direct}
use Rattle.cc_meaning_calls.specs.Places.{IsMoved, IsUnder, IsOuter, IsLegal}
use Rattle.cc_meaning_offload.specs.Jobs.{IsRead}

-- ---- calls of a run

-- Each invocation but the opening one of main was called by the one that is its parent, by a direct call.
pub record AreDirect (p : Program) (script : Script) (list : List Invocation) : Type 0 where
  pub entries : (i : ℕ) (v parent : Invocation) → slice_get list (suc i) ≡ Some v → slice_get list v.parent ≡ Some parent → Direct p script parent.method v.method
  -- and so were the scripted calls that are recorded, and the prints
  pub calls : (i m : ℕ) (v : Invocation) → slice_get list i ≡ Some v → Contains v.calls m → Direct p script v.method m
  -- each one stands behind its parent
  pub parents : (i : ℕ) (v : Invocation) → slice_get list (suc i) ≡ Some v → v.parent < suc i

-- ---- places

-- the invocation of a place is an entry of a moved method, or stands below one
pub data IsBelowMoved (list : List Invocation) (Moves : ℕ → Type 0) : ℕ → Type 0 where
  entry : {i : ℕ} {v : Invocation} → slice_get list i ≡ Some v → Moves v.method → IsBelowMoved list Moves i
  under : {i : ℕ} {v : Invocation} → slice_get list i ≡ Some v → IsBelowMoved list Moves v.parent → IsBelowMoved list Moves i

-- Each invocation below an entry of a moved method, that one included, is of a method that is under, and each other one of a method that is outer.
pub record KeepPlaces (p : Program) (script : Script) (partition : Partition) (list : List Invocation) : Type 0 where
  pub under : (i : ℕ) (v : Invocation) → slice_get list i ≡ Some v → IsBelowMoved list (IsMoved partition) i → IsUnder p script partition v.method
  pub outer : (i : ℕ) (v : Invocation) → slice_get list i ≡ Some v → (IsBelowMoved list (IsMoved partition) i → ⊥) → IsOuter p script partition v.method

-- ---- laws

abbrev pub CallsAreDirect : Type 0
CallsAreDirect = (main file text : List ℕ) (p : Program) (script : Script) (texts : List (List ℕ)) (limits : Limits) → IsRead main file text p script →
    AreDirect p script (invocations script p texts limits)

abbrev pub PlacesAreKept : Type 0
PlacesAreKept = (main file text : List ℕ) (p : Program) (script : Script) (partition : Partition) (texts : List (List ℕ)) (limits : Limits) → IsRead main file text p script → IsLegal p script partition →
    KeepPlaces p script partition (invocations script p texts limits)
