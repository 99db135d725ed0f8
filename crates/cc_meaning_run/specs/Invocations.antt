-- The invocations of a run, in the order of their entries, kept by a hook that only looks on.
use Rattle.std.specs.Prelude.{ℕ, suc, ◌+◌, ◌-◌, ◌==◌, List, [], ◌∷◌, ◌++◌, length, if◌then◌else◌}
use Rattle.cc_meaning_run.specs.World.{Stack}
use Rattle.cc_meaning_run.specs.Eval.{Hook, Here}

-- an invocation: its method, the place of the one that called it, the frames that stood at its entry, the instructions that it did itself,
-- and its recorded calls in order
pub record Invocation : Type 0 where
  pub method : ℕ
  pub parent : ℕ
  pub depth : ℕ
  pub instructions : ℕ
  pub calls : List ℕ

-- The running invocation is the last one at its depth, so the list is kept with the last invocation first.
abbrev pub Invocations : Type 0
Invocations = List Invocation

-- the place, from the first, of the last invocation at this depth; 0 where there is none
unfoldable pub place_at : ℕ → Invocations → ℕ
place_at depth [] = 0
place_at depth (i ∷ earlier) = if i.depth == depth then length earlier else place_at depth earlier

unfoldable pub entered : ℕ → Stack → Invocations → Invocations
entered method stack list = record { method = method; parent = place_at (stack.depth - 1) list; depth = stack.depth; instructions = 0; calls = [] } ∷ list

unfoldable pub counted : List ℕ → Invocation → Invocation
counted called i = record i { instructions = suc i.instructions; calls = i.calls ++ called }

-- the instruction counts for the invocation that runs
unfoldable pub charged : ℕ → List ℕ → Invocations → Invocations
charged depth called [] = []
charged depth called (i ∷ earlier) = if i.depth + 1 == depth then counted called i ∷ earlier else i ∷ charged depth called earlier

-- looks on, and evaluates every method where it is called
unfoldable pub onlooker : Hook Invocations
onlooker = record { entry = λ method args stack w list. Here (entered method stack list); turned = charged }
