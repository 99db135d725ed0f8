-- What a partition of which a part is chosen costs at least, and where no completion of it is legal.
use Rattle.std.specs.Prelude.{◌≡◌, ℕ, ◌+◌, ◌==◌, ◌&&◌, ◌||◌, not, min, Bool, true, false, List, [], ◌∷◌, sum, sum_by, replicate, position, Option, Some, option_and_then, slice_get, unwrap_or}
use Rattle.cc_meaning.specs.declared.fault.Broken.{Broken}
use Rattle.cc_meaning.specs.declared.profile.Choice.{Choice}
use Rattle.cc_meaning.specs.declared.profile.Choice.TheVariants as choice
use Rattle.cc_meaning.specs.declared.profile.Execution.{Execution}
use Rattle.cc_meaning.specs.declared.profile.Node.{Node}
use Rattle.cc_meaning.specs.declared.profile.Partial.{Partial}
use Rattle.cc_meaning.specs.declared.profile.Partition.{Partition}
use Rattle.cc_meaning.specs.declared.profile.Profiles.{Profiles}
use Rattle.cc_meaning.specs.declared.program.Program.{Program}
use Rattle.cc_meaning.specs.declared.script.Script.{Script}
use Rattle.cc_meaning_calls.specs.Places.{Breaks, IsFirstBroken, IsMoved}
use Rattle.cc_meaning_calls.specs.Profiles.{Residual, residuals, marks, migrations}

-- ---- choices

-- what is chosen for a method; nothing for one that is no candidate
unfoldable pub choice_of : (candidates : List ℕ) → Partial → ℕ → Option Choice
choice_of candidates partial m = option_and_then (λ place. slice_get partial.choices place) (position (λ other. other == m) candidates)

unfoldable pub moves_for_sure : Option Choice → Bool
moves_for_sure (Some choice.Move) = true
moves_for_sure _ = false

unfoldable pub may_move_in : Option Choice → Bool
may_move_in (Some choice.Move) = true
may_move_in (Some choice.Undecided) = true
may_move_in _ = false

-- a method is chosen to move
unfoldable pub is_chosen : List ℕ → Partial → ℕ → Bool
is_chosen candidates partial m = moves_for_sure (choice_of candidates partial m)

-- a method is chosen to move, or may still be
unfoldable pub is_open : List ℕ → Partial → ℕ → Bool
is_open candidates partial m = may_move_in (choice_of candidates partial m)

-- nothing is chosen yet
unfoldable pub all_open : ℕ → Partial
all_open candidates = record { choices = replicate candidates choice.Undecided }

-- ---- the bound

-- an invocation runs on the clone for sure: its method is chosen to move, or its parent runs there for sure
unfoldable pub runs_on_clone : List ℕ → Partial → Option Bool → Node → Bool
runs_on_clone candidates partial parent node = is_chosen candidates partial node.method || unwrap_or parent false

-- an invocation runs on the device for sure: its method can't be moved any more, and it has no parent or one that runs there for sure
unfoldable pub runs_on_device : List ℕ → Partial → Option Bool → Node → Bool
runs_on_device candidates partial parent node = not (is_open candidates partial node.method) && unwrap_or parent true

-- what an invocation costs at least: on the clone or on the device where it runs there for sure, and else the lesser
unfoldable pub least_at : (clone device : Bool) → Residual → ℕ
least_at true device residual = residual.clone
least_at false true residual = residual.device
least_at false false residual = min residual.device residual.clone

unfoldable pub least_costs : (clone device : List Bool) → List Residual → List ℕ
least_costs (on_clone ∷ clone) (on_device ∷ device) (residual ∷ rest) = least_at on_clone on_device residual ∷ least_costs clone device rest
least_costs _ _ _ = []

unfoldable pub bound_of : List ℕ → Partial → Execution → ℕ
bound_of candidates partial execution =
    sum (least_costs (marks (runs_on_clone candidates partial) execution.nodes) (marks (runs_on_device candidates partial) execution.nodes) (residuals execution.nodes))
    + migrations (is_chosen candidates partial) execution

-- the bound of a partition of which a part is chosen: each invocation of all runs at its least, and a migration for each one of a method that is chosen to move
unfoldable pub bound : (candidates : List ℕ) → Profiles → Partial → ℕ
bound candidates profiles partial = sum_by (bound_of candidates partial) profiles.executions

-- ---- broken

abbrev pub IsChosen : List ℕ → Partial → ℕ → Type 0
IsChosen candidates partial m = is_chosen candidates partial m ≡ true

abbrev pub IsOpen : List ℕ → Partial → ℕ → Type 0
IsOpen candidates partial m = is_open candidates partial m ≡ true

-- the first rule that the part that is chosen breaks, whatever is chosen for the rest, and its least pair
abbrev pub IsPartBroken : Program → Script → List ℕ → Partial → Broken → Type 0
IsPartBroken p script candidates partial broken = IsFirstBroken p script (IsChosen candidates partial) (IsOpen candidates partial) broken

-- the part that is chosen breaks a rule
abbrev pub BreaksSomeRule : Program → Script → List ℕ → Partial → Type 0
BreaksSomeRule p script candidates partial =
    (rule : ℕ) × (m1 : ℕ) × (m2 : ℕ) × Breaks p script (IsChosen candidates partial) (IsOpen candidates partial) rule m1 m2

-- ---- completions

-- a partition goes on from what is chosen: it moves what is chosen to move, and nothing that is chosen to stay
pub record IsCompletion (candidates : List ℕ) (partial : Partial) (partition : Partition) : Type 0 where
  pub moves : (m : ℕ) → IsChosen candidates partial m → IsMoved partition m
  pub stays : (m : ℕ) → IsMoved partition m → IsOpen candidates partial m
