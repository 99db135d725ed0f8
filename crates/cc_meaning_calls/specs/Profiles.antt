-- What a partition costs on the invocations of profiled runs.
use Rattle.std.specs.Prelude.{ℕ, suc, ◌+◌, ◌-◌, ◌*◌, ◌≤◌, ◌==◌, ◌||◌, Bool, true, false, cond, List, [], ◌∷◌, ◌++◌, drop, sum_by, sum, filter, Option, slice_get, unwrap_or}
use Rattle.std.specs.List.{list_any}
use Rattle.cc_meaning.specs.declared.profile.Execution.{Execution}
use Rattle.cc_meaning.specs.declared.profile.Node.{Node}
use Rattle.cc_meaning.specs.declared.profile.Partition.{Partition}
use Rattle.cc_meaning.specs.declared.profile.Profiles.{Profiles}

-- ---- the tree of invocations

-- Marks of invocations, one after another, behind those that have theirs. A mark is a function of the invocation and of its parent's mark, which an earlier one is;
-- the first has no parent.
unfoldable pub marks_behind : (Option Bool → Node → Bool) → List Bool → List Node → List Bool
marks_behind mark before [] = before
marks_behind mark before (node ∷ rest) = marks_behind mark (before ++ mark (slice_get before node.parent) node ∷ []) rest

unfoldable pub marks : (Option Bool → Node → Bool) → List Node → List Bool
marks mark nodes = marks_behind mark [] nodes

-- the children of the invocation at a place: those behind the first whose parent it is
unfoldable pub children : List Node → ℕ → List Node
children nodes place = filter (λ (node : Node). node.parent == place) (drop 1 nodes)

-- what an invocation costs on each node by itself: its total less those of its children
pub record Residual : Type 0 where
  pub device : ℕ
  pub clone : ℕ

unfoldable pub residual : List Node → ℕ → Node → Residual
residual nodes place node = record { device = node.device - sum_by (λ (child : Node). child.device) (children nodes place); clone = node.clone - sum_by (λ (child : Node). child.clone) (children nodes place) }

unfoldable pub residuals_from : List Node → (place : ℕ) → List Node → List Residual
residuals_from nodes place [] = []
residuals_from nodes place (node ∷ rest) = residual nodes place node ∷ residuals_from nodes (suc place) rest

unfoldable pub residuals : List Node → List Residual
residuals nodes = residuals_from nodes 0 nodes

-- the totals of an invocation's children are together no more than its own
abbrev pub HasTotals : List Node → ℕ → Node → Type 0
HasTotals nodes place node = (sum_by (λ (child : Node). child.device) (children nodes place) ≤ node.device) × (sum_by (λ (child : Node). child.clone) (children nodes place) ≤ node.clone)

-- what a migration at an invocation costs: a fixed part, and one for each byte of the images of its entry and its end
unfoldable pub migration : Execution → Node → ℕ
migration execution node = execution.fixed + execution.byte * (node.entry_bytes + node.exit_bytes)

-- ---- cost

unfoldable pub is_moved : Partition → ℕ → Bool
is_moved partition m = list_any (λ other. other == m) partition.moved

-- an invocation is moved where its method is, or its parent is moved
unfoldable pub moves : Partition → Option Bool → Node → Bool
moves partition parent node = is_moved partition node.method || unwrap_or parent false

unfoldable pub at_place : Bool → Residual → ℕ
at_place true residual = residual.clone
at_place false residual = residual.device

unfoldable pub costs_at : List Bool → List Residual → List ℕ
costs_at (mark ∷ marks) (residual ∷ residuals) = at_place mark residual ∷ costs_at marks residuals
costs_at _ _ = []

unfoldable pub migrations : (ℕ → Bool) → Execution → ℕ
migrations test execution = sum_by (λ (node : Node). cond (test node.method) (migration execution node) 0) execution.nodes

-- each invocation at its place, and a migration for each one of a moved method
unfoldable pub cost_of : Partition → Execution → ℕ
cost_of partition execution = sum (costs_at (marks (moves partition) execution.nodes) (residuals execution.nodes)) + migrations (is_moved partition) execution

-- the cost of a partition: the sum over all runs of the profiles
unfoldable pub cost : Profiles → Partition → ℕ
cost profiles partition = sum_by (cost_of partition) profiles.executions
