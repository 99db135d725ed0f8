-- Graphs whose nodes are numbers, each with the list of the nodes that its edges lead to.
use Rattle.std.specs.Prelude.{◌≡◌, ◌⊎◌, ℕ, ◌<◌, Bool, true, List, length, Contains, slice_get, slice_index, Some}

pub record HasEdge (graph : List (List ℕ)) (from to : ℕ) : Type 0 where
  pub targets : List ℕ
  pub there : slice_get graph from ≡ Some targets
  pub leads : Contains targets to

-- each edge leads to a node
abbrev pub IsWhole : List (List ℕ) → Type 0
IsWhole graph = (from to : ℕ) → HasEdge graph from to → to < length graph

-- a way of one edge or more leads from the first node to the second
pub data Reaches (graph : List (List ℕ)) : ℕ → ℕ → Type 0 where
  edge : {from to : ℕ} → HasEdge graph from to → Reaches graph from to
  onward : {from next to : ℕ} → HasEdge graph from next → Reaches graph next to → Reaches graph from to

-- ---- a search

abbrev pub IsMarked : List Bool → ℕ → Type 0
IsMarked marks node = slice_get marks node ≡ Some true

-- ---- a certificate that nodes are on no cycle

abbrev pub EdgeDescends : List ℕ → List Bool → ℕ → ℕ → Type 0
EdgeDescends levels suspects from to = (slice_index levels to < slice_index levels from) ⊎ ((slice_index levels to ≡ slice_index levels from) × IsMarked suspects from)

-- Along each edge levels fall, or they stay and the edge is of a suspect. So each node that is on a cycle is a suspect.
abbrev pub Descends : List (List ℕ) → List ℕ → List Bool → Type 0
Descends graph levels suspects = (from to : ℕ) → HasEdge graph from to → EdgeDescends levels suspects from to

-- the first node that is on a cycle
pub record IsFirstOnCycle (graph : List (List ℕ)) (node : ℕ) : Type 0 where
  pub on_cycle : Reaches graph node node
  pub before : (earlier : ℕ) → earlier < node → ¬ Reaches graph earlier earlier
