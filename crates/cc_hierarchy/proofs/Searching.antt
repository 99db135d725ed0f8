-- A search of a graph from a node: what is marked and what is awaited.
use Rattle.std.proofs.Common.{◌≡◌, ◌⊎◌, inl, inr, ℕ, ◌<◌, ◌≤◌, Bool, true, List, [], ◌∷◌, ◌++◌, ◌+◌, length, get_or, take, Some, slice_get, ap, sym, subst, ◌∙◌, arith}
use Rattle.std.specs.Prelude.{◌↔◌, Contains}
use Rattle.std.proofs.lemmas.List.Elements.{Contains-append_left, Contains-push, Contains-push_cases}
use Rattle.std.proofs.Math.Seq.{take-length}
use Rattle.std.proofs.lemmas.List.{take_more}
use Rattle.std.proofs.lemmas.Option.{slice_get-get_or, slice_get_within}
use Rattle.cc_hierarchy.specs.Graphs.{HasEdge, IsMarked, Reaches, edge, onward}

-- ---- edges and the list of a node

pub edge_there : (graph : List (List ℕ)) (from to : ℕ) (targets : List ℕ) → from < length graph → targets ≡ get_or graph from targets → Contains targets to → HasEdge graph from to
edge_there graph from to targets within is leads = record { targets = targets; there = slice_get-get_or graph from targets within ∙ ap Some (sym is); leads = leads }

pub edge_listed : (graph : List (List ℕ)) (from to : ℕ) (targets : List ℕ) → from < length graph → targets ≡ get_or graph from targets → HasEdge graph from to → Contains targets to
edge_listed graph from to targets within is e =
    let there : slice_get graph from ≡ Some targets = slice_get-get_or graph from targets within ∙ ap Some (sym is) in
    let same : e.targets ≡ targets = let both : Some e.targets ≡ Some targets = sym e.there ∙ there in cc in
    subst (λ ts. Contains ts to) same e.leads

pub row_is : (graph : List (List ℕ)) (at : ℕ) (targets given : List ℕ) → targets ≡ given → given ≡ get_or graph at given → targets ≡ get_or graph at targets
row_is graph at targets given same is = subst (λ t. t ≡ get_or graph at t) (sym same) is

pub reaches_more : (graph : List (List ℕ)) (from next to : ℕ) → Reaches graph from next → HasEdge graph next to → Reaches graph from to
reaches_more graph from next to (edge e) more = onward e (edge more)
reaches_more graph from next to (onward {next = other} e way) more = onward e (reaches_more graph other next to way more)

-- ---- a loop over nodes that are marked

pub taken_cases : (xs : List ℕ) (i d other : ℕ) → i < length xs → Contains (take (i + 1) xs) other → Contains (take i xs) other ⊎ (other ≡ get_or xs i d)
taken_cases xs i d other within held = elim (Contains-push_cases (take i xs) (get_or xs i d) other (subst (λ ys. Contains ys other) (take_more xs i d within) held)) [ inl old ↦ inl old | inr new ↦ inr (sym new) ]

pub taken_old : (xs : List ℕ) (i d other : ℕ) → i < length xs → Contains (take i xs) other → Contains (take (i + 1) xs) other
taken_old xs i d other within held = subst (λ ys. Contains ys other) (sym (take_more xs i d within)) (Contains-append_left (take i xs) (get_or xs i d ∷ []) other held)

pub taken_new : (xs : List ℕ) (i d : ℕ) → i < length xs → Contains (take (i + 1) xs) (get_or xs i d)
taken_new xs i d within = subst (λ ys. Contains ys (get_or xs i d)) (sym (take_more xs i d within)) (Contains-push (take i xs) (get_or xs i d))

-- what holds at first or of the first i of a list, and of the next one
pub held_more : (first old new : ℕ → Type 0) (xs : List ℕ) (i d : ℕ) → i < length xs → ((other : ℕ) → old other → first other ⊎ Contains (take i xs) other) →
    ((other : ℕ) → new other → old other ⊎ (other ≡ get_or xs i d)) → (other : ℕ) → new other → first other ⊎ Contains (take (i + 1) xs) other
held_more first old new xs i d within so_far step other is = from (step other is)
  where
    from : old other ⊎ (other ≡ get_or xs i d) → first other ⊎ Contains (take (i + 1) xs) other
    from (inl was) = elim (so_far other was) [ inl a ↦ inl a | inr b ↦ inr (taken_old xs i d other within b) ]
    from (inr same) = inr (subst (λ o. Contains (take (i + 1) xs) o) (sym same) (taken_new xs i d within))

pub held_back : (first old new : ℕ → Type 0) (xs : List ℕ) (i d : ℕ) → i < length xs → ((other : ℕ) → first other ⊎ Contains (take i xs) other → old other) →
    ((other : ℕ) → old other ⊎ (other ≡ get_or xs i d) → new other) → (other : ℕ) → first other ⊎ Contains (take (i + 1) xs) other → new other
held_back first old new xs i d within so_far step other is = from is
  where
    last : Contains (take i xs) other ⊎ (other ≡ get_or xs i d) → new other
    last (inl was) = step other (inl (so_far other (inr was)))
    last (inr same) = step other (inr same)

    from : first other ⊎ Contains (take (i + 1) xs) other → new other
    from (inl a) = step other (inl (so_far other (inl a)))
    from (inr b) = last (taken_cases xs i d other within b)

pub taken_all : (xs : List ℕ) (i : ℕ) → i ≤ length xs → length xs ≤ i → take i xs ≡ xs
taken_all xs i low high =
    let e : i ≡ length xs = omega arith in
    rw e (take-length xs)

-- ---- the search

pub record Searched (graph : List (List ℕ)) (start : ℕ) (marks : List Bool) (awaited : List ℕ) : Type 0 where
  pub wide : length marks ≡ length graph
  pub sound : (node : ℕ) → IsMarked marks node → Reaches graph start node
  pub begun : (node : ℕ) → HasEdge graph start node → IsMarked marks node
  pub closed : (node : ℕ) → IsMarked marks node → Contains awaited node ⊎ ((next : ℕ) → HasEdge graph node next → IsMarked marks next)
  pub noted : (node : ℕ) → Contains awaited node → IsMarked marks node

pub searched_first : (graph : List (List ℕ)) (start : ℕ) (none marks : List Bool) (nothing targets awaited : List ℕ) → start < length graph → targets ≡ get_or graph start targets →
    ((node : ℕ) → ¬ IsMarked none node) → ((node : ℕ) → ¬ Contains nothing node) → length marks ≡ length graph →
    ((other : ℕ) → IsMarked marks other ↔ (IsMarked none other ⊎ Contains targets other)) →
    ((other : ℕ) → IsMarked marks other → IsMarked none other ⊎ Contains awaited other) →
    ((other : ℕ) → Contains awaited other → Contains nothing other ⊎ Contains targets other) → Searched graph start marks awaited
searched_first graph start none marks nothing targets awaited within is unmarked empty wide marked awaits all = record {
  wide = wide;
  sound = λ node m. elim ((marked node).0 m) [ inl old ↦ absurd (unmarked node old) | inr new ↦ edge (edge_there graph start node targets within is new) ];
  begun = λ node e. (marked node).1 (inr (edge_listed graph start node targets within is e));
  closed = λ node m. elim (awaits node m) [ inl old ↦ absurd (unmarked node old) | inr new ↦ inl new ];
  noted = λ node held. elim (all node held) [ inl old ↦ absurd (empty node old) | inr new ↦ (marked node).1 (inr new) ];
}

pub searched_more : (graph : List (List ℕ)) (start node : ℕ) (old marks : List Bool) (before left targets awaited : List ℕ) → before ≡ left ++ node ∷ [] → node < length graph → targets ≡ get_or graph node targets →
    Searched graph start old before → length marks ≡ length old →
    ((other : ℕ) → IsMarked marks other ↔ (IsMarked old other ⊎ Contains targets other)) →
    ((other : ℕ) → IsMarked marks other → IsMarked old other ⊎ Contains awaited other) →
    ((other : ℕ) → Contains left other → Contains awaited other) →
    ((other : ℕ) → Contains awaited other → Contains left other ⊎ Contains targets other) → Searched graph start marks awaited
searched_more graph start node old marks before left targets awaited split within is done wide marked awaits kept all = record {
  wide = wide ∙ done.wide;
  sound = λ other m. elim ((marked other).0 m) [ inl was ↦ done.sound other was | inr new ↦ reaches_more graph start node other here (edge_there graph node other targets within is new) ];
  begun = λ other e. (marked other).1 (inl (done.begun other e));
  closed = closed;
  noted = λ other held. elim (all other held) [ inl was ↦ (marked other).1 (inl (done.noted other (in_before other was))) | inr new ↦ (marked other).1 (inr new) ];
}
  where
    in_before : (other : ℕ) → Contains left other → Contains before other
    in_before other held = subst (λ b. Contains b other) (sym split) (Contains-append_left left (node ∷ []) other held)

    here : Reaches graph start node
    here = done.sound node (done.noted node (subst (λ b. Contains b node) (sym split) (Contains-push left node)))

    followed : (other : ℕ) → Contains left other ⊎ (node ≡ other) → Contains awaited other ⊎ ((next : ℕ) → HasEdge graph other next → IsMarked marks next)
    followed other (inl was) = inl (kept other was)
    followed other (inr same) = inr (λ next e. (marked next).1 (inr (edge_listed graph node next targets within is (subst (λ n. HasEdge graph n next) (sym same) e))))

    before_or : (other : ℕ) → Contains before other ⊎ ((next : ℕ) → HasEdge graph other next → IsMarked old next) → Contains awaited other ⊎ ((next : ℕ) → HasEdge graph other next → IsMarked marks next)
    before_or other (inl held) = followed other (Contains-push_cases left node other (subst (λ b. Contains b other) split held))
    before_or other (inr all_old) = inr (λ next e. (marked next).1 (inl (all_old next e)))

    closed : (other : ℕ) → IsMarked marks other → Contains awaited other ⊎ ((next : ℕ) → HasEdge graph other next → IsMarked marks next)
    closed other m = elim (awaits other m) [ inl was ↦ before_or other (done.closed other was) | inr new ↦ inl new ]

pub all_marked : (graph : List (List ℕ)) (start : ℕ) (marks : List Bool) → Searched graph start marks [] → (from to : ℕ) → Reaches graph from to → ((next : ℕ) → HasEdge graph from next → IsMarked marks next) → IsMarked marks to
all_marked graph start marks done from to (edge e) closed = closed to e
all_marked graph start marks done from to (onward {next = next} e way) closed = all_marked graph start marks done next to way (λ other more. elim (done.closed next (closed next e)) [ inl held ↦ absurd (nowhere held) | inr all ↦ all other more ])
  where
    nowhere : {node : ℕ} → Contains [] node → ⊥
    nowhere (k, below, is) = omega arith

pub searched_all : (graph : List (List ℕ)) (start : ℕ) (marks : List Bool) (awaited : List ℕ) (found : Bool) → awaited ≡ [] → Searched graph start marks awaited → slice_get marks start ≡ Some found → (found ≡ true) ↔ Reaches graph start start
searched_all graph start marks awaited found empty searched is = (
  λ yes. done.sound start (is ∙ ap Some yes),
  λ way. let both : Some found ≡ Some true = sym is ∙ all_marked graph start marks done start start way done.begun in cc,
)
  where
    done : Searched graph start marks []
    done = subst (λ a. Searched graph start marks a) empty searched

pub awaited_within : (graph : List (List ℕ)) (start : ℕ) (marks : List Bool) (before left : List ℕ) (node : ℕ) → before ≡ left ++ node ∷ [] → Searched graph start marks before → node < length graph
awaited_within graph start marks before left node split done =
    let held : Contains before node = subst (λ b. Contains b node) (sym split) (Contains-push left node) in
    let within : node < length marks = slice_get_within marks node true (done.noted node held) in
    omega (arith, within, done.wide)

pub nothing_held : (node : ℕ) → ¬ Contains [] node
nothing_held node (k, below, is) = omega arith
