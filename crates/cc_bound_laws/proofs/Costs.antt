-- What is chosen costs at least its bound in each legal completion, and has none where it breaks a rule.
use Rattle.std.proofs.Common.{◌≡◌, ◌⊎◌, inl, inr, ℕ, zero, suc, ◌+◌, ◌≤◌, ◌&&◌, ◌||◌, not, List, [], ◌∷◌, ◌++◌, Bool, true, false, Option, Some, None, refl, sym, ◌∙◌, arith, cond, slice_get, unwrap_or, true≢false}
use Rattle.std.specs.Prelude.{sum, sum_by}
use Rattle.std.proofs.lemmas.List.Sums.{sum_by-cons}
use Rattle.cc_meaning.specs.declared.profile.Execution.{Execution}
use Rattle.cc_meaning.specs.declared.profile.Node.{Node}
use Rattle.cc_meaning.specs.declared.profile.Partial.{Partial}
use Rattle.cc_meaning.specs.declared.profile.Partition.{Partition}
use Rattle.cc_meaning.specs.declared.profile.Profiles.{Profiles}
use Rattle.cc_meaning.specs.declared.program.Program.{Program}
use Rattle.cc_meaning.specs.declared.script.Script.{Script}
use Rattle.cc_meaning_calls.specs.Places.{Under, moved, below, Outer, begins, called, Breaks, nested, kept, parted, IsMoved, IsLegal}
use Rattle.cc_meaning_calls.specs.Profiles.{marks_behind, marks, Residual, residuals, migration, is_moved, moves, at_place, costs_at, migrations, cost_of, cost}
use Rattle.cc_meaning_calls.specs.Bounds.{is_chosen, is_open, runs_on_clone, runs_on_device, least_at, least_costs, bound_of, bound, IsChosen, IsOpen, BreaksSomeRule, IsCompletion}
use Rattle.cc_meaning_calls.specs.Certificates.{BoundsHold}
use Rattle.cc_bound_laws.proofs.Members.{either_is, left_is, right_is, contains, among}

-- ---- sums

pub sums_rise : {A : Type 0} (f g : A → ℕ) → ((x : A) → f x ≤ g x) → (xs : List A) → sum_by f xs ≤ sum_by g xs
sums_rise f g h [] = let z : 0 ≤ 0 = omega arith in z
sums_rise f g h (x ∷ xs) = let a = sum_by-cons f x xs in let b = sum_by-cons g x xs in let c = h x in let d = sums_rise f g h xs in omega arith

sum_first : (x : ℕ) (xs : List ℕ) → sum (x ∷ xs) ≡ x + sum xs
sum_first x xs = sum_by-cons (λ y. y) x xs

-- ---- marks

-- what runs on the clone for sure is moved, and what runs on the device for sure is not
abbrev Fits : (clone device here : Bool) → Type 0
Fits clone device here = (clone ≡ true → here ≡ true) × (device ≡ true → here ≡ false)

abbrev Agree : (clone device here : List Bool) → Type 0
Agree [] [] [] = Unit {0}
Agree (c ∷ cs) (d ∷ ds) (a ∷ as') = Fits c d a × Agree cs ds as'
Agree _ _ _ = ⊥

abbrev FitsAt : (clone device here : Option Bool) → Type 0
FitsAt None None None = Unit {0}
FitsAt (Some c) (Some d) (Some a) = Fits c d a
FitsAt _ _ _ = ⊥

agree_push : (cs ds as' : List Bool) (c d a : Bool) → Agree cs ds as' → Fits c d a → Agree (cs ++ c ∷ []) (ds ++ d ∷ []) (as' ++ a ∷ [])
agree_push [] [] [] c d a h f = (f, tt)
agree_push (x ∷ cs) (y ∷ ds) (z ∷ as') c d a h f = (h.0, agree_push cs ds as' c d a h.1 f)
agree_push [] [] (z ∷ as') c d a h f = absurd h
agree_push [] (y ∷ ds) as' c d a h f = absurd h
agree_push (x ∷ cs) [] as' c d a h f = absurd h
agree_push (x ∷ cs) (y ∷ ds) [] c d a h f = absurd h

agree_at : (cs ds as' : List Bool) (i : ℕ) → Agree cs ds as' → FitsAt (slice_get cs i) (slice_get ds i) (slice_get as' i)
agree_at [] [] [] i h = tt
agree_at (x ∷ cs) (y ∷ ds) (z ∷ as') zero h = h.0
agree_at (x ∷ cs) (y ∷ ds) (z ∷ as') (suc i) h = agree_at cs ds as' i h.1
agree_at [] [] (z ∷ as') i h = absurd h
agree_at [] (y ∷ ds) as' i h = absurd h
agree_at (x ∷ cs) [] as' i h = absurd h
agree_at (x ∷ cs) (y ∷ ds) [] i h = absurd h

-- ---- one invocation

-- a parent that runs on the clone for sure is moved; without a parent nothing is moved
parent_moved : (c d a : Option Bool) → FitsAt c d a → unwrap_or c false ≡ true → unwrap_or a false ≡ true
parent_moved None None None h e = e
parent_moved (Some c) (Some d) (Some a) h e = h.0 e
parent_moved None None (Some a) h e = absurd h
parent_moved None (Some d) a h e = absurd h
parent_moved (Some c) None a h e = absurd h
parent_moved (Some c) (Some d) None h e = absurd h

parent_stays : (c d a : Option Bool) → FitsAt c d a → unwrap_or d true ≡ true → unwrap_or a false ≡ false
parent_stays None None None h e = refl
parent_stays (Some c) (Some d) (Some a) h e = h.1 e
parent_stays None None (Some a) h e = absurd h
parent_stays None (Some d) a h e = absurd h
parent_stays (Some c) None a h e = absurd h
parent_stays (Some c) (Some d) None h e = absurd h

both_false : (a b : Bool) → a ≡ false → b ≡ false → (a || b) ≡ false
both_false true b h k = cc
both_false false b h k = k

and_first : (a b : Bool) → (a && b) ≡ true → a ≡ true
and_first true b h = refl
and_first false b h = h

and_second : (a b : Bool) → (a && b) ≡ true → b ≡ true
and_second true b h = h
and_second false b h = cc

not_is : (a : Bool) → not a ≡ true → a ≡ false
not_is true h = cc
not_is false h = refl

is_false : (a : Bool) → (a ≡ true → ⊥) → a ≡ false
is_false true h = absurd (h refl)
is_false false h = refl

module _ (candidates : List ℕ) (partial : Partial) (partition : Partition) (completion : IsCompletion candidates partial partition) where
  chosen_moves : (m : ℕ) → is_chosen candidates partial m ≡ true → is_moved partition m ≡ true
  unfolding is_moved
  chosen_moves m h = among partition.moved m (completion.moves m h)

  closed_stays : (m : ℕ) → is_open candidates partial m ≡ false → is_moved partition m ≡ false
  unfolding is_moved
  closed_stays m h = is_false (is_moved partition m) (λ e. true≢false (sym (completion.stays m (contains partition.moved m e)) ∙ h))

  on_clone : (m : ℕ) (c d a : Option Bool) → FitsAt c d a → (is_chosen candidates partial m ≡ true) ⊎ (unwrap_or c false ≡ true) → (is_moved partition m || unwrap_or a false) ≡ true
  on_clone m c d a f (inl e) = left_is (is_moved partition m) (unwrap_or a false) (chosen_moves m e)
  on_clone m c d a f (inr e) = right_is (is_moved partition m) (unwrap_or a false) (parent_moved c d a f e)

  node_fits : (node : Node) (c d a : Option Bool) → FitsAt c d a → Fits (runs_on_clone candidates partial c node) (runs_on_device candidates partial d node) (moves partition a node)
  unfolding runs_on_clone runs_on_device moves
  node_fits node c d a f = (
    (λ e. on_clone node.method c d a f (either_is (is_chosen candidates partial node.method) (unwrap_or c false) e)),
    (λ e. both_false (is_moved partition node.method) (unwrap_or a false)
        (closed_stays node.method (not_is (is_open candidates partial node.method) (and_first (not (is_open candidates partial node.method)) (unwrap_or d true) e)))
        (parent_stays c d a f (and_second (not (is_open candidates partial node.method)) (unwrap_or d true) e))),
  )

  marks_agree : (nodes : List Node) (cs ds as' : List Bool) → Agree cs ds as' →
      Agree (marks_behind (runs_on_clone candidates partial) cs nodes) (marks_behind (runs_on_device candidates partial) ds nodes) (marks_behind (moves partition) as' nodes)
  unfolding marks_behind
  marks_agree [] cs ds as' h = h
  marks_agree (node ∷ rest) cs ds as' h =
      marks_agree rest _ _ _ (agree_push cs ds as' _ _ _ h (node_fits node (slice_get cs node.parent) (slice_get ds node.parent) (slice_get as' node.parent) (agree_at cs ds as' node.parent h)))

  -- ---- costs

  least_of : (c d a : Bool) (r : Residual) → Fits c d a → least_at c d r ≤ at_place a r
  unfolding least_at at_place
  least_of true d true r f = omega arith
  least_of true d false r f = absurd (true≢false (sym (f.0 refl)))
  least_of false true false r f = omega arith
  least_of false true true r f = absurd (true≢false (f.1 refl))
  least_of false false true r f = omega arith
  least_of false false false r f = omega arith

  costs_rise : (cs ds as' : List Bool) (rs : List Residual) → Agree cs ds as' → sum (least_costs cs ds rs) ≤ sum (costs_at as' rs)
  unfolding least_costs costs_at
  costs_rise [] [] [] rs h = let z : 0 ≤ 0 = omega arith in z
  costs_rise (c ∷ cs) (d ∷ ds) (a ∷ as') [] h = let z : 0 ≤ 0 = omega arith in z
  costs_rise (c ∷ cs) (d ∷ ds) (a ∷ as') (r ∷ rs) h =
      let x = sum_first (least_at c d r) (least_costs cs ds rs) in
      let y = sum_first (at_place a r) (costs_at as' rs) in
      let z = least_of c d a r h.0 in
      let w = costs_rise cs ds as' rs h.1 in omega arith
  costs_rise [] [] (z ∷ as') rs h = absurd h
  costs_rise [] (y ∷ ds) as' rs h = absurd h
  costs_rise (x ∷ cs) [] as' rs h = absurd h
  costs_rise (x ∷ cs) (y ∷ ds) [] rs h = absurd h

  cond_rises : (a b : Bool) (n : ℕ) → (a ≡ true → b ≡ true) → cond a n 0 ≤ cond b n 0
  cond_rises true true n h = omega arith
  cond_rises true false n h = absurd (true≢false (sym (h refl)))
  cond_rises false true n h = omega arith
  cond_rises false false n h = omega arith

  migrations_rise : (execution : Execution) → migrations (is_chosen candidates partial) execution ≤ migrations (is_moved partition) execution
  unfolding migrations
  migrations_rise execution = sums_rise (λ (node : Node). cond (is_chosen candidates partial node.method) (migration execution node) 0) (λ (node : Node). cond (is_moved partition node.method) (migration execution node) 0)
      (λ node. cond_rises (is_chosen candidates partial node.method) (is_moved partition node.method) (migration execution node) (chosen_moves node.method)) execution.nodes

  execution_rises : (execution : Execution) → bound_of candidates partial execution ≤ cost_of partition execution
  unfolding bound_of cost_of marks
  execution_rises execution =
      let a = costs_rise _ _ _ (residuals execution.nodes) (marks_agree execution.nodes [] [] [] tt) in
      let b = migrations_rise execution in
      omega arith

  pub bound_rises : (profiles : Profiles) → bound candidates profiles partial ≤ cost profiles partition
  unfolding bound cost
  bound_rises profiles = sums_rise (bound_of candidates partial) (cost_of partition) execution_rises profiles.executions

-- ---- rules

module _ (p : Program) (script : Script) (Less More : ℕ → Type 0) (rises : (m : ℕ) → Less m → More m) where
  under_rises : (m : ℕ) → Under p script Less m → Under p script More m
  under_rises m (moved h) = moved (rises m h)
  under_rises m (below {mover} h r) = below (rises mover h) r

  outer_falls : (m : ℕ) → Outer p script More m → Outer p script Less m
  outer_falls m (begins h) = begins (λ l. h (rises _ l))
  outer_falls m (called {caller} h o d) = called (λ l. h (rises m l)) (outer_falls caller o) d

breaks_too : (p : Program) (script : Script) (Chosen Open Moved : ℕ → Type 0) → ((m : ℕ) → Chosen m → Moved m) → ((m : ℕ) → Moved m → Open m) → (rule m1 m2 : ℕ) →
    Breaks p script Chosen Open rule m1 m2 → Breaks p script Moved Moved rule m1 m2
breaks_too p script Chosen Open Moved up down rule m1 m2 (nested a b r) = nested (up _ a) (up _ b) r
breaks_too p script Chosen Open Moved up down rule m1 m2 (kept s u) = kept s (under_rises p script Chosen Moved up _ u)
breaks_too p script Chosen Open Moved up down rule m1 m2 (parted s u o) = parted s (under_rises p script Chosen Moved up _ u) (outer_falls p script Moved Open down _ o)

pub no_legal : (p : Program) (script : Script) (candidates : List ℕ) (partial : Partial) (partition : Partition) → IsCompletion candidates partial partition → BreaksSomeRule p script candidates partial →
    IsLegal p script partition → ⊥
no_legal p script candidates partial partition completion breaks legal =
    legal.keeps breaks.0 breaks.1 breaks.2 (breaks_too p script (IsChosen candidates partial) (IsOpen candidates partial) (IsMoved partition) completion.moves completion.stays breaks.0 breaks.1 breaks.2 breaks.3)

pub bounds_hold : (p : Program) (script : Script) (candidates : List ℕ) (profiles : Profiles) → BoundsHold p script candidates profiles
bounds_hold p script candidates profiles = record {
  no_less = λ partial partition legal completion. bound_rises candidates partial partition completion profiles;
  none = no_legal p script candidates;
}
