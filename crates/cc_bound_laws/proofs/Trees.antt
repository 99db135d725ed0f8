-- What a tree of choices proves: each legal partition completes what is chosen at one of its leaves.
use Rattle.std.proofs.Common.{◌≡◌, ◌⊎◌, inl, inr, ℕ, zero, suc, ◌+◌, ◌<◌, ◌≤◌, ◌==◌, List, [], ◌∷◌, ◌++◌, length, Bool, true, false, Option, Some, None, refl, sym, ap, ◌∙◌, subst, arith, cond, nat_lt, slice_get, slice_set, get_or, replicate, true≢false, eq-eqb, eqb-true, ℤ}
use Rattle.std.specs.Prelude.{All, position, option_and_then}
use Rattle.std.specs.List.{Contains, position_or_len}
use Rattle.std.proofs.lemmas.Bool.{ltb-true, ltb-false}
use Rattle.std.proofs.lemmas.List.{length-append}
use Rattle.std.proofs.lemmas.List.Quantifiers.{position-Some}
use Rattle.std.proofs.lemmas.List.Sums.{fails_before_first}
use Rattle.cc_meaning.specs.declared.profile.Choice.{Choice}
use Rattle.cc_meaning.specs.declared.profile.Choice.TheVariants as choice
use Rattle.cc_meaning.specs.declared.profile.Partial.{Partial}
use Rattle.cc_meaning.specs.declared.profile.Partition.{Partition}
use Rattle.cc_meaning.specs.declared.profile.Profiles.{Profiles}
use Rattle.cc_meaning.specs.declared.program.Program.{Program}
use Rattle.cc_meaning.specs.declared.script.Script.{Script}
use Rattle.cc_meaning_calls.specs.Calls.{IsCandidate, AreCandidates}
use Rattle.cc_meaning_calls.specs.Places.{IsMoved, IsLegal}
use Rattle.cc_meaning_calls.specs.Profiles.{cost}
use Rattle.cc_meaning_calls.specs.Bounds.{choice_of, moves_for_sure, may_move_in, is_chosen, is_open, all_open, bound, IsCompletion}
use Rattle.cc_meaning_calls.specs.Certificates.{Leaf, leaf, choosing, HasLeaves, broken, bounded, split, IsTrueLeaf, ProofsHold}
use Rattle.cc_bound_laws.proofs.Members.{is_in, contains, among}
use Rattle.cc_bound_laws.proofs.Costs.{bound_rises, no_legal}

-- ---- places of candidates

abbrev test_of : ℕ → ℕ → Bool
test_of m other = other == m

-- a place that is found is the method's
found_is : (candidates : List ℕ) (m place : ℕ) → position (test_of m) candidates ≡ Some place → (place < length candidates) × (get_or candidates place 0 ≡ m)
found_is candidates m place e =
    let h = position-Some (test_of m) candidates place 0 e in
    (h.0, eqb-true (get_or candidates place 0) m h.1)

not_below : (a b : ℕ) → nat_lt a b ≡ false → b ≤ a
not_below a b h = ltb-false a b h

found_if : (candidates : List ℕ) (m : ℕ) (b : Bool) → nat_lt (position_or_len (test_of m) candidates) (length candidates) ≡ b → Contains candidates m →
    (place : ℕ) × (place < length candidates) × (cond b (Some (position_or_len (test_of m) candidates)) None ≡ Some place)
found_if candidates m true e c = (position_or_len (test_of m) candidates, ltb-true _ _ e, refl)
found_if candidates m false e c =
    let past : c.0 < position_or_len (test_of m) candidates = omega (arith, not_below _ _ e, c.1) in
    absurd (true≢false (sym (eq-eqb (get_or candidates c.0 m) m c.2) ∙ fails_before_first (test_of m) candidates c.0 m past))

-- a candidate has a place
is_found : (candidates : List ℕ) (m : ℕ) → Contains candidates m → (place : ℕ) × (place < length candidates) × (position (test_of m) candidates ≡ Some place)
is_found candidates m c = found_if candidates m (nat_lt (position_or_len (test_of m) candidates) (length candidates)) refl c

-- ---- choices that are set

what_is : {A : Type 0} → A → Option A → A
what_is x None = x
what_is x (Some y) = y

same_some : {A : Type 0} (x y : A) → Some x ≡ Some y → x ≡ y
unfolding what_is
same_some x y e = ap (what_is x) e

set_same : (cs : List Choice) (i : ℕ) (c x : Choice) → slice_get cs i ≡ Some c → slice_get (slice_set cs i x) i ≡ Some x
set_same [] i c x e = cc
set_same (y ∷ cs) zero c x e = refl
set_same (y ∷ cs) (suc i) c x e = set_same cs i c x e

set_other : (cs : List Choice) (i j : ℕ) (x : Choice) → (i ≡ j → ⊥) → slice_get (slice_set cs i x) j ≡ slice_get cs j
set_other [] i j x h = refl
set_other (y ∷ cs) zero zero x h = absurd (h refl)
set_other (y ∷ cs) zero (suc j) x h = refl
set_other (y ∷ cs) (suc i) zero x h = refl
set_other (y ∷ cs) (suc i) (suc j) x h = set_other cs i j x (λ e. h (ap suc e))

set_length : (cs : List Choice) (i : ℕ) (x : Choice) → length (slice_set cs i x) ≡ length cs
set_length [] i x = refl
set_length (y ∷ cs) zero x = refl
set_length (y ∷ cs) (suc i) x = ap suc (set_length cs i x)

is_same : (i j : ℕ) (b : Bool) → (i == j) ≡ b → (i ≡ j) ⊎ (i ≡ j → ⊥)
is_same i j true e = inl (eqb-true i j e)
is_same i j false e = inr (λ q. true≢false (sym (eq-eqb i j q) ∙ e))

within : (cs : List Choice) (i : ℕ) (c : Choice) → slice_get cs i ≡ Some c → i < length cs
within [] i c e = cc
within (y ∷ cs) zero c e = omega arith
within (y ∷ cs) (suc i) c e = let h = within cs i c e in omega arith

module _ (candidates : List ℕ) (chosen : Partial) (i : ℕ) (next : Choice) (undecided : slice_get chosen.choices i ≡ Some choice.Undecided) where
  -- what is chosen for the candidate of the place, and for any other
  chosen_here : (m place : ℕ) → position (test_of m) candidates ≡ Some place → i ≡ place → choice_of candidates (choosing chosen i next) m ≡ Some next
  unfolding choice_of choosing
  chosen_here m place e q =
      ap (λ o. option_and_then (λ k. slice_get (slice_set chosen.choices i next) k) o) (e ∙ ap Some (sym q)) ∙ set_same chosen.choices i choice.Undecided next undecided

  chosen_elsewhere : (m place : ℕ) → position (test_of m) candidates ≡ Some place → (i ≡ place → ⊥) → choice_of candidates (choosing chosen i next) m ≡ choice_of candidates chosen m
  unfolding choice_of choosing
  chosen_elsewhere m place e n =
      ap (λ o. option_and_then (λ k. slice_get (slice_set chosen.choices i next) k) o) e
      ∙ (set_other chosen.choices i place next n ∙ ap (λ o. option_and_then (λ k. slice_get chosen.choices k) o) (sym e))

  chosen_nowhere : (m : ℕ) → position (test_of m) candidates ≡ None → choice_of candidates (choosing chosen i next) m ≡ choice_of candidates chosen m
  unfolding choice_of choosing
  chosen_nowhere m e = ap (λ o. option_and_then (λ k. slice_get (slice_set chosen.choices i next) k) o) e ∙ ap (λ o. option_and_then (λ k. slice_get chosen.choices k) o) (sym e)

  -- the choice for a method is the next one, where it is the candidate of the place, or what it was
  choice_is : (m : ℕ) (o : Option ℕ) → position (test_of m) candidates ≡ o →
      ((get_or candidates i 0 ≡ m) × (choice_of candidates (choosing chosen i next) m ≡ Some next)) ⊎ (choice_of candidates (choosing chosen i next) m ≡ choice_of candidates chosen m)
  choice_is m None e = inr (chosen_nowhere m e)
  choice_is m (Some place) e = elim (is_same i place (i == place) refl) [
    | inl q ↦ inl (ap (λ k. get_or candidates k 0) q ∙ (found_is candidates m place e).1, chosen_here m place e q)
    | inr n ↦ inr (chosen_elsewhere m place e n)
  ]

module _ (candidates : List ℕ) (chosen : Partial) (i : ℕ) (undecided : slice_get chosen.choices i ≡ Some choice.Undecided) (partition : Partition) (completion : IsCompletion candidates chosen partition) where
  moved_too : is_in (get_or candidates i 0) partition.moved ≡ true → IsCompletion candidates (choosing chosen i choice.Move) partition
  unfolding moves_for_sure is_chosen may_move_in is_open
  moved_too h = record {
    moves = λ m e. elim (choice_is candidates chosen i choice.Move undecided m (position (test_of m) candidates) refl) [
      | inl q ↦ subst (λ k. Contains partition.moved k) q.0 (contains partition.moved (get_or candidates i 0) h)
      | inr q ↦ completion.moves m (as_before_chosen m q e)
    ];
    stays = λ m e. elim (choice_is candidates chosen i choice.Move undecided m (position (test_of m) candidates) refl) [
      | inl q ↦ is_move m q.1
      | inr q ↦ as_now_open m q (completion.stays m e)
    ];
  }
    where
      as_before_chosen : (m : ℕ) → choice_of candidates (choosing chosen i choice.Move) m ≡ choice_of candidates chosen m → is_chosen candidates (choosing chosen i choice.Move) m ≡ true → is_chosen candidates chosen m ≡ true
      as_before_chosen m q e = ap moves_for_sure (sym q) ∙ e

      as_now_open : (m : ℕ) → choice_of candidates (choosing chosen i choice.Move) m ≡ choice_of candidates chosen m → is_open candidates chosen m ≡ true → is_open candidates (choosing chosen i choice.Move) m ≡ true
      as_now_open m q e = ap may_move_in q ∙ e

      is_move : (m : ℕ) → choice_of candidates (choosing chosen i choice.Move) m ≡ Some choice.Move → is_open candidates (choosing chosen i choice.Move) m ≡ true
      is_move m q = ap may_move_in q

  stays_too : is_in (get_or candidates i 0) partition.moved ≡ false → IsCompletion candidates (choosing chosen i choice.Stay) partition
  unfolding moves_for_sure is_chosen may_move_in is_open
  stays_too h = record {
    moves = λ m e. elim (choice_is candidates chosen i choice.Stay undecided m (position (test_of m) candidates) refl) [
      | inl q ↦ absurd (is_stay m q.1 e)
      | inr q ↦ completion.moves m (as_before_chosen m q e)
    ];
    stays = λ m e. elim (choice_is candidates chosen i choice.Stay undecided m (position (test_of m) candidates) refl) [
      | inl q ↦ absurd (true≢false (sym (among partition.moved (get_or candidates i 0) (subst (λ k. Contains partition.moved k) (sym q.0) e)) ∙ h))
      | inr q ↦ as_now_open m q (completion.stays m e)
    ];
  }
    where
      as_before_chosen : (m : ℕ) → choice_of candidates (choosing chosen i choice.Stay) m ≡ choice_of candidates chosen m → is_chosen candidates (choosing chosen i choice.Stay) m ≡ true → is_chosen candidates chosen m ≡ true
      as_before_chosen m q e = ap moves_for_sure (sym q) ∙ e

      as_now_open : (m : ℕ) → choice_of candidates (choosing chosen i choice.Stay) m ≡ choice_of candidates chosen m → is_open candidates chosen m ≡ true → is_open candidates (choosing chosen i choice.Stay) m ≡ true
      as_now_open m q e = ap may_move_in q ∙ e

      is_stay : (m : ℕ) → choice_of candidates (choosing chosen i choice.Stay) m ≡ Some choice.Stay → is_chosen candidates (choosing chosen i choice.Stay) m ≡ true → ⊥
      is_stay m q e = true≢false (sym e ∙ ap moves_for_sure q)

-- ---- trees

front_is : {A : Type 0} (xs ys : List A) (k : ℕ) (d : A) → k < length xs → get_or (xs ++ ys) k d ≡ get_or xs k d
front_is [] ys k d l = absurd (omega arith)
front_is (x ∷ xs) ys zero d l = refl
front_is (x ∷ xs) ys (suc k) d l = front_is xs ys k d (omega arith)

back_is : {A : Type 0} (xs ys : List A) (k : ℕ) (d : A) → get_or (xs ++ ys) (length xs + k) d ≡ get_or ys k d
back_is [] ys k d = ap (λ n. get_or ys n d) (none k)
  where
    none : (k : ℕ) → 0 + k ≡ k
    none k = omega arith
back_is (x ∷ xs) ys k d = ap (λ n. get_or (x ∷ (xs ++ ys)) n d) (next (length xs) k) ∙ back_is xs ys k d
  where
    next : (n k : ℕ) → suc n + k ≡ suc (n + k)
    next n k = omega arith

-- what holds of all of two lists, one behind the other
all_left : {A : Type 0} (P : A → Type 0) (xs ys : List A) → All P (xs ++ ys) → All P xs
all_left P xs ys h k d l = subst P (front_is xs ys k d l) (h k d (let a = length-append xs ys in omega arith))

all_right : {A : Type 0} (P : A → Type 0) (xs ys : List A) → All P (xs ++ ys) → All P ys
all_right P xs ys h k d l = subst P (back_is xs ys k d) (h (length xs + k) d (let a = length-append xs ys in omega arith))

is_either : (b : Bool) → (b ≡ true) ⊎ (b ≡ false)
is_either true = inl refl
is_either false = inr refl

module _ (p : Program) (script : Script) (candidates : List ℕ) (profiles : Profiles) (claimed : ℕ) (partition : Partition) (legal : IsLegal p script partition) where
  tree_proves : (chosen : Partial) (tree : List ℤ) (leaves : List Leaf) → HasLeaves chosen tree leaves → All (IsTrueLeaf p script candidates profiles claimed) leaves →
      IsCompletion candidates chosen partition → claimed ≤ cost profiles partition
  unfolding leaf
  tree_proves chosen tree leaves broken h completion = absurd (no_legal p script candidates chosen partition completion (h 0 (leaf true chosen) (omega arith)) legal)
  tree_proves chosen tree leaves bounded h completion =
      let a : claimed ≤ bound candidates profiles chosen = h 0 (leaf false chosen) (omega arith) in
      let b = bound_rises candidates chosen partition completion profiles in omega arith
  tree_proves chosen tree leaves (split {candidate = i} {staying = staying} {moving = moving} {left = left} {right = right} undecided stay move) h completion =
      elim (is_either (is_in (get_or candidates i 0) partition.moved)) [
        | inl e ↦ tree_proves (choosing chosen i choice.Move) moving right move (all_right (IsTrueLeaf p script candidates profiles claimed) left right h) (moved_too candidates chosen i undecided partition completion e)
        | inr e ↦ tree_proves (choosing chosen i choice.Stay) staying left stay (all_left (IsTrueLeaf p script candidates profiles claimed) left right h) (stays_too candidates chosen i undecided partition completion e)
      ]

-- ---- the beginning

open_at : (n i : ℕ) → i < n → slice_get (replicate n choice.Undecided) i ≡ Some choice.Undecided
open_at zero i l = absurd (omega arith)
open_at (suc n) zero l = refl
open_at (suc n) (suc i) l = open_at n i (omega arith)

only_open : (n i : ℕ) (c : Choice) → slice_get (replicate n choice.Undecided) i ≡ Some c → c ≡ choice.Undecided
only_open zero i c e = cc
only_open (suc n) zero c e = sym (same_some choice.Undecided c e)
only_open (suc n) (suc i) c e = only_open n i c e

-- nothing is chosen at first, and each candidate is open
no_choice : (candidates : List ℕ) (n : ℕ) (o : Option ℕ) → moves_for_sure (option_and_then (λ k. slice_get (replicate n choice.Undecided) k) o) ≡ true → ⊥
unfolding moves_for_sure
no_choice candidates n None e = cc
no_choice candidates n (Some k) e = by_choice (slice_get (replicate n choice.Undecided) k) refl e
  where
    by_choice : (o : Option Choice) → slice_get (replicate n choice.Undecided) k ≡ o → moves_for_sure o ≡ true → ⊥
    by_choice None q h = cc
    by_choice (Some c) q h = true≢false (sym h ∙ ap (λ x. moves_for_sure (Some x)) (only_open n k c q))

begins : (p : Program) (script : Script) (candidates : List ℕ) (partition : Partition) → AreCandidates p script candidates → IsLegal p script partition → IsCompletion candidates (all_open (length candidates)) partition
unfolding all_open is_chosen is_open choice_of may_move_in
begins p script candidates partition are legal = record {
  moves = λ m e. absurd (no_choice candidates (length candidates) (position (test_of m) candidates) e);
  stays = λ m e. is_open_at m (is_found candidates m (are.complete m (movable m e)));
}
  where
    movable : (m : ℕ) → IsMoved partition m → IsCandidate p script m
    movable m c = subst (IsCandidate p script) c.2 (legal.candidates c.0 m c.1)

    is_open_at : (m : ℕ) → (place : ℕ) × (place < length candidates) × (position (test_of m) candidates ≡ Some place) → is_open candidates (all_open (length candidates)) m ≡ true
    is_open_at m f = ap (λ o. may_move_in (option_and_then (λ k. slice_get (replicate (length candidates) choice.Undecided) k) o)) f.2 ∙ ap may_move_in (open_at (length candidates) f.0 f.1)

pub proofs_hold : ProofsHold
proofs_hold p script candidates profiles tree claimed are proves partition legal =
    tree_proves p script candidates profiles claimed partition legal (all_open (length candidates)) tree proves.0 proves.1 proves.2 (begins p script candidates partition are legal)
