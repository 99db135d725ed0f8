-- Facts of tables.
use Rattle.std.proofs.Common.{◌≡◌, ◌≢◌, ◌⊎◌, inl, inr, ℕ, ◌==◌, Bool, true, false, zero, suc, ◌<◌, ◌≤◌, List, [], ◌∷◌, length, take, get_or, Option, Some, None, refl, sym, ap, ◌∙◌, subst, arith, slice_get, slice_set}
use Rattle.std.specs.Prelude.{All, IsSome}
use Rattle.std.specs.Bool.{MatchBool}
use Rattle.std.specs.Ordering.{nat_cmp}
use Rattle.std.specs.BTreeSet.{BTreeSet, contains, Updates}
use Rattle.std.specs.BTreeMap.{is_at}
use Rattle.std.proofs.lemmas.Bool.Decides.{nat_tests}
use Rattle.std.proofs.lemmas.List.Elements.{All-head, All-tail}
use Rattle.cc_meaning.specs.declared.program.RegType.{RegType}
use Rattle.cc_meaning_typing.specs.declared.state.State.{State}
use Rattle.cc_meaning_typing.specs.Growth.{IsNarrowRegister, AreNarrow}
use Rattle.cc_meaning_typing.specs.Tries.{States, state_at, Due, Marks, unchanged, changed, opening_due}

pub all_narrow : (registers : List RegType) → All IsNarrowRegister registers → AreNarrow registers
all_narrow [] h = tt
all_narrow (a ∷ registers) h = (All-head IsNarrowRegister a registers h, all_narrow registers (All-tail IsNarrowRegister a registers h))

pub take_all : {A : Type 0} (xs : List A) (n : ℕ) → length xs ≤ n → take n xs ≡ xs
take_all [] zero l = refl
take_all [] (suc n) l = refl
take_all (x ∷ xs) zero l = absurd (omega arith)
take_all (x ∷ xs) (suc n) l = ap (λ z. x ∷ z) (take_all xs n (omega arith))

pub get_item : {A : Type 0} (xs : List A) (k : ℕ) (x : A) → k < length xs → x ≡ get_or xs k x → slice_get xs k ≡ Some x
get_item [] k x l e = absurd (omega arith)
get_item (y ∷ xs) zero x l e = ap Some (sym e)
get_item (y ∷ xs) (suc k) x l e = get_item xs k x (omega arith) e

pub state_known : (states : States) (at : ℕ) (o : Option State) → slice_get states at ≡ Some o → state_at states at ≡ o
state_known [] at o e = absurd (cc)
state_known (s ∷ states) zero o e = cc
state_known (s ∷ states) (suc at) o e = state_known states at o e

pub state_unknown : (states : States) (at : ℕ) → slice_get states at ≡ None → state_at states at ≡ None
state_unknown [] at e = refl
state_unknown (s ∷ states) zero e = absurd (cc)
state_unknown (s ∷ states) (suc at) e = state_unknown states at e

-- ---- changed lists

pub test_eq : (a b : ℕ) → (((a == b) ≡ true) × (a ≡ b)) ⊎ (((a == b) ≡ false) × (a ≢ b))
test_eq a b = grind (arith, nat_tests)

pub set_same : (states : States) (at : ℕ) (o : Option State) → at < length states → state_at (slice_set states at o) at ≡ o
set_same [] at o l = absurd (omega arith)
set_same (s ∷ states) zero o l = refl
set_same (s ∷ states) (suc at) o l = set_same states at o (omega arith)

pub set_other : (states : States) (at to : ℕ) (o : Option State) → at ≢ to → state_at (slice_set states to o) at ≡ state_at states at
set_other [] at to o ne = refl
set_other (s ∷ states) zero zero o ne = absurd (ne refl)
set_other (s ∷ states) zero (suc to) o ne = refl
set_other (s ∷ states) (suc at) zero o ne = refl
set_other (s ∷ states) (suc at) (suc to) o ne = set_other states at to o (omega arith)

-- ---- sets of addresses

is_at_other : (k q : ℕ) → k ≢ q → is_at (nat_cmp k) q ≡ false
is_at_other k q ne = grind (arith, nat_tests)

pub updated_same : (s n : BTreeSet ℕ) (k : ℕ) (b : Bool) → Updates nat_cmp s n k b → contains nat_cmp n k ≡ b
updated_same s n k b u = u.1

pub updated_other : (s n : BTreeSet ℕ) (k : ℕ) (b : Bool) → Updates nat_cmp s n k b → (q : ℕ) → q ≢ k → contains nat_cmp n q ≡ contains nat_cmp s q
updated_other s n k b u q ne = u.2 q (is_at_other k q (λ e. ne (sym e)))

-- ---- marks

marks_at : (o n : Option State) (was now : Bool) → n ≢ o → now ≡ true → Marks o n was now
marks_at o n was true ne e = changed ne
marks_at o n was false ne e = absurd (cc)

marks_kept : (o n : Option State) (was now : Bool) → n ≡ o → now ≡ was → Marks o n was now
marks_kept o n was now e f = subst (λ z. Marks o z was now) (sym e) (subst (λ z. Marks o o was z) (sym f) unchanged)

-- a state that has changed makes its address due, and no other
pub marks_changed : (states : States) (to : ℕ) (old new : Option State) (due later : Due) → to < length states → slice_get states to ≡ Some old → new ≢ old → later to ≡ true → ((q : ℕ) → q ≢ to → later q ≡ due q) → (at : ℕ) → Marks (state_at states at) (state_at (slice_set states to new) at) (due at) (later at)
marks_changed states to old new due later l e ne is other at = elim (test_eq at to) [
  | inl t ↦ rw t.1 (marks_at (state_at states to) (state_at (slice_set states to new) to) (due to) (later to) (λ f. ne (sym (set_same states to new l) ∙ f ∙ state_known states to old e)) is)
  | inr t ↦ marks_kept (state_at states at) (state_at (slice_set states to new) at) (due at) (later at) (set_other states at to new t.1) (other at t.1)
]

pub marks_unchanged : (states : States) (to : ℕ) (old new : Option State) (due : Due) → to < length states → slice_get states to ≡ Some old → new ≡ old → (at : ℕ) → Marks (state_at states at) (state_at (slice_set states to new) at) (due at) (due at)
marks_unchanged states to old new due l e f at = elim (test_eq at to) [
  | inl t ↦ rw t.1 (marks_kept (state_at states to) (state_at (slice_set states to new) to) (due to) (due to) (set_same states to new l ∙ f ∙ sym (state_known states to old e)) refl)
  | inr t ↦ marks_kept (state_at states at) (state_at (slice_set states to new) at) (due at) (due at) (set_other states at to new t.1) refl
]

pub opened_due : (s n : BTreeSet ℕ) → s.keys ≡ [] → Updates nat_cmp s n 0 true → (at : ℕ) → contains nat_cmp n at ≡ opening_due at
unfolding opening_due
opened_due s n e u at = elim (test_eq at 0) [
  | inl t ↦ rw (t.1) (updated_same s n 0 true u)
  | inr t ↦ rw (t.0) (updated_other s n 0 true u at t.1 ∙ rw e refl)
]

pub by_true : (b : Bool) (P Q : Type 0) → b ≡ true → MatchBool b P Q → P
by_true true P Q e h = h
by_true false P Q e h = absurd (cc)

pub by_false : (b : Bool) (P Q : Type 0) → b ≡ false → MatchBool b P Q → Q
by_false false P Q e h = h
by_false true P Q e h = absurd (cc)

pub state_inside : (states : States) (at : ℕ) (s : State) → state_at states at ≡ Some s → at < length states
state_inside [] at s e = absurd (cc)
state_inside (o ∷ states) zero s e = omega arith
state_inside (o ∷ states) (suc at) s e = let h = state_inside states at s e in omega arith

pub some_is : (o : Option State) (s : State) → o ≡ Some s → IsSome o
some_is None s e = absurd (cc)
some_is (Some u) s e = refl
