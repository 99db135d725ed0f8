-- The tries break at one address at most.
use Rattle.std.proofs.Common.{◌≡◌, inl, inr, ℕ, ◌<◌, ◌==◌, ◌&&◌, not, Bool, Option, Some, refl, sym, ap, ◌∙◌, subst, arith}
use Rattle.cc_meaning.specs.declared.program.Placed.{Placed}
use Rattle.cc_meaning_typing.specs.declared.state.State.{State}
use Rattle.cc_meaning_typing.specs.Code.{Body}
use Rattle.cc_meaning_typing.specs.Tries.{States, state_at, tried, opening_states, Due, opening_due, IsLeastDue, Marks, unchanged, changed, DueAfter, Passes, Tries, After, opens, passes, BreaksAt}
use Rattle.cc_meaning_typing.proofs.Reading.{test_lt}

marks_same : {o n p q : Option State} {was also now later : Bool} → Marks o n was now → Marks p q also later → o ≡ p → n ≡ q → was ≡ also → now ≡ later
marks_same unchanged unchanged f g e = e
marks_same unchanged (changed ne) f g e = absurd (ne (sym g ∙ f))
marks_same (changed ne) unchanged f g e = absurd (ne (g ∙ sym f))
marks_same (changed ne) (changed nf) f g e = refl

least_below : (d e : Due) (a b : ℕ) → ((at : ℕ) → d at ≡ e at) → IsLeastDue d a → IsLeastDue e b → a < b → ⊥
least_below d e a b same f g l = let x = f.is in let y = g.least a l in let z = same a in absurd (cc)

least_same : (d e : Due) (a b : ℕ) → ((at : ℕ) → d at ≡ e at) → IsLeastDue d a → IsLeastDue e b → a ≡ b
least_same d e a b same f g = elim (test_lt a b) [
  | inl t ↦ absurd (least_below d e a b same f g t.1)
  | inr t ↦ elim (test_lt b a) [
    | inl u ↦ absurd (least_below e d b a (λ at. sym (same at)) g f u.1)
    | inr u ↦ let x = t.1 in let y = u.1 in omega arith
  ]
]

module _ (body : Body) where
  -- the tries go on from these states to one that breaks at this address
  data Runs : States → Due → ℕ → Type 0 where
    breaks : {states : States} {due : Due} {at : ℕ} {s : State} → Tries body states due at s → (Passes body at s → ⊥) → Runs states due at
    goes : {states : States} {due later : Due} {at end : ℕ} {s : State} → Tries body states due at s → (kept : Passes body at s) → DueAfter states (tried body states at kept.placed s) due at later → Runs (tried body states at kept.placed s) later end → Runs states due end

  run_back : {n : ℕ} {states : States} {due : Due} {end : ℕ} → After body n states due → Runs states due end → Runs (opening_states body) opening_due end
  run_back opens r = r
  run_back (passes a t kept d) r = run_back a (goes t kept d r)

  run_of : (at : ℕ) → BreaksAt body at → Runs (opening_states body) opening_due at
  run_of at b = run_back b.after (breaks b.next b.broken)

  same_state : (states : States) (a b : ℕ) (s u : State) → a ≡ b → state_at states a ≡ Some s → state_at states b ≡ Some u → s ≡ u
  same_state states a b s u e f g = let f2 = rw e at f in cc

  moved : (a b : ℕ) (s u : State) → a ≡ b → s ≡ u → Passes body a s → Passes body b u
  moved a b s u e f p = subst (λ z. Passes body z u) e (subst (λ z. Passes body a z) f p)

  same_placed : (a b : ℕ) (s u : State) → a ≡ b → (p : Passes body a s) (q : Passes body b u) → p.placed ≡ q.placed
  same_placed a b s u e p q = let x = rw e at p.stands in let y = q.stands in cc

  same_tried : (states : States) (a b : ℕ) (p q : Placed) (s u : State) → a ≡ b → p ≡ q → s ≡ u → tried body states a p s ≡ tried body states b q u
  same_tried states a b p q s u e f g = ap (λ z. tried body states z p s) e ∙ ap (λ z. tried body states b z s) f ∙ ap (λ z. tried body states b q z) g

  later_same : (states new other : States) (due also later late : Due) (a b : ℕ) → new ≡ other → a ≡ b → ((at : ℕ) → due at ≡ also at) → DueAfter states new due a later → DueAfter states other also b late → (at : ℕ) → later at ≡ late at
  later_same states new other due also later late a b e f same d g at =
      let d2 = subst (λ z. Marks (state_at states at) (state_at z at) (due at && not (at == a)) (later at)) e (d at) in
      marks_same d2 (g at) refl refl (ap (λ z. z && not (at == a)) (same at) ∙ ap (λ z. also at && not (at == z)) f)

  runs_same : {states twin : States} {due also : Due} {a b : ℕ} → states ≡ twin → ((at : ℕ) → due at ≡ also at) → Runs states due a → Runs twin also b → a ≡ b
  runs_same {states} {twin} {due} {also} st same (breaks {at = a} {s = s} t fails) (breaks {at = b} {s = u} q fails') = least_same due also a b same t.first q.first
  runs_same {states} {twin} {due} {also} st same (breaks {at = a} {s = s} t fails) (goes {at = b} {s = u} q kept d r) =
      let e = least_same due also a b same t.first q.first in
      let k = subst (λ z. state_at z a ≡ Some s) st t.known in
      let f = same_state twin a b s u e k q.known in
      absurd (fails (moved b a u s (sym e) (sym f) kept))
  runs_same {states} {twin} {due} {also} st same (goes {at = a} {s = s} t kept d r) (breaks {at = b} {s = u} q fails) =
      let e = least_same due also a b same t.first q.first in
      let k = subst (λ z. state_at z a ≡ Some s) st t.known in
      let f = same_state twin a b s u e k q.known in
      absurd (fails (moved a b s u e f kept))
  runs_same {states} {twin} {due} {also} st same (goes {later = later} {at = a} {s = s} t kept d r) (goes {later = late} {at = b} {s = u} q held' g o) =
      let e = least_same due also a b same t.first q.first in
      let k = subst (λ z. state_at z a ≡ Some s) st t.known in
      let f = same_state twin a b s u e k q.known in
      let p = same_placed a b s u e kept held' in
      let new = ap (λ z. tried body z a kept.placed s) st ∙ same_tried twin a b kept.placed held'.placed s u e p f in
      let d2 = subst (λ z. DueAfter z (tried body states a kept.placed s) due a later) st d in
      runs_same new (later_same twin (tried body states a kept.placed s) (tried body twin b held'.placed u) due also later late a b new e same d2 g) r o

  pub breaks_once : (a b : ℕ) → BreaksAt body a → BreaksAt body b → a ≡ b
  breaks_once a b x y = runs_same refl (λ at. refl) (run_of a x) (run_of b y)
