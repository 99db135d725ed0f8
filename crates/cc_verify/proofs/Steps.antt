-- One turn of the loop over tries.
use Rattle.std.proofs.Common.{◌≡◌, inl, inr, ℕ, zero, suc, ◌+◌, ◌*◌, ◌<◌, ◌≤◌, ◌==◌, ◌&&◌, not, Bool, true, false, List, [], ◌∷◌, length, Option, Some, refl, sym, ap, ◌∙◌, subst, arith, add-one, drop, get_or, slice_get}
use Rattle.std.specs.Prelude.{IsTrue}
use Rattle.std.specs.Ordering.{nat_cmp, is_gt}
use Rattle.std.specs.BTreeSet.{BTreeSet, contains, btree_set_len, Updates, IsLowerBound}
use Rattle.std.proofs.lemmas.Bool.Decides.{nat_tests}
use Rattle.cc_meaning.specs.declared.program.Catch.{Catch}
use Rattle.cc_meaning.specs.declared.program.Program.{Program}
use Rattle.cc_meaning_typing.specs.declared.state.Pending.{Pending}
use Rattle.cc_meaning_typing.specs.declared.state.Pending.TheVariants.{Exception}
use Rattle.cc_meaning_typing.specs.declared.state.State.{State}
use Rattle.cc_meaning_typing.specs.Code.{Body}
use Rattle.cc_meaning_typing.specs.Rules.{caught_type, handler_state}
use Rattle.cc_meaning_typing.specs.Ending.{AreNarrowStates, known_room, due_room, room_below, tries_room, width_of}
use Rattle.cc_meaning_typing.specs.VerifyLaws.{Spreads, TriesShrink}
use Rattle.cc_meaning_typing.specs.Tries.{units_of, States, state_at, lead, lead_all, catch_all, Due, opening_states, opening_due, IsLeastDue, Marks, DueAfter, Passes, Tries, tried, After, opens, passes, EndsWith, BreaksAt}
use Rattle.cc_verify.specs.declared.table.Table.{Table}
use Rattle.cc_verify.specs.Tables.{due_of, Tried}
use Rattle.cc_verify.proofs.Tables.{test_eq, updated_same, updated_other}

-- tries in which no rule was broken lead to these states, and this is due
pub record Progress (body : Body) (states : States) (due : Due) : Type 0 where
  pub tries : ℕ
  pub known : Due
  pub after : After body tries states known
  pub same : (at : ℕ) → known at ≡ due at

pub starts : (body : Body) (states : States) (due : Due) → states ≡ opening_states body → ((at : ℕ) → due at ≡ opening_due at) → Progress body states due
starts body states due e d = record { tries = 0; known = opening_due; after = subst (λ z. After body 0 z opening_due) (sym e) opens; same = λ at. sym (d at) }

-- ---- what is due first

above : (at earlier : ℕ) → earlier < at → is_gt (nat_cmp at earlier) ≡ true
above at earlier l = grind (arith, nat_tests)

not_true : (b : Bool) → (b ≡ true → ⊥) → b ≡ false
not_true true h = absurd (h refl)
not_true false h = refl

pub first_due : (s : BTreeSet ℕ) (known : Due) (at : ℕ) → ((k : ℕ) → known k ≡ due_of s k) → IsTrue (contains nat_cmp s at) → IsLowerBound nat_cmp s at → IsLeastDue known at
first_due s known at same is least = record {
  is = same at ∙ is;
  least = λ earlier l. same earlier ∙ not_true (due_of s earlier) (λ e. let f = least earlier e in let g = above at earlier l in absurd (cc));
}

pub popped : (s n : BTreeSet ℕ) (at : ℕ) → Updates nat_cmp s n at false → (other : ℕ) → due_of n other ≡ (due_of s other && not (other == at))
popped s n at u other = elim (test_eq other at) [
  | inl t ↦ rw (t.0, t.1, updated_same s n at false u) (sym (and_false (due_of s at)))
  | inr t ↦ rw t.0 (updated_other s n at false u other t.1 ∙ sym (and_true (due_of s other)))
]
  where
    and_false : (b : Bool) → (b && not true) ≡ false
    and_false true = refl
    and_false false = refl

    and_true : (b : Bool) → (b && not false) ≡ b
    and_true true = refl
    and_true false = refl

-- ---- room

room_same : (program : Program) (width : ℕ) (states : States) (d e : Due) → ((at : ℕ) → d at ≡ e at) → (n : ℕ) → room_below program width states d n ≡ room_below program width states e n
unfolding room_below
room_same program width states d e same zero = refl
room_same program width states d e same (suc n) = ap (λ b. (2 * known_room program width (state_at states n) + due_room b) + room_below program width states d n) (same n) ∙ ap (λ m. (2 * known_room program width (state_at states n) + due_room (e n)) + m) (room_same program width states d e same n)

-- ---- a try

module _ (body : Body) (old new : Table) (states : States) (due : Due) (at : ℕ) (before : old.states ≡ states) (p : Progress body states due) (first : IsLeastDue p.known at) (cleared : (other : ℕ) → due_of old.due other ≡ (due other && not (other == at))) where
  later_marks : (s : State) (kept : Passes body at s) → new.states ≡ tried body old.states at kept.placed s → Spreads body old.states new.states (due_of old.due) (due_of new.due) → DueAfter states (tried body states at kept.placed s) p.known at (due_of new.due)
  later_marks s kept e f other =
      let m = f.marks other in
      let c = cleared other ∙ ap (λ b. b && not (other == at)) (sym (p.same other)) in
      let m2 = subst (λ b. Marks (state_at old.states other) (state_at new.states other) b (due_of new.due other)) c m in
      let m3 = subst (λ z. Marks (state_at old.states other) (state_at z other) (p.known other && not (other == at)) (due_of new.due other)) e m2 in
      subst (λ z. Marks (state_at z other) (state_at (tried body z at kept.placed s) other) (p.known other && not (other == at)) (due_of new.due other)) before m3

  pub kept_goes : TriesShrink body → Tried body old new at true → AreNarrowStates new.states → Progress body new.states (due_of new.due) × (tries_room body new.states (due_of new.due) < tries_room body states due)
  unfolding tries_room
  kept_goes shrink t narrow =
      let s = t.0 in
      let known = subst (λ z. state_at z at ≡ Some s) before t.1 in
      let kept = t.2.0 in
      let next : Tries body states p.known at s = record { first = first; known = known } in
      let marks = later_marks s kept t.2.1 t.2.2 in
      let made = t.2.1 ∙ ap (λ z. tried body z at kept.placed s) before in
      let less = shrink p.tries at states p.known (due_of new.due) s p.after next kept marks (subst AreNarrowStates made narrow) in
      let less2 = subst (λ z. tries_room body z (due_of new.due) < tries_room body states p.known) (sym made) less in (
        record {
          tries = suc p.tries;
          known = due_of new.due;
          after = subst (λ z. After body (suc p.tries) z (due_of new.due)) (sym made) (passes p.after next kept marks);
          same = λ k. refl;
        },
        subst (λ m. tries_room body new.states (due_of new.due) < m) (room_same body.program (width_of body) states p.known due p.same (units_of body.code)) less2,
      )

  pub broken_breaks : Tried body old new at false → BreaksAt body at
  broken_breaks t = record {
    tries = p.tries;
    states = states;
    due = p.known;
    state = t.0;
    after = p.after;
    next = record { first = first; known = subst (λ z. state_at z at ≡ Some t.0) before t.1 };
    broken = t.2;
  }

none_due : (s : BTreeSet ℕ) (ks : List ℕ) → s.keys ≡ ks → (0 < length ks → ⊥) → (at : ℕ) → due_of s at ≡ false
none_due s [] e h at = rw e refl
none_due s (k ∷ ks) e h at = absurd (h (omega arith))

pub rests : (body : Body) (states : States) (s : BTreeSet ℕ) → Progress body states (due_of s) → (0 < btree_set_len s → ⊥) → EndsWith body states
rests body states s p h = record { tries = p.tries; due = p.known; after = p.after; none = λ at. p.same at ∙ none_due s s.keys refl h at }

item_get : {A : Type 0} (xs : List A) (k : ℕ) (d : A) → k < length xs → slice_get xs k ≡ Some (get_or xs k d)
item_get [] k d l = absurd (omega arith)
item_get (y ∷ xs) zero d l = refl
item_get (y ∷ xs) (suc k) d l = item_get xs k d (omega arith)

pub drop_next : {A : Type 0} (xs : List A) (k : ℕ) (x : A) → slice_get xs k ≡ Some x → drop k xs ≡ x ∷ drop (k + 1) xs
drop_next xs k x e = rw add-one (go xs k x e)
  where
    go : {A : Type 0} (xs : List A) (k : ℕ) (x : A) → slice_get xs k ≡ Some x → drop k xs ≡ x ∷ drop (suc k) xs
    go [] k x e = absurd (cc)
    go (y ∷ xs) zero x e = cc
    go (y ∷ xs) (suc k) x e = go xs k x e

drop_end : {A : Type 0} (xs : List A) (k : ℕ) → length xs ≤ k → drop k xs ≡ []
drop_end [] zero h = refl
drop_end [] (suc k) h = refl
drop_end (x ∷ xs) zero h = absurd (omega arith)
drop_end (x ∷ xs) (suc k) h = drop_end xs k (omega arith)

-- ---- leading to several addresses

module _ (program : Program) (s : State) where
  pub lead_next : (states new : States) (tos rest : List (Option ℕ)) (to : Option ℕ) → tos ≡ to ∷ rest → new ≡ lead program (record { registers = s.registers; pending = s.pending }) states to → lead_all program s new rest ≡ lead_all program s states tos
  unfolding lead_all
  lead_next states new tos rest to e f = rw (e, f) refl

  pub lead_end : (states : States) (tos : List (Option ℕ)) → tos ≡ [] → lead_all program s states tos ≡ states
  unfolding lead_all
  lead_end states tos e = rw e refl

  pub catch_next : (states new : States) (catches : List Catch) (k : ℕ) (d : Catch) (pending : Pending) (to : ℕ) → k < length catches → pending ≡ Exception (caught_type program (get_or catches k d).kind) → to ≡ (get_or catches k d).at → new ≡ lead program (record { registers = s.registers; pending = pending }) states (Some to) → catch_all program s new (drop (k + 1) catches) ≡ catch_all program s states (drop k catches)
  unfolding catch_all handler_state
  catch_next states new catches k d pending to h e f g = rw (drop_next catches k (get_or catches k d) (item_get catches k d h), g, e, f) refl

  pub catch_end : (states : States) (catches : List Catch) (k : ℕ) → length catches ≤ k → catch_all program s states (drop k catches) ≡ states
  unfolding catch_all
  catch_end states catches k h = rw (drop_end catches k h) refl
