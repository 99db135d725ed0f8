-- Where no rule was broken, the states in the end are a typing.
use Rattle.std.proofs.Common.{◌≡◌, ◌≢◌, ◌⊎◌, inl, inr, ℕ, ◌<◌, ◌==◌, ◌&&◌, not, Bool, true, false, List, [], ◌∷◌, length, replicate, Option, Some, None, refl, sym, ap, ◌∙◌, arith, slice_set, slice_index_or}
use Rattle.std.specs.Prelude.{All}
use Rattle.std.proofs.lemmas.List.Elements.{All-head, All-tail}
use Rattle.cc_meaning.specs.declared.program.Catch.{Catch}
use Rattle.cc_meaning.specs.declared.program.Placed.{Placed}
use Rattle.cc_meaning.specs.declared.program.Program.{Program}
use Rattle.cc_meaning_typing.specs.declared.state.State.{State}
use Rattle.cc_meaning_typing.specs.States.{opening}
use Rattle.cc_meaning_typing.specs.Code.{Body, placed_at, successors, handlers}
use Rattle.cc_meaning_typing.specs.Rules.{after, handler_state}
use Rattle.cc_meaning_typing.specs.Typing.{Typing, Leads, IsFine, IsTyping}
use Rattle.cc_meaning_typing.specs.WellTyped.{Reaches, first}
use Rattle.cc_meaning_typing.specs.Laws.{StatesOrder, StateJoinIsLeast, StatesAreOrdered, StateJoins}
use Rattle.cc_meaning_typing.specs.Tries.{units_of, States, state_at, joined, lead, lead_all, catch_all, tried, opening_states, Due, opening_due, Marks, unchanged, changed, DueAfter, Passes, Tries, After, opens, passes, EndsWith}
use Rattle.cc_meaning_typing.specs.Ending.{width_of}
use Rattle.cc_meaning_typing.specs.VerifyLaws.{IsClosed, Fits, FindTypings}
use Rattle.cc_meaning_typing.proofs.Reading.{test_eq, test_lt, and_not_false, set_length, set_outside, index_same, index_other, replicate_length, index_replicate}
use Rattle.cc_meaning_typing.proofs.Growing.{AreWide, IsInside, GrowsTo, leads_grow, Step, step_further, lead_all_step, lead_all_there, catch_all_step, catch_all_there}
use Rattle.cc_meaning_typing.proofs.Width.{after_keeps}
use Rattle.cc_meaning_typing.proofs.Closed.{Comes, inside, successors_come, handlers_come}

-- ---- marks

-- what isn't due afterwards has stayed, and wasn't due before
pub not_due : {known new : Option State} {was now : Bool} → Marks known new was now → now ≡ false → (new ≡ known) × (was ≡ false)
not_due unchanged e = (refl, e)
not_due (changed ne) e = absurd (cc)

-- what is due afterwards was due before, or has changed
pub is_due : {known new : Option State} {was now : Bool} → Marks known new was now → now ≡ true → ((new ≡ known) × (was ≡ true)) ⊎ (new ≢ known)
is_due unchanged e = inl (refl, e)
is_due (changed ne) e = inr ne

pub was_due : (due other : Bool) → (due && not other) ≡ true → due ≡ true
was_due true other e = refl
was_due false other e = e

-- ---- one state alone

module _ (n : ℕ) (o : State) where
  abbrev Alone : States
  Alone = slice_set (replicate n None) 0 (Some o)

  pub only_first : (at : ℕ) (s : State) → state_at Alone at ≡ Some s → (at ≡ 0) × (s ≡ o)
  only_first at s e = elim (test_lt 0 n) [
    | inl l ↦
        let within : 0 < length (replicate {A = Option State} n None) = let k = replicate_length {A = Option State} n None in let m = l.1 in omega arith in
        elim (test_eq at 0) [
          | inl t ↦ let e2 = rw t.1 at e in let x = index_same (replicate n None) 0 (Some o) None within in (t.1, cc)
          | inr t ↦ let x = index_other (replicate n None) at 0 (Some o) None t.1 in let y = index_replicate {A = Option State} n at None in absurd (cc)
        ]
    | inr l ↦
        let out : 0 < length (replicate {A = Option State} n None) → ⊥ = λ h. let k = replicate_length {A = Option State} n None in l.1 (omega arith) in
        let x = set_outside (replicate {A = Option State} n None) 0 (Some o) out in
        let e2 = rw x at e in
        let y = index_replicate {A = Option State} n at None in absurd (cc)
  ]

  pub first_known : 0 < n → state_at Alone 0 ≡ Some o
  first_known l = index_same (replicate n None) 0 (Some o) None (let k = replicate_length {A = Option State} n None in omega arith)

-- ---- where states come from

abbrev IsAt : (ℕ → Type 0) → Option ℕ → Type 0
IsAt P None = Unit {0}
IsAt P (Some to) = P to

pub record Within (P : ℕ → Type 0) (states : States) : Type 0 where
  pub each : (at : ℕ) (s : State) → state_at states at ≡ Some s → P at

module _ (program : Program) (P : ℕ → Type 0) where
  lead_within : (states : States) (to : Option ℕ) (s : State) → Within P states → IsAt P to → Within P (lead program s states to)
  unfolding lead
  lead_within states None s w p = w
  lead_within states (Some to) s w p = record {
    each = λ at u e. elim (test_eq at to) [
      | inl t ↦ rw t.1 p
      | inr t ↦ w.each at u (sym (index_other states at to (Some (joined program (state_at states to) s)) None t.1) ∙ e)
    ];
  }

  pub lead_all_within : (states : States) (tos : List (Option ℕ)) (s : State) → Within P states → All (IsAt P) tos → Within P (lead_all program s states tos)
  unfolding lead_all
  lead_all_within states [] s w p = w
  lead_all_within states (to ∷ tos) s w p = lead_all_within (lead program s states to) tos s (lead_within states to s w (All-head (IsAt P) to tos p)) (All-tail (IsAt P) to tos p)

  pub catch_all_within : (states : States) (catches : List Catch) (s : State) → Within P states → All (λ (catch : Catch). P catch.at) catches → Within P (catch_all program s states catches)
  unfolding catch_all
  catch_all_within states [] s w p = w
  catch_all_within states (catch ∷ catches) s w p =
      let Q = λ (c : Catch). P c.at in
      catch_all_within (lead program (handler_state program s catch) states (Some catch.at)) catches s (lead_within states (Some catch.at) (handler_state program s catch) w (All-head Q catch catches p)) (All-tail Q catch catches p)

-- ---- on the way

module _ (body : Body) (order : StatesOrder body.program) (joins : StateJoinIsLeast body.program) where
  abbrev From : States → States → Type 0
  From states new = Step body.program order joins (width_of body) states new

  pub record Shape (states : States) : Type 0 where
    pub long : length states ≡ units_of body.code
    pub wide : AreWide (width_of body) states

  pub tried_step : (states : States) (at : ℕ) (placed : Placed) (s : State) → AreWide (width_of body) states → length s.registers ≡ width_of body → From states (tried body states at placed s)
  unfolding tried
  tried_step states at placed s wide e =
      let given = after body.program at s placed.insn in
      let f = catch_all_step body.program order joins (width_of body) states (handlers body.code placed) s wide e in
      let mid = catch_all body.program s states (handlers body.code placed) in
      step_further body.program order joins (width_of body) states mid (lead_all body.program given mid (successors body.code placed)) f
      (lead_all_step body.program order joins (width_of body) mid (successors body.code placed) given f.wide (after_keeps body.program at s placed.insn ∙ e))

  opening_shape : Shape (opening_states body)
  unfolding opening_states width_of
  opening_shape =
      let n = units_of body.code in
      let o = opening body.program body.method body.code in
      record {
        long = set_length (replicate n None) 0 (Some o) ∙ replicate_length {A = Option State} n None;
        wide = record { each = λ at s e. ap (λ (z : State). length z.registers) (only_first n o at s e).1 };
      }

  pub shape_after : {k : ℕ} {states : States} {due : Due} → After body k states due → Shape states
  shape_after opens = opening_shape
  shape_after (passes {at = at} {states = states} {s = s} a t kept d) =
      let h = shape_after a in
      let f = tried_step states at kept.placed s h.wide (h.wide.each at s t.known) in
      record { long = f.long ∙ h.long; wide = f.wide }

  module _ (closed : IsClosed body) where
    pub record Settled (states : States) (due : Due) : Type 0 where
      pub opening : Leads body.program (state_at states) (Some 0) (opening body.program body.method body.code)
      pub fine : (at : ℕ) (s : State) → state_at states at ≡ Some s → due at ≡ false → IsFine body (state_at states) at s
      pub reached : Within (Reaches body.code) states
      pub has : (at : ℕ) → due at ≡ true → (s : State) × (state_at states at ≡ Some s)

    opening_settled : Settled (opening_states body) opening_due
    unfolding opening_states opening_due
    opening_settled =
        let n = units_of body.code in
        let o = opening body.program body.method body.code in
        let known = first_known n o (inside body closed 0 first) in
        record {
          opening = (o, known, order.reflexive o);
          fine = λ at s e d. let f = only_first n o at s e in let t = test_eq at 0 in elim t [ inl u ↦ let g = u.0 in absurd (cc) | inr u ↦ absurd (u.1 f.0) ];
          reached = record { each = λ at s e. let f = only_first n o at s e in rw f.0 first };
          has = λ at d. elim (test_eq at 0) [ inl u ↦ (o, rw u.1 known) | inr u ↦ let g = u.0 in absurd (cc) ];
        }

    come_at : (to : Option ℕ) → Comes body.code to → IsAt (Reaches body.code) to
    come_at None h = tt
    come_at (Some to) h = h

    come_inside : (states : States) → length states ≡ units_of body.code → (to : Option ℕ) → Comes body.code to → IsInside (length states) to
    come_inside states e None h = h
    come_inside states e (Some to) h = rw e (inside body closed to h)

    -- a try leads to its successors and handlers
    pub record Goes (states : States) (at : ℕ) (placed : Placed) (s : State) : Type 0 where
      pub leads : All (λ to. Leads body.program (state_at (tried body states at placed s)) to (after body.program at s placed.insn)) (successors body.code placed)
      pub handled : All (λ (catch : Catch). Leads body.program (state_at (tried body states at placed s)) (Some catch.at) (handler_state body.program s catch)) (handlers body.code placed)
      pub reached : Within (Reaches body.code) (tried body states at placed s)

    goes : (states : States) (at : ℕ) (placed : Placed) (s : State) → Shape states → Within (Reaches body.code) states → state_at states at ≡ Some s → placed_at body.code at ≡ Some placed → Goes states at placed s
    unfolding tried
    goes states at placed s h w e stands =
        let given = after body.program at s placed.insn in
        let tos = successors body.code placed in
        let catches = handlers body.code placed in
        let r = w.each at s e in
        let es = h.wide.each at s e in
        let eg = after_keeps body.program at s placed.insn ∙ es in
        let come = successors_come body closed at placed r stands in
        let caught = handlers_come body closed at placed r stands in
        let mid = catch_all body.program s states catches in
        let last = lead_all body.program given mid tos in
        let f = catch_all_step body.program order joins (width_of body) states catches s h.wide es in
        let g = lead_all_step body.program order joins (width_of body) mid tos given f.wide eg in
        let there = catch_all_there body.program order joins (width_of body) states catches s h.wide es (λ k d l. rw h.long (inside body closed (slice_index_or catches k d).at (caught k d l))) in
        record {
          leads = lead_all_there body.program order joins (width_of body) mid tos given f.wide eg (λ k d l. come_inside mid (f.long ∙ h.long) (slice_index_or tos k d) (come k d l));
          handled = λ k d l. let c = slice_index_or catches k d in leads_grow body.program order joins (state_at mid) (state_at last) (Some c.at) (handler_state body.program s c) g.grows (there k d l);
          reached = lead_all_within body.program (Reaches body.code) mid tos given (catch_all_within body.program (Reaches body.code) states catches s w caught) (λ k d l. come_at (slice_index_or tos k d) (come k d l));
        }

    fine_grows : (t u : Typing) (at : ℕ) (s : State) → GrowsTo body.program t u → IsFine body t at s → IsFine body u at s
    fine_grows t u at s g f = record {
      placed = f.placed;
      stands = f.stands;
      accepts = f.accepts;
      taken = f.taken;
      leads = λ k d l. leads_grow body.program order joins t u (slice_index_or (successors body.code f.placed) k d) (after body.program at s f.placed.insn) g (f.leads k d l);
      handled = λ k d l. leads_grow body.program order joins t u (Some (slice_index_or (handlers body.code f.placed) k d).at) (handler_state body.program s (slice_index_or (handlers body.code f.placed) k d)) g (f.handled k d l);
    }

    changed_has : (old new : States) (at : ℕ) → GrowsTo body.program (state_at old) (state_at new) → state_at new at ≢ state_at old at → (o n : Option State) → state_at old at ≡ o → state_at new at ≡ n → (s : State) × (state_at new at ≡ Some s)
    changed_has old new at g ne o (Some s) eo en = (s, en)
    changed_has old new at g ne None None eo en = absurd (ne (en ∙ sym eo))
    changed_has old new at g ne (Some u) None eo en = let l = g.each at u eo in (l.0, l.1)

    settled_next : (states : States) (due later : Due) (at : ℕ) (s : State) → Shape states → Tries body states due at s → (kept : Passes body at s) → DueAfter states (tried body states at kept.placed s) due at later → Settled states due → Settled (tried body states at kept.placed s) later
    settled_next states due later at s h t kept d set =
        let new = tried body states at kept.placed s in
        let step = tried_step states at kept.placed s h.wide (h.wide.each at s t.known) in
        let go = goes states at kept.placed s h set.reached t.known kept.stands in
        record {
          opening = leads_grow body.program order joins (state_at states) (state_at new) (Some 0) (opening body.program body.method body.code) step.grows set.opening;
          fine = λ other u e n.
              let m = not_due (d other) n in
              let old = sym m.0 ∙ e in
              elim (test_eq other at) [
                | inl x ↦
                    let k = t.known in
                    let old2 = rw x.1 at old in
                    let same : s ≡ u = cc in
                    rw (x.1, ← same) (record { placed = kept.placed; stands = kept.stands; accepts = kept.accepts; taken = kept.taken; leads = go.leads; handled = go.handled })
                | inr x ↦
                    let was = rw (x.0, and_not_false (due other)) at m.1 in
                    fine_grows (state_at states) (state_at new) other u step.grows (set.fine other u old was)
              ];
          reached = go.reached;
          has = λ other n. elim (is_due (d other) n) [
            | inl x ↦ let y = set.has other (was_due (due other) (other == at) x.1) in (y.0, x.0 ∙ y.1)
            | inr ne ↦ changed_has states new other step.grows ne (state_at states other) (state_at new other) refl refl
          ];
        }

    pub settled_after : {k : ℕ} {states : States} {due : Due} → After body k states due → Settled states due
    settled_after opens = opening_settled
    settled_after (passes {at = at} {states = states} {due = due} {later = later} {s = s} a t kept d) = settled_next states due later at s (shape_after a) t kept d (settled_after a)

    pub fits_after : (k : ℕ) (states : States) (due : Due) → After body k states due → Fits body states due
    fits_after k states due a =
        let h = shape_after a in
        let set = settled_after a in
        record { long = h.long; wide = h.wide.each; has = set.has; reached = set.reached.each }

    pub ends_typed : (states : States) → EndsWith body states → IsTyping body (state_at states)
    ends_typed states e =
        let set = settled_after e.after in
        record { opens = set.opening; fine = λ at s k. set.fine at s k (e.none at) }

pub find_typings : StatesAreOrdered → StateJoins → FindTypings
find_typings orders least body hierarchy closed =
    let order = orders body.program hierarchy in
    let joins = least body.program hierarchy in
    record { fits = fits_after body order joins closed; typing = ends_typed body order joins closed }
