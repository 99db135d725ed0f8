-- Leading spreads, and so does spreading twice.
use Rattle.std.proofs.Common.{◌≡◌, ◌≢◌, ℕ, Bool, true, false, length, Option, Some, None, refl, ap, ◌∙◌, subst}
use Rattle.cc_meaning.specs.declared.program.Program.{Program}
use Rattle.cc_meaning_typing.specs.declared.state.State.{State}
use Rattle.cc_meaning_typing.specs.States.{StateCovers}
use Rattle.cc_meaning_typing.specs.Code.{Body}
use Rattle.cc_meaning_typing.specs.Laws.{StatesOrder, StateJoinIsLeast, StatesAreOrdered, StateJoins}
use Rattle.cc_meaning_typing.specs.Tries.{States, state_at, lead, Due, Marks, unchanged, changed}
use Rattle.cc_meaning_typing.specs.Ending.{width_of}
use Rattle.cc_meaning_typing.specs.VerifyLaws.{Spreads, LeadingSpreads, LeadsSpread}
use Rattle.cc_meaning_typing.proofs.Growing.{leads_grow, lead_step}

module _ (program : Program) (order : StatesOrder program) where
  -- what is known in the second place covers what is known in the first
  abbrev Rises : Option State → Option State → Type 0
  Rises o n = (s : State) → o ≡ Some s → (u : State) × (n ≡ Some u) × StateCovers program u s

  changed_twice : (o m n : Option State) → m ≢ o → Rises o m → Rises m n → n ≢ o
  changed_twice None None n ne f g e = ne refl
  changed_twice None (Some u) n ne f g e = let h = g u refl in let k = h.1 in absurd (cc)
  changed_twice (Some s) m n ne f g e =
      let h = f s refl in
      let k = g h.0 h.1 in
      let kn = k.1 in
      let same : k.0 ≡ s = cc in
      let back = subst (λ z. StateCovers program z h.0) same k.2 in
      ne (h.1 ∙ ap Some (order.antisymmetric h.0 s h.2 back))

  kept_marks : (o p : Option State) (d f : Bool) → o ≡ p → d ≡ f → Marks o p d f
  kept_marks o p d f x y = subst (λ z. Marks o z d f) x (subst (λ z. Marks o o d z) y unchanged)

  moved_marks : (o m p : Option State) (d f : Bool) → m ≢ o → m ≡ p → true ≡ f → Marks o p d f
  moved_marks o m p d true ne x y = changed (λ w. ne (x ∙ w))
  moved_marks o m p d false ne x y = absurd (cc)

  marks_further : {o m n p : Option State} {d e f g : Bool} → Marks o m d e → Marks p n f g → m ≡ p → e ≡ f → Rises o m → Rises p n → Marks o n d g
  marks_further (unchanged {known = o} {due = d}) (unchanged {known = p} {due = f}) x y r q = kept_marks o p d f x y
  marks_further unchanged (changed nf) x y r q = changed (λ w. nf (w ∙ x))
  marks_further (changed {known = o} {new = m} {due = d} ne) (unchanged {known = p} {due = f}) x y r q = moved_marks o m p d f ne x y
  marks_further (changed {known = o} {new = m} ne) (changed {known = p} {new = n} nf) x y r q = changed (changed_twice o p n (λ w. ne (x ∙ w)) (subst (λ z. Rises o z) x r) q)

module _ (body : Body) (order : StatesOrder body.program) (joins : StateJoinIsLeast body.program) where
  none_spreads : (states : States) (due : Due) → ((at : ℕ) (s : State) → state_at states at ≡ Some s → length s.registers ≡ width_of body) → Spreads body states states due due
  none_spreads states due wide = record {
    long = refl;
    wide = wide;
    grows = λ at s e. (s, e, order.reflexive s);
    marks = λ at. unchanged;
  }

  once_spreads : (states : States) (due later : Due) (to : Option ℕ) (s : State) → ((at : ℕ) (s : State) → state_at states at ≡ Some s → length s.registers ≡ width_of body) → length s.registers ≡ width_of body → ((at : ℕ) → Marks (state_at states at) (state_at (lead body.program s states to) at) (due at) (later at)) → Spreads body states (lead body.program s states to) due later
  once_spreads states due later to s wide e marks =
      let f = lead_step body.program order joins (width_of body) states to s (record { each = wide }) e in
      record { long = f.long; wide = f.wide.each; grows = f.grows.each; marks = marks }

  further_spreads : (states new last : States) (due later late : Due) → Spreads body states new due later → Spreads body new last later late → Spreads body states last due late
  further_spreads states new last due later late f g = record {
    long = g.long ∙ f.long;
    wide = g.wide;
    grows = λ at s e. leads_grow body.program order joins (state_at new) (state_at last) (Some at) s (record { each = g.grows }) (f.grows at s e);
    marks = λ at. marks_further body.program order (f.marks at) (g.marks at) refl refl (f.grows at) (g.grows at);
  }

  leading_spreads : LeadingSpreads body
  leading_spreads = record { none = none_spreads; once = once_spreads; further = further_spreads }

pub leads_spread : StatesAreOrdered → StateJoins → LeadsSpread
leads_spread orders least body hierarchy = leading_spreads body (orders body.program hierarchy) (least body.program hierarchy)
