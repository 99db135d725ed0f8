-- A typing covers the states on the way.
use Rattle.std.proofs.Common.{◌≡◌, inl, inr, ℕ, List, [], ◌∷◌, length, Option, Some, None, refl, sym, ◌∙◌, subst, slice_index_or}
use Rattle.std.specs.Prelude.{All}
use Rattle.std.proofs.lemmas.List.Elements.{All-head, All-tail}
use Rattle.cc_meaning.specs.declared.program.Catch.{Catch}
use Rattle.cc_meaning.specs.declared.program.Placed.{Placed}
use Rattle.cc_meaning_typing.specs.declared.state.State.{State}
use Rattle.cc_meaning_typing.specs.States.{StateCovers, opening}
use Rattle.cc_meaning_typing.specs.Code.{Body, successors, handlers}
use Rattle.cc_meaning_typing.specs.Rules.{after, handler_state}
use Rattle.cc_meaning_typing.specs.Typing.{Typing, Leads, IsTyping}
use Rattle.cc_meaning_typing.specs.Laws.{StatesOrder, StateJoinIsLeast, RulesAreMonotone, StatesAreOrdered, StateJoins, MonotoneRules}
use Rattle.cc_meaning_typing.specs.Tries.{units_of, States, state_at, joined, lead, lead_all, catch_all, tried, opening_states, Due, Passes, After, opens, passes, BreaksAt}
use Rattle.cc_meaning_typing.specs.VerifyLaws.{CoverTries}
use Rattle.cc_meaning_typing.proofs.Reading.{test_eq, test_lt, set_outside, index_same, index_other}
use Rattle.cc_meaning_typing.proofs.Growing.{GrowsTo, leads_less}
use Rattle.cc_meaning_typing.proofs.Typings.{only_first}

module _ (body : Body) (order : StatesOrder body.program) (joins : StateJoinIsLeast body.program) (rules : RulesAreMonotone body) (typing : Typing) (t : IsTyping body typing) where
  -- the typing covers these states
  abbrev Under : States → Type 0
  Under states = GrowsTo body.program (state_at states) typing

  abbrev LeadsAt : Option ℕ → State → Type 0
  LeadsAt to s = Leads body.program typing to s

  joined_under : (to : ℕ) (known : Option State) (s : State) → ((u : State) → known ≡ Some u → LeadsAt (Some to) u) → LeadsAt (Some to) s → LeadsAt (Some to) (joined body.program known s)
  unfolding joined
  joined_under to None s h l = l
  joined_under to (Some k) s h l =
      let m = h k refl in
      let em = m.1 in
      let el = l.1 in
      let same : m.0 ≡ l.0 = cc in
      (l.0, l.1, joins.least k s l.0 (subst (λ z. StateCovers body.program z k) same m.2) l.2)

  lead_under : (states : States) (to : Option ℕ) (s : State) → Under states → LeadsAt to s → Under (lead body.program s states to)
  unfolding lead
  lead_under states None s g l = g
  lead_under states (Some to) s g l =
      let w = joined body.program (state_at states to) s in
      elim (test_lt to (length states)) [
        | inl h ↦ record {
          each = λ at u e. elim (test_eq at to) [
            | inl x ↦
                let e2 = rw x.1 at e in
                let y = index_same states to (Some w) None h.1 in
                let z : w ≡ u = cc in
                rw (x.1, ← z) (joined_under to (state_at states to) s (g.each to) l)
            | inr x ↦ g.each at u (sym (index_other states at to (Some w) None x.1) ∙ e)
          ];
        }
        | inr h ↦ rw (set_outside states to (Some w) h.1) g
      ]

  lead_all_under : (states : States) (tos : List (Option ℕ)) (s : State) → Under states → All (λ to. LeadsAt to s) tos → Under (lead_all body.program s states tos)
  unfolding lead_all
  lead_all_under states [] s g l = g
  lead_all_under states (to ∷ tos) s g l =
      let P = λ (there : Option ℕ). LeadsAt there s in
      lead_all_under (lead body.program s states to) tos s (lead_under states to s g (All-head P to tos l)) (All-tail P to tos l)

  catch_all_under : (states : States) (catches : List Catch) (s : State) → Under states → All (λ (catch : Catch). LeadsAt (Some catch.at) (handler_state body.program s catch)) catches → Under (catch_all body.program s states catches)
  unfolding catch_all
  catch_all_under states [] s g l = g
  catch_all_under states (catch ∷ catches) s g l =
      let P = λ (c : Catch). LeadsAt (Some c.at) (handler_state body.program s c) in
      catch_all_under (lead body.program (handler_state body.program s catch) states (Some catch.at)) catches s (lead_under states (Some catch.at) (handler_state body.program s catch) g (All-head P catch catches l)) (All-tail P catch catches l)

  -- at a state that the typing covers its rule is kept
  rule_kept : (at : ℕ) (s : State) → LeadsAt (Some at) s → Passes body at s
  rule_kept at s l =
      let f = t.fine at l.0 l.1 in
      record { placed = f.placed; stands = f.stands; accepts = rules.accepts at f.placed.insn l.0 s l.2 f.accepts; taken = f.taken }

  tried_under : (states : States) (at : ℕ) (s : State) → Under states → LeadsAt (Some at) s → (kept : Passes body at s) → Under (tried body states at kept.placed s)
  unfolding tried
  tried_under states at s g l kept =
      let f = t.fine at l.0 l.1 in
      let a = f.stands in
      let b = kept.stands in
      let same : f.placed ≡ kept.placed = cc in
      let given = after body.program at s f.placed.insn in
      let tos = successors body.code f.placed in
      let catches = handlers body.code f.placed in
      let mid = catch_all body.program s states catches in
      let caught : Under mid =
      catch_all_under states catches s g (λ k d h. let c = slice_index_or catches k d in leads_less body.program order joins typing (Some c.at) (handler_state body.program l.0 c) (handler_state body.program s c) (rules.handled c l.0 s l.2) (f.handled k d h)) in
      let under : Under (lead_all body.program given mid tos) =
      lead_all_under mid tos given caught (λ k d h. leads_less body.program order joins typing (slice_index_or tos k d) (after body.program at l.0 f.placed.insn) given (rules.gives at f.placed.insn l.0 s l.2 f.accepts) (f.leads k d h)) in
      subst (λ (p : Placed). Under (lead_all body.program (after body.program at s p.insn) (catch_all body.program s states (handlers body.code p)) (successors body.code p))) same under

  pub under_after : {n : ℕ} {states : States} {due : Due} → After body n states due → Under states
  unfolding opening_states
  under_after opens = record {
    each = λ at s e. let f = only_first (units_of body.code) (opening body.program body.method body.code) at s e in rw (f.0, f.1) t.opens;
  }
  under_after (passes {at = at} {states = states} {s = s} a x kept d) = let g = under_after a in tried_under states at s g (g.each at s x.known) kept

  pub never_breaks : (at : ℕ) → BreaksAt body at → ⊥
  never_breaks at b = b.broken (rule_kept at b.state ((under_after b.after).each at b.state b.next.known))

pub cover_tries : StatesAreOrdered → StateJoins → MonotoneRules → CoverTries
cover_tries orders least monotone body hierarchy =
    let order = orders body.program hierarchy in
    let joins = least body.program hierarchy in
    let rules = monotone body hierarchy in
    record {
      covers = λ typing n states due t a. (under_after body order joins rules typing t a).each;
      keeps = λ at b x. never_breaks body order joins rules x.0 x.1 at b;
    }
