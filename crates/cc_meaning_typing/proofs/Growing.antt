-- States grow: later ones cover earlier ones, with as many registers.
use Rattle.std.proofs.Common.{◌≡◌, inl, inr, ℕ, zero, suc, ◌<◌, List, [], ◌∷◌, length, Option, Some, None, refl, sym, ap, ◌∙◌, subst, arith, slice_set}
use Rattle.std.specs.Prelude.{All}
use Rattle.std.proofs.lemmas.List.Elements.{All-nil, All-cons, All-tail, All-head}
use Rattle.cc_meaning.specs.declared.program.Catch.{Catch}
use Rattle.cc_meaning.specs.declared.program.Program.{Program}
use Rattle.cc_meaning.specs.declared.program.RegType.{RegType}
use Rattle.cc_meaning_typing.specs.declared.state.State.{State}
use Rattle.cc_meaning_typing.specs.States.{StateCovers, join_registers, join_states}
use Rattle.cc_meaning_typing.specs.Rules.{handler_state}
use Rattle.cc_meaning_typing.specs.Typing.{Typing, Leads}
use Rattle.cc_meaning_typing.specs.Laws.{StatesOrder, StateJoinIsLeast}
use Rattle.cc_meaning_typing.specs.Tries.{States, state_at, joined, lead, lead_all, catch_all}
use Rattle.cc_meaning_typing.proofs.Reading.{test_eq, test_lt, set_length, set_outside, index_same, index_other}

pub join_length : (program : Program) (n : ℕ) (us ss : List RegType) → length us ≡ n → length ss ≡ n → length (join_registers program us ss) ≡ n
unfolding join_registers
join_length program n [] [] e f = e
join_length program n [] (a ∷ ss) e f = absurd (omega arith)
join_length program n (b ∷ us) [] e f = absurd (omega arith)
join_length program zero (b ∷ us) (a ∷ ss) e f = absurd (omega arith)
join_length program (suc n) (b ∷ us) (a ∷ ss) e f = ap suc (join_length program n us ss (omega arith) (omega arith))

-- each state has so many registers
pub record AreWide (width : ℕ) (states : States) : Type 0 where
  pub each : (at : ℕ) (s : State) → state_at states at ≡ Some s → length s.registers ≡ width

abbrev pub IsInside : ℕ → Option ℕ → Type 0
IsInside n None = ⊥
IsInside n (Some to) = to < n

-- later states cover the earlier ones
pub record GrowsTo (program : Program) (old new : Typing) : Type 0 where
  pub each : (at : ℕ) (s : State) → old at ≡ Some s → Leads program new (Some at) s

module _ (program : Program) (order : StatesOrder program) (joins : StateJoinIsLeast program) where
  pub leads_less : (t : Typing) (to : Option ℕ) (u s : State) → StateCovers program u s → Leads program t to u → Leads program t to s
  leads_less t None u s c l = absurd l
  leads_less t (Some to) u s c l = (l.0, l.1, order.transitive l.0 u s l.2 c)

  pub leads_grow : (t u : Typing) (to : Option ℕ) (s : State) → GrowsTo program t u → Leads program t to s → Leads program u to s
  leads_grow t u None s g l = absurd l
  leads_grow t u (Some to) s g l = leads_less u (Some to) l.0 s l.2 (g.each to l.0 l.1)

  pub grows_same : (t : Typing) → GrowsTo program t t
  grows_same t = record { each = λ at s e. (s, e, order.reflexive s) }

  pub grows_further : (t u v : Typing) → GrowsTo program t u → GrowsTo program u v → GrowsTo program t v
  grows_further t u v g h = record { each = λ at s e. leads_grow u v (Some at) s h (g.each at s e) }

  pub joined_wide : (width : ℕ) (known : Option State) (s : State) → ((u : State) → known ≡ Some u → length u.registers ≡ width) → length s.registers ≡ width → length (joined program known s).registers ≡ width
  unfolding joined join_states
  joined_wide width None s w e = e
  joined_wide width (Some u) s w e = join_length program width u.registers s.registers (w u refl) e

  pub joined_covers : (width : ℕ) (known : Option State) (s : State) → ((u : State) → known ≡ Some u → length u.registers ≡ width) → length s.registers ≡ width → StateCovers program (joined program known s) s × ((u : State) → known ≡ Some u → StateCovers program (joined program known s) u)
  unfolding joined
  joined_covers width None s w e = (order.reflexive s, λ u f. absurd (cc))
  joined_covers width (Some k) s w e =
      let even = w k refl ∙ sym e in
      (joins.right k s even, λ u f. let g : k ≡ u = cc in subst (λ z. StateCovers program (join_states program k s) z) g (joins.left k s even))

  -- what leading there does
  pub record Step (width : ℕ) (states new : States) : Type 0 where
    pub long : length new ≡ length states
    pub wide : AreWide width new
    pub grows : GrowsTo program (state_at states) (state_at new)

  pub step_same : (width : ℕ) (states : States) → AreWide width states → Step width states states
  step_same width states wide = record { long = refl; wide = wide; grows = grows_same (state_at states) }

  pub step_further : (width : ℕ) (a b c : States) → Step width a b → Step width b c → Step width a c
  step_further width a b c f g = record { long = g.long ∙ f.long; wide = g.wide; grows = grows_further (state_at a) (state_at b) (state_at c) f.grows g.grows }

  pub put_wide : (width : ℕ) (states : States) (to : ℕ) (w : State) → AreWide width states → length w.registers ≡ width → to < length states → AreWide width (slice_set states to (Some w))
  put_wide width states to w wide e inside = record {
    each = λ at s f. elim (test_eq at to) [
      | inl t ↦ let f2 = rw t.1 at f in let x = index_same states to (Some w) None inside in let y : w ≡ s = cc in rw (← y) e
      | inr t ↦ wide.each at s (sym (index_other states at to (Some w) None t.1) ∙ f)
    ];
  }

  pub put_grows : (states : States) (to : ℕ) (w : State) → to < length states → ((u : State) → state_at states to ≡ Some u → StateCovers program w u) → GrowsTo program (state_at states) (state_at (slice_set states to (Some w)))
  put_grows states to w inside c = record {
    each = λ at s f. elim (test_eq at to) [
      | inl t ↦ (w, rw t.1 (index_same states to (Some w) None inside), c s (rw t.1 at f))
      | inr t ↦ (s, index_other states at to (Some w) None t.1 ∙ f, order.reflexive s)
    ];
  }

  put_step : (width : ℕ) (states : States) (to : ℕ) (s : State) → AreWide width states → length s.registers ≡ width → to < length states → Step width states (slice_set states to (Some (joined program (state_at states to) s)))
  put_step width states to s wide e inside =
      let w = joined program (state_at states to) s in
      record {
        long = set_length states to (Some w);
        wide = put_wide width states to w wide (joined_wide width (state_at states to) s (wide.each to) e) inside;
        grows = put_grows states to w inside (joined_covers width (state_at states to) s (wide.each to) e).1;
      }

  pub lead_step : (width : ℕ) (states : States) (to : Option ℕ) (s : State) → AreWide width states → length s.registers ≡ width → Step width states (lead program s states to)
  unfolding lead
  lead_step width states None s wide e = step_same width states wide
  lead_step width states (Some to) s wide e = elim (test_lt to (length states)) [
    | inl t ↦ put_step width states to s wide e t.1
    | inr t ↦ rw (set_outside states to (Some (joined program (state_at states to) s)) t.1) (step_same width states wide)
  ]

  lead_there : (width : ℕ) (states : States) (to : Option ℕ) (s : State) → AreWide width states → length s.registers ≡ width → IsInside (length states) to → Leads program (state_at (lead program s states to)) to s
  unfolding lead
  lead_there width states None s wide e inside = absurd inside
  lead_there width states (Some to) s wide e inside = (joined program (state_at states to) s, index_same states to (Some (joined program (state_at states to) s)) None inside, (joined_covers width (state_at states to) s (wide.each to) e).0)

  pub lead_all_step : (width : ℕ) (states : States) (tos : List (Option ℕ)) (s : State) → AreWide width states → length s.registers ≡ width → Step width states (lead_all program s states tos)
  unfolding lead_all
  lead_all_step width states [] s wide e = step_same width states wide
  lead_all_step width states (to ∷ tos) s wide e =
      let f = lead_step width states to s wide e in
      let mid = lead program s states to in
      step_further width states mid (lead_all program s mid tos) f (lead_all_step width mid tos s f.wide e)

  pub lead_all_there : (width : ℕ) (states : States) (tos : List (Option ℕ)) (s : State) → AreWide width states → length s.registers ≡ width → All (IsInside (length states)) tos → All (λ to. Leads program (state_at (lead_all program s states tos)) to s) tos
  unfolding lead_all
  lead_all_there width states [] s wide e inside = All-nil (λ to. Leads program (state_at states) to s)
  lead_all_there width states (to ∷ tos) s wide e inside =
      let f = lead_step width states to s wide e in
      let mid = lead program s states to in
      let last = lead_all program s mid tos in
      let g = lead_all_step width mid tos s f.wide e in
      All-cons (λ there. Leads program (state_at last) there s) to tos
      (leads_grow (state_at mid) (state_at last) to s g.grows (lead_there width states to s wide e (All-head (IsInside (length states)) to tos inside)))
      (lead_all_there width mid tos s f.wide e (subst (λ n. All (IsInside n) tos) (sym f.long) (All-tail (IsInside (length states)) to tos inside)))

  pub catch_all_step : (width : ℕ) (states : States) (catches : List Catch) (s : State) → AreWide width states → length s.registers ≡ width → Step width states (catch_all program s states catches)
  unfolding catch_all handler_state
  catch_all_step width states [] s wide e = step_same width states wide
  catch_all_step width states (catch ∷ catches) s wide e =
      let f = lead_step width states (Some catch.at) (handler_state program s catch) wide e in
      let mid = lead program (handler_state program s catch) states (Some catch.at) in
      step_further width states mid (catch_all program s mid catches) f (catch_all_step width mid catches s f.wide e)

  pub catch_all_there : (width : ℕ) (states : States) (catches : List Catch) (s : State) → AreWide width states → length s.registers ≡ width → All (λ (catch : Catch). catch.at < length states) catches → All (λ (catch : Catch). Leads program (state_at (catch_all program s states catches)) (Some catch.at) (handler_state program s catch)) catches
  unfolding catch_all handler_state
  catch_all_there width states [] s wide e inside = All-nil (λ (catch : Catch). Leads program (state_at states) (Some catch.at) (handler_state program s catch))
  catch_all_there width states (catch ∷ catches) s wide e inside =
      let begin = handler_state program s catch in
      let f = lead_step width states (Some catch.at) begin wide e in
      let mid = lead program begin states (Some catch.at) in
      let last = catch_all program s mid catches in
      let g = catch_all_step width mid catches s f.wide e in
      All-cons (λ (c : Catch). Leads program (state_at last) (Some c.at) (handler_state program s c)) catch catches
      (leads_grow (state_at mid) (state_at last) (Some catch.at) begin g.grows (lead_there width states (Some catch.at) begin wide e (All-head (λ (c : Catch). c.at < length states) catch catches inside)))
      (catch_all_there width mid catches s f.wide e (subst (λ n. All (λ (c : Catch). c.at < n) catches) (sym f.long) (All-tail (λ (c : Catch). c.at < length states) catch catches inside)))
