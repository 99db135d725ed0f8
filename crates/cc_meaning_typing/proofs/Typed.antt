-- What control reaches is in each typing.
use Rattle.std.proofs.Common.{◌≡◌, ℕ, false, List, Some, refl, sym, subst}
use Rattle.std.specs.Prelude.{All, Contains}
use Rattle.cc_meaning.specs.declared.instruction.Insn.{Insn}
use Rattle.cc_meaning.specs.declared.instruction.Insn.TheVariants as insn
use Rattle.cc_meaning.specs.declared.program.Catch.{Catch}
use Rattle.cc_meaning_typing.specs.declared.state.State.{State}
use Rattle.cc_meaning_typing.specs.Code.{Body, insn_of, insn_at, is_payload, successors, handlers}
use Rattle.cc_meaning_typing.specs.Rules.{Accepts, after, handler_state}
use Rattle.cc_meaning_typing.specs.Typing.{Typing, Leads, IsTyping}
use Rattle.cc_meaning_typing.specs.WellTyped.{IsTarget, Reaches, first, on, caught}
use Rattle.cc_meaning_typing.specs.Laws.{TypedReaches}

no_payload : (body : Body) (at : ℕ) (s : State) (i : Insn) → Accepts body at s i → is_payload i ≡ false
unfolding is_payload
no_payload body at s (insn.PackedPayload key targets) h = absurd h
no_payload body at s (insn.SparsePayload keys targets) h = absurd h
no_payload body at s (insn.ArrayPayload width bytes) h = absurd h
no_payload body at s i h = refl

all_contains : {X : Type 0} (P : X → Type 0) (xs : List X) (x : X) → All P xs → Contains xs x → P x
all_contains P xs x h c = subst P c.2 (h c.0 x c.1)

module _ (body : Body) (typing : Typing) (t : IsTyping body typing) where
  abbrev In : ℕ → Type 0
  In at = (s : State) × (typing at ≡ Some s)

  reached_in : {at : ℕ} → Reaches body.code at → In at
  reached_in first = (t.opens.0, t.opens.1)
  reached_in (on {at = at} {to = to} {placed = placed} r e c) =
      let x = reached_in r in
      let f = t.fine at x.0 x.1 in
      let g = f.stands in
      let p : f.placed ≡ placed = cc in
      let c2 : Contains (successors body.code f.placed) (Some to) = subst (λ z. Contains (successors body.code z) (Some to)) (sym p) c in
      let l = all_contains (λ to2. Leads body.program typing to2 (after body.program at x.0 f.placed.insn)) (successors body.code f.placed) (Some to) f.leads c2 in
      (l.0, l.1)
  reached_in (caught {at = at} {placed = placed} {catch = catch} r e c) =
      let x = reached_in r in
      let f = t.fine at x.0 x.1 in
      let g = f.stands in
      let p : f.placed ≡ placed = cc in
      let c2 : Contains (handlers body.code f.placed) catch = subst (λ z. Contains (handlers body.code z) catch) (sym p) c in
      let l = all_contains (λ (k : Catch). Leads body.program typing (Some k.at) (handler_state body.program x.0 k)) (handlers body.code f.placed) catch f.handled c2 in
      (l.0, l.1)

  reached_stands : (at : ℕ) → Reaches body.code at → IsTarget body.code (Some at)
  unfolding insn_at insn_of
  reached_stands at r =
      let x = reached_in r in
      let f = t.fine at x.0 x.1 in
      rw f.stands (no_payload body at x.0 f.placed.insn f.accepts)

pub typed_reaches : TypedReaches
typed_reaches body typed at r = reached_stands body typed.0 typed.1 at r
