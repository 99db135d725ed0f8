-- The least state that covers two.
use Rattle.std.proofs.Common.{◌≡◌, ◌↔◌, inl, inr, cond, List, [], ◌∷◌, length, refl, sym, subst, arith}
use Rattle.cc_meaning.specs.declared.program.DexType.{DexType}
use Rattle.cc_meaning.specs.declared.program.Program.{Program}
use Rattle.cc_meaning.specs.declared.program.RegType.{RegType}
use Rattle.cc_meaning_typing.specs.declared.state.Pending.{Pending}
use Rattle.cc_meaning_typing.specs.declared.state.Pending.TheVariants.{Nothing, Result, Exception}
use Rattle.cc_meaning_typing.specs.declared.state.State.{State}
use Rattle.cc_meaning_typing.specs.Hierarchy.{IsHierarchy}
use Rattle.cc_meaning_typing.specs.Types.{same as itself, is_same_type}
use Rattle.cc_meaning_typing.specs.States.{PendingCovers, nothing, same_pending, exceptions, AllCover, none, each, StateCovers, join_pending, join_registers, join_states}
use Rattle.cc_meaning_typing.specs.Laws.{StateJoinIsLeast, StateJoins}
use Rattle.cc_meaning_typing.proofs.Least.{test_type}
use Rattle.cc_meaning_typing.proofs.Lattice.{least_is_least, join_covers, join_least}
use Rattle.cc_meaning_typing.proofs.Registers.{states_order}

module _ (program : Program) (hierarchy : IsHierarchy program) where
  abbrev Both : Pending → Pending → Pending → Type 0
  Both c a b = PendingCovers program c a × PendingCovers program c b

  results_cover : (a b : DexType) → Both (cond (is_same_type a b) (Result a) Nothing) (Result a) (Result b)
  results_cover a b = elim (test_type a b) [
    | inl t ↦ rw t.0 (same_pending, subst (λ z. PendingCovers program (Result a) (Result z)) t.1 same_pending)
    | inr t ↦ rw t.0 (nothing, nothing)
  ]

  pending_covers : (a b : Pending) → Both (join_pending program a b) a b
  unfolding join_pending
  pending_covers (Result a) (Result b) = results_cover a b
  pending_covers (Exception a) (Exception b) = let x = least_is_least program hierarchy in (exceptions (x.left a b), exceptions (x.right a b))
  pending_covers a b = (nothing, nothing)

  result_self : (a : DexType) → cond (is_same_type a a) (Result a) Nothing ≡ Result a
  result_self a = elim (test_type a a) [ inl t ↦ rw t.0 refl | inr t ↦ absurd (t.1 refl) ]

  pending_self : (a : Pending) → PendingCovers program a (join_pending program a a)
  unfolding join_pending
  pending_self Nothing = nothing
  pending_self (Result a) = subst (λ z. PendingCovers program (Result a) z) (sym (result_self a)) same_pending
  pending_self (Exception a) = let x = least_is_least program hierarchy in exceptions (x.least a a a itself itself)

  pending_least : {c a b : Pending} → PendingCovers program c a → PendingCovers program c b → PendingCovers program c (join_pending program a b)
  unfolding join_pending
  pending_least nothing g = nothing
  pending_least (same_pending {a = a}) same_pending = pending_self a
  pending_least same_pending nothing = nothing
  pending_least (same_pending {a = Exception t}) (exceptions g) = let x = least_is_least program hierarchy in exceptions (x.least t _ t itself g)
  pending_least (exceptions {above = t} h) same_pending = let x = least_is_least program hierarchy in exceptions (x.least _ t t h itself)
  pending_least (exceptions {above = t} h) (exceptions g) = let x = least_is_least program hierarchy in exceptions (x.least _ _ t h g)

  abbrev Sides : List RegType → List RegType → List RegType → Type 0
  Sides t u s = AllCover program t u × AllCover program t s

  registers_cover : (u s : List RegType) → length u ≡ length s → Sides (join_registers program u s) u s
  unfolding join_registers
  registers_cover [] [] e = (none, none)
  registers_cover [] (a ∷ s) e = absurd (omega arith)
  registers_cover (b ∷ u) [] e = absurd (omega arith)
  registers_cover (b ∷ u) (a ∷ s) e =
      let x = join_covers program hierarchy b a in
      let y = registers_cover u s (omega arith) in
      (each x.0 y.0, each x.1 y.1)

  registers_least : {t u s : List RegType} → AllCover program t u → AllCover program t s → AllCover program t (join_registers program u s)
  unfolding join_registers
  registers_least none none = none
  registers_least (each h g) (each i k) = each (join_least program hierarchy h i) (registers_least g k)

  left : (u s : State) → length u.registers ≡ length s.registers → StateCovers program (join_states program u s) u
  unfolding join_states
  left u s e = record { registers = (registers_cover u.registers s.registers e).0; pending = (pending_covers u.pending s.pending).0 }

  right : (u s : State) → length u.registers ≡ length s.registers → StateCovers program (join_states program u s) s
  unfolding join_states
  right u s e = record { registers = (registers_cover u.registers s.registers e).1; pending = (pending_covers u.pending s.pending).1 }

  least : (u s t : State) → StateCovers program t u → StateCovers program t s → StateCovers program t (join_states program u s)
  unfolding join_states
  least u s t c d = record { registers = registers_least c.registers d.registers; pending = pending_least c.pending d.pending }

  covering : (u s : State) → length u.registers ≡ length s.registers → StateCovers program u s ↔ (join_states program u s ≡ u)
  covering u s e =
      let order = states_order program hierarchy in (
        λ c. order.antisymmetric (join_states program u s) u (left u s e) (least u s u (order.reflexive u) c),
        λ f. subst (λ z. StateCovers program z s) f (right u s e),
      )

  join_is_least : StateJoinIsLeast program
  join_is_least = record { left = left; right = right; least = least; covering = covering }

pub state_joins : StateJoins
state_joins program hierarchy = join_is_least program hierarchy
