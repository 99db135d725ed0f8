-- States that grow come to an end.
use Rattle.std.proofs.Common.{◌≡◌, ◌⊎◌, inl, inr, suc, ◌*◌, ◌<◌, ◌≤◌, List, [], ◌∷◌, length, refl, sym, ap, arith}
use Rattle.std.proofs.Math.Nat.{suc-mul}
use Rattle.cc_meaning.specs.declared.program.Program.{Program}
use Rattle.cc_meaning.specs.declared.program.RegType.{RegType}
use Rattle.cc_meaning.specs.declared.program.RegType.TheVariants.{Unset, Int, Zero, LongLow, LongHigh, Reference, Fresh}
use Rattle.cc_meaning_typing.specs.declared.state.Pending.{Pending}
use Rattle.cc_meaning_typing.specs.declared.state.Pending.TheVariants.{Nothing, Result, Exception}
use Rattle.cc_meaning_typing.specs.declared.state.State.{State}
use Rattle.cc_meaning_typing.specs.Hierarchy.{IsHierarchy}
use Rattle.cc_meaning_typing.specs.Registers.{Covers, unset, same, zero_int, zero_reference, references}
use Rattle.cc_meaning_typing.specs.States.{PendingCovers, nothing, same_pending, exceptions, AllCover, none, each, StateCovers}
use Rattle.cc_meaning_typing.specs.Growth.{most_room, room_of, registers_room, pending_room, state_room, IsNarrowRegister, AreNarrow, IsNarrowPending, IsNarrow, Grows, ends, grows, GrowthEnds}
use Rattle.cc_meaning_typing.specs.Laws.{BoundedGrowth}
use Rattle.cc_meaning_typing.proofs.Tree.{rises_rank}
use Rattle.cc_meaning_typing.proofs.Below.{rises_of}
use Rattle.cc_meaning_typing.proofs.Least.{rank_bound}
use Rattle.cc_meaning_typing.proofs.Registers.{state_parts}

module _ (program : Program) (hierarchy : IsHierarchy program) where
  abbrev Falls : RegType → RegType → Type 0
  Falls b a = (b ≡ a) ⊎ (room_of program b < room_of program a)

  unset_falls : (a : RegType) → Falls Unset a
  unfolding room_of most_room
  unset_falls Unset = inl refl
  unset_falls Int = inr (omega arith)
  unset_falls Zero = inr (omega arith)
  unset_falls LongLow = inr (omega arith)
  unset_falls LongHigh = inr (omega arith)
  unset_falls (Reference type) = inr (omega arith)
  unset_falls (Fresh at) = inr (omega arith)

  register_falls : {b a : RegType} → IsNarrowRegister b → Covers program b a → Falls b a
  unfolding room_of most_room
  register_falls n (unset {a = a}) = unset_falls a
  register_falls n same = inl refl
  register_falls n zero_int = inr (omega arith)
  register_falls n (zero_reference {type = t}) = let h = rank_bound program hierarchy t in inr (omega arith)
  register_falls n (references h) = elim (rises_rank program hierarchy (rises_of program hierarchy h)) [ inl e ↦ inl (ap Reference (sym e)) | inr l ↦ inr (omega arith) ]

  registers_fall : {us ss : List RegType} → AreNarrow us → AllCover program us ss → (us ≡ ss) ⊎ (registers_room program us < registers_room program ss)
  unfolding registers_room
  registers_fall n none = inl refl
  registers_fall n (each {b = b} {a = a} {bs = bs} {as' = as'} h g) = elim (register_falls n.0 h) [
    | inl e ↦ elim (registers_fall n.1 g) [
      | inl f ↦ inl (cc)
      | inr l ↦ let k = ap (room_of program) e in inr (omega arith)
    ]
    | inr l ↦ elim (registers_fall n.1 g) [
      | inl f ↦ let k = ap (registers_room program) f in inr (omega arith)
      | inr m ↦ inr (omega arith)
    ]
  ]

  nothing_falls : (a : Pending) → (Nothing ≡ a) ⊎ (pending_room program Nothing < pending_room program a)
  unfolding pending_room
  nothing_falls Nothing = inl refl
  nothing_falls (Result type) = inr (omega arith)
  nothing_falls (Exception type) = inr (omega arith)

  pending_falls : {b a : Pending} → PendingCovers program b a → (b ≡ a) ⊎ (pending_room program b < pending_room program a)
  unfolding pending_room
  pending_falls (nothing {a = a}) = nothing_falls a
  pending_falls same_pending = inl refl
  pending_falls (exceptions h) = elim (rises_rank program hierarchy (rises_of program hierarchy h)) [ inl e ↦ inl (ap Exception (sym e)) | inr l ↦ inr (omega arith) ]

  state_falls : (u s : State) → IsNarrow u → StateCovers program u s → (u ≡ s) ⊎ (state_room program u < state_room program s)
  unfolding state_room
  state_falls u s n c = elim (registers_fall n.registers c.registers) [
    | inl e ↦ elim (pending_falls c.pending) [
      | inl f ↦ inl (state_parts program hierarchy u s e f)
      | inr l ↦ let k = ap (registers_room program) e in inr (omega arith)
    ]
    | inr l ↦ elim (pending_falls c.pending) [
      | inl f ↦ let k = ap (pending_room program) f in inr (omega arith)
      | inr m ↦ inr (omega arith)
    ]
  ]

  -- ---- the bound

  register_bound : (a : RegType) → IsNarrowRegister a → room_of program a ≤ most_room program
  unfolding room_of most_room
  register_bound Unset n = omega arith
  register_bound Int n = omega arith
  register_bound Zero n = omega arith
  register_bound LongLow n = omega arith
  register_bound LongHigh n = omega arith
  register_bound (Reference type) n = let h = rank_bound program hierarchy type in omega arith
  register_bound (Fresh at) n = omega arith

  pending_bound : (a : Pending) → IsNarrowPending a → pending_room program a ≤ most_room program
  unfolding pending_room most_room
  pending_bound Nothing n = omega arith
  pending_bound (Result type) n = omega arith
  pending_bound (Exception type) n = let h = rank_bound program hierarchy type in omega arith

  registers_bound : (registers : List RegType) → AreNarrow registers → registers_room program registers ≤ length registers * most_room program
  unfolding registers_room
  registers_bound [] n = omega arith
  registers_bound (a ∷ registers) n =
      let h = register_bound a n.0 in
      let g = registers_bound registers n.1 in
      rw (suc-mul (length registers) (most_room program)) (omega arith)

  state_bound : (s : State) → IsNarrow s → state_room program s ≤ suc (length s.registers) * most_room program
  unfolding state_room
  state_bound s n =
      let h = registers_bound s.registers n.registers in
      let g = pending_bound s.pending n.pending in
      rw (suc-mul (length s.registers) (most_room program)) (omega arith)

  chain_bound : {s : State} {states : List State} → Grows program s states → length states ≤ state_room program s
  chain_bound ends = omega arith
  chain_bound {s} (grows {u = u} n c not g) = elim (state_falls u s n c) [
    | inl e ↦ absurd (not e)
    | inr l ↦ let h = chain_bound g in omega arith
  ]

  growth_ends : GrowthEnds program
  growth_ends = record { falls = state_falls; bound = state_bound; chains = λ s states. chain_bound }

pub bounded_growth : BoundedGrowth
bounded_growth program hierarchy = growth_ends program hierarchy
