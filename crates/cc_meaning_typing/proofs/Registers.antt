-- Reading and writing of registers respects covering.
use Rattle.std.proofs.Common.{◌≡◌, ℕ, zero, suc, List, [], ◌∷◌, map, refl, ap, ◌∙◌, slice_set}
use Rattle.cc_meaning.specs.declared.program.DexType.{DexType}
use Rattle.cc_meaning.specs.declared.program.Program.{Program}
use Rattle.cc_meaning.specs.declared.program.RegType.{RegType}
use Rattle.cc_meaning_typing.specs.declared.state.Pending.{Pending}
use Rattle.cc_meaning_typing.specs.declared.state.Pending.TheVariants.{Exception}
use Rattle.cc_meaning_typing.specs.declared.state.State.{State}
use Rattle.cc_meaning_typing.specs.Hierarchy.{IsHierarchy}
use Rattle.cc_meaning_typing.specs.Registers.{Covers, unset, same, zero_int, zero_reference, references}
use Rattle.cc_meaning_typing.specs.States.{PendingCovers, nothing, same_pending, exceptions, AllCover, none, each, register_at, without_low, without_high, clear_behind, clear_before, write, write_long, without_fresh, forget_fresh, constructed, construct}
use Rattle.cc_meaning_typing.specs.Laws.{StatesOrder, StatesAreOrdered}
use Rattle.cc_meaning_typing.proofs.Lattice.{below_trans, below_anti, covers_trans, covers_anti}

module _ (program : Program) where
  abbrev Cover : List RegType → List RegType → Type 0
  Cover = AllCover program

  pub cover_at : {u s : List RegType} (r : ℕ) → Cover u s → Covers program (register_at u r) (register_at s r)
  cover_at r none = unset
  cover_at zero (each h g) = h
  cover_at (suc r) (each h g) = cover_at r g

  pub cover_set : {u s : List RegType} {b a : RegType} (r : ℕ) → Cover u s → Covers program b a → Cover (slice_set u r b) (slice_set s r a)
  cover_set r none h = none
  cover_set zero (each g c) h = each h c
  cover_set (suc r) (each g c) h = each g (cover_set r c h)

  pub cover_map : (f : RegType → RegType) → ((b a : RegType) → Covers program b a → Covers program (f b) (f a)) → {u s : List RegType} → Cover u s → Cover (map f u) (map f s)
  cover_map f h none = none
  cover_map f h (each g c) = each (h _ _ g) (cover_map f h c)

  low_covers : {b a : RegType} → Covers program b a → Covers program (without_low b) (without_low a)
  unfolding without_low
  low_covers unset = unset
  low_covers same = same
  low_covers zero_int = zero_int
  low_covers zero_reference = zero_reference
  low_covers (references h) = references h

  high_covers : {b a : RegType} → Covers program b a → Covers program (without_high b) (without_high a)
  unfolding without_high
  high_covers unset = unset
  high_covers same = same
  high_covers zero_int = zero_int
  high_covers zero_reference = zero_reference
  high_covers (references h) = references h

  clear_behind_covers : {u s : List RegType} (r : ℕ) → Cover u s → Cover (clear_behind u r) (clear_behind s r)
  unfolding clear_behind
  clear_behind_covers r c = cover_set (suc r) c (high_covers (cover_at (suc r) c))

  clear_before_covers : {u s : List RegType} (r : ℕ) → Cover u s → Cover (clear_before u r) (clear_before s r)
  unfolding clear_before
  clear_before_covers zero c = c
  clear_before_covers (suc r) c = cover_set r c (low_covers (cover_at r c))

  pub write_covers : {u s : List RegType} {b a : RegType} (r : ℕ) → Cover u s → Covers program b a → Cover (write u r b) (write s r a)
  unfolding write
  write_covers r c h = cover_set r (clear_before_covers r (clear_behind_covers r c)) h

  pub write_long_covers : {u s : List RegType} (r : ℕ) → Cover u s → Cover (write_long u r) (write_long s r)
  unfolding write_long
  write_long_covers r c = cover_set (suc r) (cover_set r (clear_before_covers r (clear_behind_covers (suc r) c)) same) same

  fresh_covers : (at : ℕ) {b a : RegType} → Covers program b a → Covers program (without_fresh at b) (without_fresh at a)
  unfolding without_fresh
  fresh_covers at unset = unset
  fresh_covers at same = same
  fresh_covers at zero_int = zero_int
  fresh_covers at zero_reference = zero_reference
  fresh_covers at (references h) = references h

  pub forget_covers : {u s : List RegType} (at : ℕ) → Cover u s → Cover (forget_fresh u at) (forget_fresh s at)
  unfolding forget_fresh
  forget_covers at c = cover_map (without_fresh at) (λ b a. fresh_covers at) c

  constructed_covers : (at : ℕ) (type : DexType) {b a : RegType} → Covers program b a → Covers program (constructed at type b) (constructed at type a)
  unfolding constructed
  constructed_covers at type unset = unset
  constructed_covers at type same = same
  constructed_covers at type zero_int = zero_int
  constructed_covers at type zero_reference = zero_reference
  constructed_covers at type (references h) = references h

  pub construct_covers : {u s : List RegType} (at : ℕ) (type : DexType) → Cover u s → Cover (construct u at type) (construct s at type)
  unfolding construct
  construct_covers at type c = cover_map (constructed at type) (λ b a. constructed_covers at type) c

  pub cover_refl : (s : List RegType) → Cover s s
  cover_refl [] = none
  cover_refl (a ∷ s) = each same (cover_refl s)

  -- ---- the order on states

  module _ (hierarchy : IsHierarchy program) where
    cover_trans : {s t u : List RegType} → Cover s t → Cover t u → Cover s u
    cover_trans none none = none
    cover_trans (each h g) (each i k) = each (covers_trans program hierarchy h i) (cover_trans g k)

    cover_anti : {s t : List RegType} → Cover s t → Cover t s → s ≡ t
    cover_anti none none = refl
    cover_anti (each h g) (each i k) = let e = covers_anti program hierarchy h i in let f = cover_anti g k in cc

    pending_trans : {a b c : Pending} → PendingCovers program a b → PendingCovers program b c → PendingCovers program a c
    pending_trans nothing g = nothing
    pending_trans same_pending g = g
    pending_trans (exceptions h) same_pending = exceptions h
    pending_trans (exceptions h) (exceptions g) = exceptions (below_trans program hierarchy g h)

    pending_anti : {a b : Pending} → PendingCovers program a b → PendingCovers program b a → a ≡ b
    pending_anti nothing nothing = refl
    pending_anti nothing same_pending = refl
    pending_anti same_pending g = refl
    pending_anti (exceptions h) same_pending = refl
    pending_anti (exceptions h) (exceptions g) = ap Exception (below_anti program hierarchy g h)

    pub state_parts : (s t : State) → s.registers ≡ t.registers → s.pending ≡ t.pending → s ≡ t
    state_parts s t e f = ap (λ (z : List RegType). let w : State = record { registers = z; pending = s.pending } in w) e ∙ ap (λ (z : Pending). let w : State = record { registers = t.registers; pending = z } in w) f

    pub states_order : StatesOrder program
    states_order = record {
      reflexive = λ s. record { registers = cover_refl s.registers; pending = same_pending };
      transitive = λ s t u c d. record { registers = cover_trans c.registers d.registers; pending = pending_trans c.pending d.pending };
      antisymmetric = λ s t c d. state_parts s t (cover_anti c.registers d.registers) (pending_anti c.pending d.pending);
    }

pub states_are_ordered : StatesAreOrdered
states_are_ordered program hierarchy = states_order program hierarchy
