-- Targets of a switch, one by one.
use Rattle.std.proofs.Common.{ℕ, ◌<◌, List, ℤ, pos, All, map, None, length, slice_index_or, subst}
use Rattle.std.proofs.lemmas.List.{get_or-map, length-map}
use Rattle.cc_meaning.specs.declared.program.Code.{Code}
use Rattle.cc_meaning_typing.specs.Code.{address}
use Rattle.cc_meaning_typing.specs.WellTyped.{IsTarget}

pub one_of_all : (code : Code) (at : ℕ) (targets : List ℤ) (k : ℕ) → All (IsTarget code) (map (address at) targets) → k < length targets → IsTarget code (address at (slice_index_or targets k (pos 0)))
one_of_all code at targets k all h = subst (λ to. IsTarget code to) (get_or-map (address at) targets k (pos 0) None h) (all k None (rw length-map h))
