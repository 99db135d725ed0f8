use Rattle.std.proofs.Common.{◌≡◌, map, take, Some}
use Rattle.std.specs.Prelude.{slice_get}
use Rattle.cc_meaning.specs.declared.program.DexType.{DexType}
use Rattle.cc_members.proofs.making_methods.linked_types.Given as goal

abbrev pub invariant-loop-row : goal.invariant-loop-row
invariant-loop-row l = map (λ (ty : DexType). Some (Some ty)) l.linked ≡ map (slice_get l.types) (take l.row-index l.rows)
