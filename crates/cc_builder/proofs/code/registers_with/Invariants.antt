use Rattle.std.proofs.Common.{◌≡◌, ◌+◌, ◌<◌, ◌^◌, take}
use Rattle.std.specs.List.{sum_by}
use Rattle.cc_meaning_dex.specs.CodeItems.{type_width}
use Rattle.cc_builder.proofs.code.registers_with.Given as goal

abbrev pub invariant-loop-row : goal.invariant-loop-row
invariant-loop-row l = l.receiver + sum_by (type_width l.ids) (take l.row-index l.params) < 2 ^ 16 → l.taken ≡ l.receiver + sum_by (type_width l.ids) (take l.row-index l.params)
