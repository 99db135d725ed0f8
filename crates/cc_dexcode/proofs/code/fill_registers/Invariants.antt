use Rattle.std.proofs.Common.{◌≡◌, ◌+◌, take}
use Rattle.std.specs.List.{sum_by}
use Rattle.cc_meaning_dex.specs.CodeItems.{type_width}
use Rattle.cc_dexcode.proofs.code.fill_registers.Given as goal

abbrev pub invariant-loop-row : goal.invariant-loop-row
invariant-loop-row l = l.registers ≡ sum_by (type_width l.ids) (take l.row-index l.params) + l.left
