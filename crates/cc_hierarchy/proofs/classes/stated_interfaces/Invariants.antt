use Rattle.std.proofs.Common.{map, take}
use Rattle.cc_meaning_program.specs.Named.{type_name}
use Rattle.cc_meaning_program.specs.Outlines.{AreNumbersOf}
use Rattle.cc_hierarchy.proofs.classes.stated_interfaces.Given as goal

abbrev pub invariant-loop-row : goal.invariant-loop-row
invariant-loop-row l = AreNumbersOf l.sources.names.now (map (type_name l.sources.ids.now) (take l.row-index l.row-items)) l.interfaces
