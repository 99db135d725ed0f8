use Rattle.std.proofs.Common.{◌≡◌, ◌+◌, drop, map}
use Rattle.cc_built_in.specs.BuiltInMethods.{methods_before}
use Rattle.cc_built_in.specs.Listed.{table_of}
use Rattle.cc_wire.proofs.numbers.count_before.Given as goal

-- what was counted, and what is to be counted, are the whole
abbrev pub invariant-loop-class : goal.invariant-loop-class
invariant-loop-class l = l.count + methods_before (map table_of (drop l.class-index l.classes)) l.name ≡ methods_before (map table_of l.classes) l.name
