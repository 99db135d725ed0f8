use Rattle.std.proofs.Common.{◌≡◌, ◌+◌, drop}
use Rattle.cc_meaning_plain.specs.Program.{before_main}
use Rattle.cc_wire.proofs.numbers.before_main.Given as goal

-- what was counted, and those to be counted, are the whole
abbrev pub invariant-loop-function : goal.invariant-loop-function
invariant-loop-function l = record {
  all : l.count + before_main (drop l.function-index l.functions) ≡ before_main l.functions;
  each : l.count ≡ l.function-index;
}
