use Rattle.std.specs.Option.{option_copied}
use Rattle.cc_program.specs.Mains.{NoMainBefore}
use Rattle.cc_program.proofs.main_class.find_main.Given as goal

abbrev pub invariant-loop-definition : goal.invariant-loop-definition
invariant-loop-definition l = NoMainBefore l.ids l.classes (option_copied l.asked) l.definition
