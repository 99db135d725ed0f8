use Rattle.std.proofs.Common.{ℕ, List, take}
use Rattle.cc_meaning_program.specs.Searches.{NoneOf}
use Rattle.cc_meaning_program.specs.Outlines.{AreNumbersOf}
use Rattle.cc_owners.specs.Beyond.{Listed}
use Rattle.cc_owners.proofs.beyond.first_listed.Given as goal

abbrev pub invariant-loop-class : goal.invariant-loop-class
invariant-loop-class l = (order : List (List ℕ)) → AreNumbersOf l.linked.names.now order l.classes → NoneOf (Listed l.linked.ids.now l.member) (take l.class-index order)
