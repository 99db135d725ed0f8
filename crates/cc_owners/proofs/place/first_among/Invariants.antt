use Rattle.std.proofs.Common.{ℕ, List, take}
use Rattle.cc_meaning_program.specs.Searches.{NoneOf}
use Rattle.cc_meaning_program.specs.Outlines.{AreNumbersOf}
use Rattle.cc_owners.specs.Known.{Has}
use Rattle.cc_owners.proofs.place.first_among.Given as goal

abbrev pub invariant-loop-class : goal.invariant-loop-class
invariant-loop-class l = (order : List (List ℕ)) → AreNumbersOf l.linked.names.now order l.classes → NoneOf (Has l.linked l.row) (take l.class-index order)
