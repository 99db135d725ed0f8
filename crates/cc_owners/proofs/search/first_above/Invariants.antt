use Rattle.std.proofs.Common.{◌≡◌, ◌+◌, ℕ, List, length}
use Rattle.cc_meaning_program.specs.Outlines.{AreNumbersOf}
use Rattle.cc_owners.specs.Entered.{OnlyMarked}
use Rattle.cc_owners.proofs.Searching.{Searches, unentered}
use Rattle.cc_owners.proofs.search.first_above.Given as goal

abbrev pub invariant-loop-class : goal.invariant-loop-class
invariant-loop-class l = record {
  wide : length l.marks ≡ length l.linked.names.now;
  marked : OnlyMarked l.initial.marks l.search l.marks;
  searches : (named : List (List ℕ)) → AreNumbersOf l.linked.names.now named l.classes → Searches l.linked l.row named l.marks l.search l.stack;
}

abbrev pub decreases-loop-class : goal.decreases-loop-class
decreases-loop-class l = unentered l.search l.marks l.linked.outlines.now + length l.stack
