use Rattle.std.proofs.Common.{◌≡◌, ℕ, List, length, take}
use Rattle.cc_meaning_program.specs.Outlines.{AreNumbersOf}
use Rattle.cc_owners.specs.Entered.{OnlyMarked, AreEntered}
use Rattle.cc_owners.proofs.FieldChains.{Cleared}
use Rattle.cc_owners.proofs.field_chain.first_in_field_order.Given as goal

abbrev pub invariant-loop-class : goal.invariant-loop-class
invariant-loop-class l = record {
  wide : length l.marks ≡ length l.linked.names.now;
  marked : OnlyMarked l.initial.marks l.search l.marks;
  entered : AreEntered l.linked l.row l.marks l.search;
  cleared : (order : List (List ℕ)) → AreNumbersOf l.linked.names.now order l.classes → Cleared l.linked l.row (take l.class-index order);
}
