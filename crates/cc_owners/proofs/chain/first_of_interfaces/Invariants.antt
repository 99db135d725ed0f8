use Rattle.std.proofs.Common.{◌≡◌, ℕ, List, length, take, None}
use Rattle.std.specs.List.{flat_map}
use Rattle.cc_meaning_program.specs.Ancestry.{interfaces_named}
use Rattle.cc_meaning_program.specs.Outlines.{AreNumbersOf}
use Rattle.cc_owners.specs.Entered.{OnlyMarked, IsFoundAbove}
use Rattle.cc_owners.proofs.chain.first_of_interfaces.Given as goal

abbrev pub invariant-loop-class : goal.invariant-loop-class
invariant-loop-class l = record {
  wide : length l.marks ≡ length l.linked.names.now;
  marked : OnlyMarked l.initial.marks l.search l.marks;
  above : (order : List (List ℕ)) → AreNumbersOf l.linked.names.now order l.classes → IsFoundAbove l.linked l.row l.marks l.search (flat_map (interfaces_named l.linked.ids.now) (take l.class-index order)) None;
}
