use Rattle.std.proofs.Common.{◌≡◌, ◌+◌, length}
use Rattle.cc_owners.specs.Entered.{AreOlder}
use Rattle.cc_owners.proofs.MethodOwning.{Owns}
use Rattle.cc_owners.proofs.methods.method_owners.Given as goal

abbrev pub invariant-loop-row : goal.invariant-loop-row
invariant-loop-row l = record {
  wide : length l.marks ≡ length l.names;
  older : AreOlder l.marks (l.row + 1);
  owns : Owns l.ids l.classes l.names l.row l.owners;
}
