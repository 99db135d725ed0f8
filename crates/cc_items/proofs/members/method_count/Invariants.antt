use Rattle.std.proofs.Common.{◌≡◌, ◌+◌, ◌≤◌, drop, length}
use Rattle.cc_items.specs.Listed.{methods_of}
use Rattle.cc_items.proofs.members.method_count.Given as goal

abbrev pub invariant-loop-method : goal.invariant-loop-method
invariant-loop-method l = record {
  all : l.count + length (methods_of l.is_direct (drop l.method-index l.methods)) ≡ length (methods_of l.is_direct l.methods);
  few : l.count ≤ l.method-index;
}
