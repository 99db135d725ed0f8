use Rattle.std.proofs.Common.{◌≡◌, ◌+◌, ◌≤◌, drop}
use Rattle.cc_meaning_builder.specs.Forms.{typed_count}
use Rattle.cc_items.proofs.handlers.typed_count.Given as goal

abbrev pub invariant-loop-catch : goal.invariant-loop-catch
invariant-loop-catch l = record {
  all : l.count + typed_count (drop l.catch-index l.catches) ≡ typed_count l.catches;
  few : l.count ≤ l.catch-index;
}
