use Rattle.std.proofs.Common.{◌≡◌, ◌+◌, ◌≤◌, drop, length}
use Rattle.cc_items.specs.Listed.{fields_of}
use Rattle.cc_items.proofs.members.field_count.Given as goal

abbrev pub invariant-loop-field : goal.invariant-loop-field
invariant-loop-field l = record {
  all : l.count + length (fields_of l.is_static (drop l.field-index l.fields)) ≡ length (fields_of l.is_static l.fields);
  few : l.count ≤ l.field-index;
}
