use Rattle.std.proofs.Common.{◌≡◌, ◌++◌, drop}
use Rattle.cc_meaning_builder.specs.Forms.{fields_form}
use Rattle.cc_items.specs.Listed.{fields_of}
use Rattle.cc_items.proofs.members.put_fields.Given as goal

abbrev pub invariant-loop-field : goal.invariant-loop-field
invariant-loop-field l = l.out ++ fields_form l.before (fields_of l.is_static (drop l.field-index l.fields)) ≡ l.initial.out ++ fields_form 0 (fields_of l.is_static l.fields)
