use Rattle.std.proofs.Common.{◌≡◌, ◌++◌, drop}
use Rattle.cc_meaning_builder.specs.Forms.{each_value_form}
use Rattle.cc_items.proofs.values.put_each.Given as goal

abbrev pub invariant-loop-place : goal.invariant-loop-place
invariant-loop-place l = l.out ++ each_value_form l.ids (drop l.place l.fields) (drop l.place l.values) ≡ l.initial.out ++ each_value_form l.ids l.fields l.values
