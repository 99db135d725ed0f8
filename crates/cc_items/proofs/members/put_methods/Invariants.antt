use Rattle.std.proofs.Common.{◌≡◌, ◌++◌, drop}
use Rattle.cc_meaning_builder.specs.Forms.{methods_form}
use Rattle.cc_items.specs.Listed.{methods_of}
use Rattle.cc_items.proofs.members.put_methods.Given as goal

abbrev pub invariant-loop-method : goal.invariant-loop-method
invariant-loop-method l = l.out ++ methods_form l.before (methods_of l.is_direct (drop l.method-index l.methods)) ≡ l.initial.out ++ methods_form 0 (methods_of l.is_direct l.methods)
