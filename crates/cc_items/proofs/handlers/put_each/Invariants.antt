use Rattle.std.proofs.Common.{◌≡◌, ◌++◌, take}
use Rattle.std.specs.List.{flat_map}
use Rattle.cc_meaning.specs.declared.file.RawTry.{RawTry}
use Rattle.cc_meaning_builder.specs.Forms.{handler_form}
use Rattle.cc_items.proofs.handlers.put_each.Given as goal

abbrev pub invariant-loop-covered : goal.invariant-loop-covered
invariant-loop-covered l = l.out ≡ l.initial.out ++ flat_map (λ (try : RawTry). handler_form try.catches) (take l.covered-index l.tries)
