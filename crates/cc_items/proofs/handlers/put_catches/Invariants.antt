use Rattle.std.proofs.Common.{◌≡◌, ◌++◌, take}
use Rattle.std.specs.List.{flat_map}
use Rattle.cc_meaning_builder.specs.Forms.{catch_form}
use Rattle.cc_items.proofs.handlers.put_catches.Given as goal

abbrev pub invariant-loop-catch : goal.invariant-loop-catch
invariant-loop-catch l = l.out ≡ l.initial.out ++ flat_map catch_form (take l.catch-index l.catches)
