use Rattle.std.proofs.Common.{ℕ, List, take}
use Rattle.cc_meaning_program.specs.Searches.{NoneOf}
use Rattle.cc_meaning_program.specs.Outlines.{AreNumbersOf}
use Rattle.cc_owners.specs.Beyond.{IsUndefined}
use Rattle.cc_owners.proofs.beyond.first_beyond.Given as goal

abbrev pub invariant-loop-place : goal.invariant-loop-place
invariant-loop-place l = (order : List (List ℕ)) → AreNumbersOf l.linked.names.now order l.classes → NoneOf (IsUndefined l.linked.ids.now) (take l.place order)
