use Rattle.serde_json.specs.Find.{as_str}
use Rattle.cc_script.proofs.Values.{Collected}
use Rattle.cc_script.proofs.listing.texts.Given as goal

abbrev pub invariant-loop-item : goal.invariant-loop-item
invariant-loop-item l = Collected as_str l.items l.item-index l.texts
