use Rattle.std.proofs.Common.{◌≡◌, ◌-◌}
use Rattle.cc_meaning_dex.specs.Sequences.{items_from}
use Rattle.cc_dexcode.proofs.Loop.{with_front}
use Rattle.cc_dexcode.proofs.walk.read_items.Given as goal

abbrev pub invariant-loop : goal.invariant-loop
invariant-loop g l = with_front l.items (items_from (g.R.ItemReader.item_at l.reader) (l.count - l.counter) l.place) ≡ items_from (g.R.ItemReader.item_at l.reader) l.count l.fn.from
