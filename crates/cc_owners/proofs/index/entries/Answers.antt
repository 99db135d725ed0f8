use Rattle.cc_owners.proofs.Indexing.{entries_sorted}
use Rattle.cc_owners.proofs.index.entries.Goals as goal

pub returns : goal.returns
returns c =
    entries_sorted c.args.ids.now c.args.classes.now c.args.table c.in_ok-all.all c.in_ok-sorted.sorted c.in_ok-all.ensures c.in_ok-sorted.ensures
