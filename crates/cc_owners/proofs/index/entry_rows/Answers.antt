use Rattle.std.proofs.Common.{rules}
use Rattle.std.proofs.lemmas.Iterator.{YieldsList-from_slice, YieldsList-from_map, items_from_collect}
use Rattle.std.proofs.lemmas.Iterator.Consumers.{YieldsList-at}
use Rattle.cc_owners.specs.declared.index.Entry.{Entry}
use Rattle.cc_owners.proofs.index.entry_rows.Goals as goal

pub returns : goal.returns
returns c =
    items_from_collect c.collect.result c.collect.ensures.ran
    (YieldsList-from_map _ (λ (entry : Entry). entry.row) (YieldsList-at c.map.ensures.source (YieldsList-from_slice c.args.entries.now cc)) c.map.ensures.closure (λ x r q k. (search rules, search rules)))
