use Rattle.cc_meaning_device.proofs.Merges.{merges_each}
use Rattle.cc_meaning_device.proofs.law_merges_each.Goals as goal

pub returns : goal.returns
returns c = merges_each c.law_plain_offloads.ensures
