use Rattle.cc_meaning_device.proofs.MovedCalls.{each_call}
use Rattle.cc_meaning_device.proofs.law_each_call_migrates.Goals as goal

pub returns : goal.returns
returns c = each_call c.law_plain_offloads.ensures c.law_merges_each.ensures
