use Rattle.cc_meaning_device.proofs.Courses.{plain_offloads}
use Rattle.cc_meaning_device.proofs.law_plain_offloads.Goals as goal

pub returns : goal.returns
returns c = plain_offloads
