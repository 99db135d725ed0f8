use Rattle.cc_meaning_ends.proofs.Courses.{plain_ends}
use Rattle.cc_meaning_ends.proofs.law_plain_ends.Goals as goal

pub returns : goal.returns
returns c = plain_ends c.law_plain_offloads.ensures
