use Rattle.std.proofs.Common.{length}
use Rattle.cc_text.proofs.leb128.+number_value.Given as goal

abbrev pub decreases-number_value : goal.decreases-number_value
decreases-number_value l = length l.bytes.now
