use Rattle.std.proofs.Common.{arith}
use Rattle.cc_script.proofs.SeenLemmas.{seen_all}
use Rattle.cc_script.proofs.repeats.free_members.Goals as goal

pub returns : goal.returns
returns c = seen_all c.args.pairs.now c.loop-pair.pair-index c.loop-pair.seen (omega (arith, c.loop-pair-test.false)) c.loop-pair.invariant
