use Rattle.std.proofs.Common.{subst, sym}
use Rattle.cc_pair.specs.Pairs.{Piped}
use Rattle.cc_pair.specs.Fair.{Stands}
use Rattle.cc_pair.proofs.Fairness.{stands_sent}
use Rattle.cc_pair.proofs.pair_link.PairLink.take.Goals as goal

pub invariant_of-self-2 : goal.invariant_of-self-2
invariant_of-self-2 c =
    let a = c.self.inside in
    subst (λ (pipe : Piped). Stands pipe a.clone a.deaf a.down) (sym c.in-Ok.ensures.ok)
    (stands_sent (record { verdicts = c.verdict_goes_on.ensures; said = c.talk_goes_on.ensures.said; standing = c.talk_goes_on.ensures.standing; front = c.talk_goes_on.ensures.front })
    a.up a.clone a.deaf a.down c.args.bytes.now c.self.invariant)
