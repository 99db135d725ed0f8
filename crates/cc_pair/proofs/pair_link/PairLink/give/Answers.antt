use Rattle.std.proofs.Common.{subst, sym}
use Rattle.cc_pair.specs.Pairs.{Piped}
use Rattle.cc_pair.specs.Fair.{Stands}
use Rattle.cc_pair.proofs.Fairness.{stands_given}
use Rattle.cc_pair.proofs.pair_link.PairLink.give.Goals as goal

pub invariant_of-self : goal.invariant_of-self
invariant_of-self c =
    let a = c.self.inside in
    subst (λ (pipe : Piped). Stands a.up a.clone a.deaf pipe) (sym c.pass.ensures)
    (stands_given (record { verdicts = c.verdict_goes_on.ensures; said = c.talk_goes_on.ensures.said; standing = c.talk_goes_on.ensures.standing; front = c.talk_goes_on.ensures.front })
    a.up a.clone a.deaf a.down c.min-count.result c.self.invariant)
