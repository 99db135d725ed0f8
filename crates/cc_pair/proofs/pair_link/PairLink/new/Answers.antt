use Rattle.std.proofs.Common.{false, [], subst, sym}
use Rattle.cc_link.specs.Honest.{at_start}
use Rattle.cc_pair.specs.Pairs.{Piped, empty_pipe, PlainTalk}
use Rattle.cc_pair.specs.Fair.{Stands}
use Rattle.cc_pair.proofs.Fairness.{stands_first}
use Rattle.cc_pair.proofs.pair_link.PairLink.new.Goals as goal

pub returns-clause-fair : goal.returns-clause-fair
returns-clause-fair c =
    stands_first (record { verdicts = c.verdict_goes_on.ensures; said = c.talk_goes_on.ensures.said; standing = c.talk_goes_on.ensures.standing; front = c.talk_goes_on.ensures.front })
    c.talk_steps.ensures.nothing c.nothing_more.ensures

pub invariant_of-result : goal.invariant_of-result
invariant_of-result c =
    let first = stands_first (record { verdicts = c.verdict_goes_on.ensures; said = c.talk_goes_on.ensures.said; standing = c.talk_goes_on.ensures.standing; front = c.talk_goes_on.ensures.front })
    c.talk_steps.ensures.nothing c.nothing_more.ensures in
    subst (λ (pipe : Piped). Stands pipe c.new-3.result false c.new-4.result) (sym c.new-2.ensures)
    (subst (λ (clone : PlainTalk). Stands empty_pipe clone false c.new-4.result) (sym c.new-3.ensures)
    (subst (λ (pipe : Piped). Stands empty_pipe (record { said = []; standing = at_start }) false pipe) (sym c.new-4.ensures) first))
