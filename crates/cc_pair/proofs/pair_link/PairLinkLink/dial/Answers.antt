use Rattle.std.proofs.Common.{sym, subst}
use Rattle.cc_link.specs.Links.{Counts, NeverFall}
use Rattle.cc_pair.specs.Pairs.{Pair}
use Rattle.cc_pair.proofs.Clauses.{fault_is_more}
use Rattle.cc_pair.proofs.pair_link.PairLinkLink.dial.Goals as goal

pub returns-in-Some-Fail-clause-counts : goal.returns-in-Some-Fail-clause-counts
returns-in-Some-Fail-clause-counts c =
    let counts = c.self.inside.tally in
    subst (λ (p : Pair). NeverFall p.counts c.fault.new.self) c.self.view_is
    (subst (λ (k : Counts). NeverFall counts k) (sym c.fault.ensures) (fault_is_more counts c.law_fit.ensures))
