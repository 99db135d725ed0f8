use Rattle.std.proofs.Common.{subst}
use Rattle.cc_pair.specs.Counting.{Fit}
use Rattle.cc_pair.specs.Pairs.{Pair}
use Rattle.cc_pair.proofs.Clauses.{sends_clause, takes_some, stays_prompt}
use Rattle.cc_pair.proofs.pair_link.PairLinkLink.send.Goals as goal

pub returns-clause-sends : goal.returns-clause-sends
returns-clause-sends c = (sends_clause c.args.self.now c.put-sent.new.self c.args.bytes.now c.put-sent.result (subst (λ (p : Pair). Fit p.counts) c.self.view_is c.law_fit.ensures) c.requires c.put-sent.ensures).0

pub returns-clause-counts : goal.returns-clause-counts
returns-clause-counts c = (sends_clause c.args.self.now c.put-sent.new.self c.args.bytes.now c.put-sent.result (subst (λ (p : Pair). Fit p.counts) c.self.view_is c.law_fit.ensures) c.requires c.put-sent.ensures).1

pub returns-clause-some : goal.returns-clause-some
returns-clause-some c prompt = takes_some c.args.self.now c.put-sent.new.self c.args.bytes.now c.put-sent.result prompt c.put-sent.ensures

pub returns-clause-prompt : goal.returns-clause-prompt
returns-clause-prompt c prompt other = stays_prompt c.args.self.now c.put-sent.new.self c.args.bytes.now c.put-sent.result prompt c.put-sent.ensures c.law_fair-2.ensures other
