use Rattle.std.proofs.Common.{subst}
use Rattle.cc_pair.specs.Counting.{Fit}
use Rattle.cc_pair.specs.Pairs.{Pair}
use Rattle.cc_pair.proofs.Clauses.{gets_clause, gets_prompt, gives_owed}
use Rattle.cc_pair.proofs.pair_link.PairLinkLink.receive.Goals as goal

pub returns-clause-gets : goal.returns-clause-gets
returns-clause-gets c = (gets_clause c.args.self.now c.get-got.new.self c.args.room c.get-got.result (subst (λ (p : Pair). Fit p.counts) c.self.view_is c.law_fit.ensures) c.requires.some c.get-got.ensures).0

pub returns-clause-counts : goal.returns-clause-counts
returns-clause-counts c = (gets_clause c.args.self.now c.get-got.new.self c.args.room c.get-got.result (subst (λ (p : Pair). Fit p.counts) c.self.view_is c.law_fit.ensures) c.requires.some c.get-got.ensures).1

pub returns-clause-owed : goal.returns-clause-owed
returns-clause-owed c prompt owed = gives_owed c.args.self.now c.get-got.new.self c.args.room c.get-got.result prompt c.get-got.ensures c.law_fair-2.ensures owed

pub returns-clause-prompt : goal.returns-clause-prompt
returns-clause-prompt c prompt other = gets_prompt c.args.self.now c.get-got.new.self c.args.room c.get-got.result prompt c.get-got.ensures c.law_fair-2.ensures other
