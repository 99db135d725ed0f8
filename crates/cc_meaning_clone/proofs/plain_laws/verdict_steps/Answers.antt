use Rattle.cc_meaning_clone.proofs.Verdicts.{on_first, waits}
use Rattle.cc_meaning_clone.proofs.plain_laws.verdict_steps.Goals as goal

pub returns-clause-first : goal.returns-clause-first
returns-clause-first c = on_first

pub returns-clause-rest : goal.returns-clause-rest
returns-clause-rest c = waits
