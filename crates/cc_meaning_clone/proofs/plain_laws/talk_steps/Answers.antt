use Rattle.cc_meaning_clone.specs.Plain.{plain_clone}
use Rattle.cc_meaning_clone.proofs.plain_laws.talk_steps.Goals as goal

pub returns-clause-first : goal.returns-clause-first
returns-clause-first c verdict = c.steps.ensures.first (plain_clone verdict)
