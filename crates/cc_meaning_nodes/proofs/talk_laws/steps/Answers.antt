use Rattle.cc_meaning_nodes.proofs.Talks.{nothing_is_said, first_is_answered, waits_for_rest, fault_closes, closed_is_silent}
use Rattle.cc_meaning_nodes.proofs.talk_laws.steps.Goals as goal

pub returns-clause-nothing : goal.returns-clause-nothing
returns-clause-nothing g c = nothing_is_said

pub returns-clause-first : goal.returns-clause-first
returns-clause-first g c = first_is_answered

pub returns-clause-rest : goal.returns-clause-rest
returns-clause-rest g c = waits_for_rest

pub returns-clause-fault : goal.returns-clause-fault
returns-clause-fault g c = fault_closes

pub returns-clause-closed : goal.returns-clause-closed
returns-clause-closed g c = closed_is_silent
