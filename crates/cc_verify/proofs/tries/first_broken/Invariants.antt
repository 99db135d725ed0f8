use Rattle.cc_meaning_typing.specs.Ending.{AreNarrowStates, tries_room}
use Rattle.cc_transfer.specs.Bodies.{body_of}
use Rattle.cc_verify.specs.Tables.{due_of}
use Rattle.cc_verify.proofs.Steps.{Progress}
use Rattle.cc_verify.proofs.tries.first_broken.Given as goal

abbrev pub invariant-loop-at : goal.invariant-loop-at
invariant-loop-at l = Progress (body_of l.body) l.table.states (due_of l.table.due) × AreNarrowStates l.table.states

abbrev pub decreases-loop-at : goal.decreases-loop-at
decreases-loop-at l = tries_room (body_of l.body) l.table.states (due_of l.table.due)
