use Rattle.std.specs.Prelude.{◌≡◌, length}
use Rattle.cc_meaning_typing.specs.Ending.{AreNarrowStates}
use Rattle.cc_meaning_typing.specs.VerifyLaws.{Spreads}
use Rattle.cc_meaning_typing.specs.Tries.{lead_all}
use Rattle.cc_transfer.specs.Bodies.{body_of}
use Rattle.cc_verify.specs.Tables.{due_of}
use Rattle.cc_verify.proofs.tries.lead_all.Given as goal

abbrev pub invariant-loop-address : goal.invariant-loop-address
invariant-loop-address l = record {
  states : lead_all l.body.program.now l.state l.table.states l.rest ≡ lead_all l.body.program.now l.state l.fn.table.states l.fn.to;
  spreads : Spreads (body_of l.body) l.fn.table.states l.table.states (due_of l.fn.table.due) (due_of l.table.due);
  narrow : AreNarrowStates l.fn.table.states → AreNarrowStates l.table.states;
}

abbrev pub decreases-loop-address : goal.decreases-loop-address
decreases-loop-address l = length l.rest
