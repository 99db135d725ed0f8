use Rattle.std.specs.Prelude.{◌≡◌, drop}
use Rattle.cc_meaning_typing.specs.Ending.{AreNarrowStates}
use Rattle.cc_meaning_typing.specs.VerifyLaws.{Spreads}
use Rattle.cc_meaning_typing.specs.Tries.{catch_all}
use Rattle.cc_transfer.specs.Bodies.{body_of}
use Rattle.cc_verify.specs.Tables.{due_of}
use Rattle.cc_verify.proofs.tries.catch_all.Given as goal

abbrev pub invariant-loop-catch : goal.invariant-loop-catch
invariant-loop-catch l = record {
  states : catch_all l.body.program.now l.state l.table.states (drop l.catch-index l.handlers) ≡ catch_all l.body.program.now l.state l.fn.table.states l.handlers;
  spreads : Spreads (body_of l.body) l.fn.table.states l.table.states (due_of l.fn.table.due) (due_of l.table.due);
  narrow : AreNarrowStates l.fn.table.states → AreNarrowStates l.table.states;
}
