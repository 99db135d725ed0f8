use Rattle.std.proofs.Common.{drop}
use Rattle.cc_meaning_typing.specs.Rules.{AllHold}
use Rattle.cc_transfer.proofs.arrays.all_hold.Given as goal

abbrev pub invariant-loop-arg : goal.invariant-loop-arg
invariant-loop-arg l = record {
  rest : AllHold l.program l.state l.args l.wanted → AllHold l.program l.state (drop l.arg-index l.args) l.wanted;
  whole : AllHold l.program l.state (drop l.arg-index l.args) l.wanted → AllHold l.program l.state l.args l.wanted;
}
