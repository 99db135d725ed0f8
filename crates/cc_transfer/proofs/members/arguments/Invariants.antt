use Rattle.std.proofs.Common.{drop}
use Rattle.cc_meaning_typing.specs.Rules.{Arguments}
use Rattle.cc_transfer.proofs.members.arguments.Given as goal

abbrev pub invariant-loop-ty : goal.invariant-loop-ty
invariant-loop-ty l = record {
  rest : Arguments l.program l.state l.params l.args → Arguments l.program l.state (drop l.ty-index l.params) l.rest;
  whole : Arguments l.program l.state (drop l.ty-index l.params) l.rest → Arguments l.program l.state l.params l.args;
}
