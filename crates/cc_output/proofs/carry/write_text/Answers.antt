use Rattle.std.proofs.Common.{sym, ◌∙◌}
use Rattle.std.proofs.lemmas.Bool.{eqb-true}
use Rattle.cc_output.proofs.Writing.{wrote_nothing}
use Rattle.cc_output.proofs.carry.write_text.Goals as goal

pub returns-then-is_empty-clause-writes : goal.returns-then-is_empty-clause-writes
returns-then-is_empty-clause-writes g c = wrote_nothing c.args.text.now (g.W.Sink.pipe c.args.sink.now) (eqb-true _ _ (sym c.is_empty.ensures ∙ c.if-is_empty.true))
