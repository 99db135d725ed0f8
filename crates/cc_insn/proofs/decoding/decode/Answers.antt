use Rattle.cc_insn.proofs.Spelled.{are_units, refused}
use Rattle.cc_insn.proofs.decoding.decode.Goals as goal

pub returns-clause-refused : goal.returns-clause-refused
returns-clause-refused c = refused c.insn_agrees.ensures c.args.units.now (are_units c.args.units.now c.type_inv.units) c.args.at c.read.result c.read.ensures
