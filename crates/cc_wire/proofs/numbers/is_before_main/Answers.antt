use Rattle.std.proofs.Common.{refl, ◌∙◌}
use Rattle.cc_meaning_plain.specs.Program.{main_name}
use Rattle.cc_wire.proofs.Compared.{before_main_is}
use Rattle.cc_wire.proofs.numbers.is_before_main.Goals as goal

pub returns : goal.returns
unfolding main_name
returns c = c.eq.ensures ∙ before_main_is c.args.name.now main_name c.compare.result c.compare.ensures refl
