use Rattle.std.proofs.Common.{◌∙◌}
use Rattle.cc_meaning_insn.specs.Forms.{of_listed, ranged_units}
use Rattle.cc_insn.proofs.lists.ranged_units.Goals as goal

pub returns : goal.returns
unfolding ranged_units
returns c = c.of_listed.ensures ∙ (λ i. of_listed c.args.form (c.from.ensures i) (c.in_ok-args.ensures i))
