use Rattle.std.proofs.Common.{ap, ◌∙◌}
use Rattle.cc_built_in.specs.BuiltInMethods.{methods_before}
use Rattle.cc_wire.proofs.Counts.{listed_fit}
use Rattle.cc_wire.proofs.numbers.first_method.Goals as goal

pub count_before-requires : goal.count_before-requires
count_before-requires c = listed_fit c.built_in_classes.result.now c.args.class.now c.built_in_classes.ensures.tables

pub returns : goal.returns
returns c = c.count_before.ensures ∙ ap (λ tables. methods_before tables c.args.class.now) c.built_in_classes.ensures.tables
