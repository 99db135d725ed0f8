use Rattle.std.proofs.Common.{subst, ap, ◌∙◌}
use Rattle.cc_meaning_builder.specs.Named.{all_names}
use Rattle.cc_tables.specs.Needs.{AreNeeds}
use Rattle.cc_tables.proofs.Tabled.{ordered, tables}
use Rattle.cc_tables.proofs.tables.tables_of.Goals as goal

pub returns-clause-ordered : goal.returns-clause-ordered
returns-clause-ordered c = ordered c.args.content.now c.in_ok-needs.needs c.in_ok-with_classes.field-0 c.in_ok-with_classes.ensures.made

pub returns-clause-tables : goal.returns-clause-tables
returns-clause-tables c = λ well.
    let needs = c.in_ok-needs.needs in
    let names = c.as_slice-2.ensures ∙ (c.in_ok-names.ensures ∙ ap all_names c.as_slice.ensures) in
    let are : AreNeeds (all_names c.args.content.now) needs = subst (λ names. AreNeeds names needs) names c.in_ok-needs.ensures in
    tables c.args.content.now needs c.in_ok-with_classes.field-0 well are c.in_ok-with_classes.ensures.made
