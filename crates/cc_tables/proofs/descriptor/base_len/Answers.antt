use Rattle.std.proofs.Common.{sym, ◌∙◌, arith}
use Rattle.cc_tables.proofs.Leading.{class_length, class_has_end, letter_length}
use Rattle.cc_tables.proofs.descriptor.base_len.Goals as goal

pub returns-in-Some-clause-exact : goal.returns-in-Some-clause-exact
returns-in-Some-clause-exact c base rest value is =
    class_length c.args.units.now base rest c.in-Some.place value is (sym c.names_class.ensures ∙ c.if-not-names_class.false) c.in-Some.ensures

pub returns-in-None-clause-exact : goal.returns-in-None-clause-exact
returns-in-None-clause-exact c base rest value is =
    absurd (class_has_end c.args.units.now base rest value is (sym c.names_class.ensures ∙ c.if-not-names_class.false) c.in-None.ensures)

pub returns-then-not-names_class-clause-exact : goal.returns-then-not-names_class-clause-exact
returns-then-not-names_class-clause-exact c base rest value is =
    let long = letter_length c.args.units.now base rest value is (sym c.names_class.ensures ∙ c.if-not-names_class.true) in
    omega (arith, long.0, long.1, c.min.ensures)
