use Rattle.cc_tables.proofs.Leading.{descriptor_length, descriptor_has_base}
use Rattle.cc_tables.proofs.descriptor.descriptor_len.Goals as goal

pub returns-in-Some-clause-exact : goal.returns-in-Some-clause-exact
returns-in-Some-clause-exact c descriptor rest value is =
    descriptor_length c.args.units.now descriptor rest c.split_at.result.1.now c.in-Some.dims c.base_len.result value is c.in-Some.ensures c.split_at.ensures.back c.base_len.ensures.exact

pub returns-in-None-clause-exact : goal.returns-in-None-clause-exact
returns-in-None-clause-exact c descriptor rest value is = absurd (descriptor_has_base c.args.units.now descriptor rest value is c.in-None.ensures)
