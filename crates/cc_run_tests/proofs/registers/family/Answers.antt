use Rattle.cc_run_tests.proofs.Family.{family_leads}
use Rattle.cc_run_tests.proofs.registers.family.Goals as goal

pub returns-clause-hierarchy : goal.returns-clause-hierarchy
returns-clause-hierarchy c = rw (c.in_ok-classes.ensures, c.new.ensures, c.new-2.ensures, c.new-3.ensures) family_leads
