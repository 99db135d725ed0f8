use Rattle.cc_members.proofs.Adding.{both_added}
use Rattle.cc_members.proofs.tables.Tables.add_own.Goals as goal

pub returns : goal.returns
returns c = both_added _ _ c.args.all.now c.add_defined.new.all c.add_listed.new.all c.in_ok-add_defined.ensures c.in_ok-add_listed.ensures
