use Rattle.cc_builder_laws.proofs.ReadAgain.{is_read_again}
use Rattle.cc_builder_laws.proofs.whole.written_is_read_again.Goals as goal

pub returns : goal.returns
returns c =
    is_read_again c.written_tables.ensures c.written_members.ensures c.written_code.ensures c.written_tries.ensures c.written_values.ensures c.members_agree.ensures
