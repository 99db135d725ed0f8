use Rattle.cc_bodies.proofs.UsedRows as rows
use Rattle.cc_bodies.proofs.code_laws.used_rows_are_there.Goals as goal

pub returns : goal.returns
returns c = rows.used_rows_are_there c.stand_to_end.ensures
