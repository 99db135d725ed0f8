use Rattle.cc_dex_writer.proofs.Fitting as fitting
use Rattle.cc_dex_writer.proofs.head_laws.fitting_rows_are_small.Goals as goal

pub returns : goal.returns
returns c = fitting.fitting_rows_are_small
