use Rattle.cc_builder_laws.proofs.Widths as widths
use Rattle.cc_builder_laws.proofs.numbers.little_length.Goals as goal

pub returns : goal.returns
returns c = widths.little_length
