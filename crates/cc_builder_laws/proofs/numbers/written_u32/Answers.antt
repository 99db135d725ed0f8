use Rattle.cc_builder_laws.proofs.Widths as widths
use Rattle.cc_builder_laws.proofs.numbers.written_u32.Goals as goal

pub returns : goal.returns
returns c = widths.written_u32
