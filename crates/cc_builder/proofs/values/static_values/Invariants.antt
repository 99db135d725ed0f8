use Rattle.cc_builder.proofs.SaidValues.{AreKept}
use Rattle.cc_builder.proofs.values.static_values.Given as goal

abbrev pub invariant-loop-field : goal.invariant-loop-field
invariant-loop-field l = AreKept l.fields l.field-index l.values l.said
