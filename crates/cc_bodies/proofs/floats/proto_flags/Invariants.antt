use Rattle.cc_bodies.specs.Floats.{ProtoFloats}
use Rattle.cc_bodies.proofs.FloatLemmas.{FlagsBefore}
use Rattle.cc_bodies.proofs.floats.proto_flags.Given as goal

abbrev pub invariant-loop-prototype : goal.invariant-loop-prototype
invariant-loop-prototype l = FlagsBefore (ProtoFloats l.ids) l.flags l.prototype-index
