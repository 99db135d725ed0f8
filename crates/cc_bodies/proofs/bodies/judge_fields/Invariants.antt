use Rattle.cc_meaning_program.specs.BodyFaults.{FieldFault}
use Rattle.cc_bodies.proofs.Loops.{NoneBefore}
use Rattle.cc_bodies.proofs.bodies.judge_fields.Given as goal

abbrev pub invariant-loop-field : goal.invariant-loop-field
invariant-loop-field l = NoneBefore (FieldFault l.ids) l.fields l.field-index
