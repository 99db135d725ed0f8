use Rattle.std.proofs.Common.{take}
use Rattle.cc_program.specs.Layouts.{AreOwnFields}
use Rattle.cc_program.proofs.class_fields.own_fields.Given as goal

abbrev pub invariant-loop-number : goal.invariant-loop-number
invariant-loop-number l = AreOwnFields l.is_static (take l.number l.fields) l.count l.own
