use Rattle.std.proofs.Common.{List, Option}
use Rattle.cc_meaning.specs.declared.file.RawClass.{RawClass}
use Rattle.cc_meaning.specs.declared.program.Placed.{Placed}
use Rattle.cc_meaning_program.specs.BodyFaults.{ClassFaulty}
use Rattle.cc_bodies.specs.Bodies.{AreClassBodies}
use Rattle.cc_bodies.proofs.Loops.{NoneBefore, ReadBefore}
use Rattle.cc_bodies.proofs.bodies.read_classes.Given as goal

abbrev pub invariant-loop-class : goal.invariant-loop-class
invariant-loop-class l =
    record {
      sound : NoneBefore (ClassFaulty l.ids) l.classes l.class-index;
      read : ReadBefore (λ (class : RawClass) (of_class : List (Option (List Placed))). AreClassBodies class.methods of_class) l.classes l.class-index l.bodies;
    }
