use Rattle.std.proofs.Common.{List, Option}
use Rattle.cc_meaning.specs.declared.file.RawMethod.{RawMethod}
use Rattle.cc_meaning.specs.declared.program.Placed.{Placed}
use Rattle.cc_meaning_program.specs.BodyFaults.{MethodFaulty}
use Rattle.cc_bodies.specs.Bodies.{IsBody}
use Rattle.cc_bodies.proofs.Loops.{NoneBefore, ReadBefore}
use Rattle.cc_bodies.proofs.bodies.read_methods.Given as goal

abbrev pub invariant-loop-method : goal.invariant-loop-method
invariant-loop-method l =
    record {
      sound : NoneBefore (MethodFaulty l.ids) l.methods l.method-index;
      read : ReadBefore (λ (method : RawMethod) (body : Option (List Placed)). IsBody method.code body) l.methods l.method-index l.bodies;
    }
