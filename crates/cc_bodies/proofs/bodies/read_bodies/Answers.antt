use Rattle.std.proofs.Common.{List, Option}
use Rattle.cc_meaning.specs.declared.file.RawClass.{RawClass}
use Rattle.cc_meaning.specs.declared.program.Placed.{Placed}
use Rattle.cc_meaning_program.specs.BodyFaults.{ClassFaulty}
use Rattle.cc_bodies.specs.Bodies.{AreClassBodies}
use Rattle.cc_bodies.proofs.CodeLemmas.{sound_on_ok}
use Rattle.cc_bodies.proofs.bodies.read_bodies.Goals as goal

pub returns-clause-sound : goal.returns-clause-sound
returns-clause-sound c =
    sound_on_ok (λ (class : RawClass) (of_class : List (Option (List Placed))). AreClassBodies class.methods of_class) (ClassFaulty c.args.ids.now) c.args.classes.now c.read_classes.result
    (rw c.as_slice.ensures at c.read_classes.ensures)
