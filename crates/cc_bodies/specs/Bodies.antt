-- The instructions of a file's methods.
use Rattle.std.specs.Prelude.{List, Option, Some, None}
use Rattle.std.specs.List.{AllZip}
use Rattle.cc_meaning.specs.declared.file.RawClass.{RawClass}
use Rattle.cc_meaning.specs.declared.file.RawCode.{RawCode}
use Rattle.cc_meaning.specs.declared.file.RawMethod.{RawMethod}
use Rattle.cc_meaning.specs.declared.program.Placed.{Placed}
use Rattle.cc_meaning_program.specs.Instructions.{AreInstructions}

-- a method's instructions, none where it has no code
abbrev pub IsBody : Option RawCode → Option (List Placed) → Type 0
IsBody None None = Unit {0}
IsBody None (Some placed) = ⊥
IsBody (Some code) None = ⊥
IsBody (Some code) (Some placed) = AreInstructions code.units placed

-- those of a class's methods, in their places
abbrev pub AreClassBodies : List RawMethod → List (Option (List Placed)) → Type 0
AreClassBodies methods bodies = AllZip (λ (method : RawMethod) body. IsBody method.code body) methods bodies

-- those of a file's classes, in their places
abbrev pub AreBodies : List RawClass → List (List (Option (List Placed))) → Type 0
AreBodies classes bodies = AllZip (λ (class : RawClass) of_class. AreClassBodies class.methods of_class) classes bodies
