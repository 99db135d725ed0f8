-- A small program: LB; and LC; extend LA;, LX; is outside, Lx/FooException; an outside exception, and nothing has methods.
use Rattle.std.specs.Prelude.{List, [], ◌∷◌, Some, None, codes}
use Rattle.cc_meaning.specs.declared.program.Class.{Class}
use Rattle.cc_meaning.specs.declared.program.ClassKind.TheVariants as origin
use Rattle.cc_meaning.specs.declared.program.Program.{Program}
use Rattle.cc_meaning.specs.BuiltIn.{object_name}
use Rattle.cc_meaning_typing.specs.Worked.{class_of}

abbrev pub family_classes : List Class
family_classes =
    class_of (codes "LA;") origin.File (Some 4)
    ∷ class_of (codes "LB;") origin.File (Some 0)
    ∷ class_of (codes "LC;") origin.File (Some 0)
    ∷ class_of (codes "LX;") origin.Outside (Some 4)
    ∷ class_of object_name origin.BuiltIn None
    ∷ class_of (codes "Lx/FooException;") origin.OutsideError (Some 4)
    ∷ []

abbrev pub family : Program
family = record { classes = family_classes; methods = []; fields = []; texts = []; main = 0 }
