-- Which methods of a program are built-in methods, by the table of the built-in classes and their methods.
use Rattle.std.specs.Prelude.{◌≡◌, ◌↔◌, ℕ, List, [], map, Some, IsSome, Contains, slice_get}
use Rattle.cc_meaning.specs.declared.program.Class.{Class}
use Rattle.cc_meaning.specs.declared.program.ClassKind.{ClassKind}
use Rattle.cc_meaning.specs.declared.program.ClassKind.TheVariants as kind
use Rattle.cc_meaning.specs.declared.program.Method.{Method}
use Rattle.cc_meaning.specs.declared.program.Program.{Program}
use Rattle.cc_meaning.specs.Names.{member_name}
use Rattle.cc_built_in.specs.BuiltInMethods.{BuiltInMethod, built_in_member, methods_of_class, array_methods}
use Rattle.cc_meaning_builtin.specs.Rows.{built_in}

-- the methods that the table lists for a class
unfoldable pub methods_listed : ClassKind → List ℕ → List BuiltInMethod
methods_listed kind.BuiltIn name = methods_of_class name
methods_listed kind.Array name = array_methods name
methods_listed _ name = []

-- A method of a program is a built-in method exactly where the table lists it for its class, by its name with parameters and result.
abbrev pub JustListedAreBuiltIn : Program → Type 0
JustListedAreBuiltIn p =
    (m : Method) (class : Class) → slice_get p.classes m.class ≡ Some class →
    IsSome (built_in p m) ↔ Contains (map built_in_member (methods_listed class.kind class.name)) (member_name p m)
