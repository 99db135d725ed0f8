-- What a program has.
use Rattle.std.specs.Prelude.{ℕ, Bool, List, count_by, sum_by}
use Rattle.cc_meaning.specs.declared.program.Class.{Class}
use Rattle.cc_meaning.specs.declared.program.Method.{Method}
use Rattle.cc_meaning.specs.declared.program.MethodKind.{MethodKind}
use Rattle.cc_meaning.specs.declared.program.MethodKind.TheVariants as kinds
use Rattle.cc_meaning.specs.declared.program.Program.{Program}
use Rattle.cc_meaning_typing.specs.WellTyped as typing
use Rattle.cc_meaning_program.specs.Programs as programs
use Rattle.cc_meaning_typing.specs.Tries.{units_of}
use Rattle.cc_check.specs.declared.summary.Summary.{Summary}

-- whether the file defines a class
abbrev pub is_of_file : Class → Bool
is_of_file class = typing.is_of_file class.kind

-- whether a method has code
abbrev pub has_code : Method → Bool
has_code method = programs.has_code method.kind

-- the units of a method's code, none where it has no code
unfoldable pub units_of_kind : MethodKind → ℕ
units_of_kind (kinds.Code code) = units_of code
units_of_kind other = 0

abbrev pub units_of_methods : List Method → ℕ
units_of_methods methods = sum_by (λ (method : Method). units_of_kind method.kind) methods

-- the classes that the file defines, the methods with code, and the units of all this code
abbrev pub summary_of : Program → Summary
summary_of program = record { classes = count_by is_of_file program.classes; methods = count_by has_code program.methods; units = units_of_methods program.methods }
