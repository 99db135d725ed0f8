-- The order of names, by UTF-16 units, in which a program's classes, methods, fields and texts stand.
use Rattle.std.specs.Prelude.{◌≡◌, ℕ, List, AllPairs}
use Rattle.std.specs.Cmp.Lexicographic.{slice_cmp}
use Rattle.std.specs.Ordering.{nat_cmp}
use Rattle.std.specs.declared.cmp.Ordering.TheVariants.{Less}
use Rattle.cc_meaning.specs.declared.program.Class.{Class}
use Rattle.cc_meaning.specs.declared.program.Field.{Field}
use Rattle.cc_meaning.specs.declared.program.Method.{Method}
use Rattle.cc_meaning.specs.declared.program.Program.{Program}
use Rattle.cc_meaning.specs.Names.{field_name, method_name}

-- a name comes before another: the first unit that differs is less, or it is a part of the other from its start
abbrev pub IsBefore : List ℕ → List ℕ → Type 0
IsBefore a b = slice_cmp nat_cmp a b ≡ Less

-- each name comes before each later one
abbrev pub IsRising : List (List ℕ) → Type 0
IsRising names = AllPairs IsBefore names

-- each class's name comes before that of each later one
abbrev pub IsRisingByName : List Class → Type 0
IsRisingByName classes = AllPairs (λ (x : Class) (y : Class). IsBefore x.name y.name) classes

-- each method's name as printed comes before that of each later one
abbrev pub MethodsRise : Program → Type 0
MethodsRise program = AllPairs (λ (x : Method) (y : Method). IsBefore (method_name program x) (method_name program y)) program.methods

-- each field's name as printed comes before that of each later one
abbrev pub FieldsRise : Program → Type 0
FieldsRise program = AllPairs (λ (x : Field) (y : Field). IsBefore (field_name program x) (field_name program y)) program.fields

-- the numbers of a program's classes, methods, fields and texts are their places in the order of their names, none twice
pub record IsInOrder (program : Program) : Type 0 where
  pub classes_rise : IsRisingByName program.classes
  pub methods_rise : MethodsRise program
  pub fields_rise : FieldsRise program
  pub texts_rise : IsRising program.texts
