-- How a declared type is held: its kind, its value at the start, and the registers that it takes.
use Rattle.std.specs.Prelude.{ℕ, ◌+◌, Bool, true, false, cond, ◌==◌, List, None, pos, sum_by}
use Rattle.cc_meaning.specs.declared.program.Base.{Base}
use Rattle.cc_meaning.specs.declared.program.Base.TheVariants as base
use Rattle.cc_meaning.specs.declared.program.DexType.{DexType}
use Rattle.cc_meaning.specs.declared.program.Method.{Method}
use Rattle.cc_meaning.specs.declared.instruction.Kind.{Kind}
use Rattle.cc_meaning.specs.declared.instruction.Kind.TheVariants as kind
use Rattle.cc_meaning.specs.declared.value.Value.{Value}
use Rattle.cc_meaning.specs.declared.value.Value.TheVariants as value

-- the kind of a type with no dimensions
abbrev pub kind_of_base : Base → Kind
kind_of_base base.Boolean = kind.Boolean
kind_of_base base.Byte = kind.Byte
kind_of_base base.Short = kind.Short
kind_of_base base.Char = kind.Char
kind_of_base base.Int = kind.Plain
kind_of_base base.Long = kind.Wide
kind_of_base (base.Class class) = kind.Object

-- the kind of a declared type: every array is a reference
abbrev pub kind_of : DexType → Kind
kind_of type = cond (type.dims == 0) (kind_of_base type.base) kind.Object

-- what a field or an element of a kind holds before it is written: zero or null
abbrev pub zero_of : Kind → Value
zero_of kind.Plain = value.Int (pos 0)
zero_of kind.Wide = value.Long (pos 0)
zero_of kind.Object = value.Obj None
zero_of kind.Boolean = value.Int (pos 0)
zero_of kind.Byte = value.Int (pos 0)
zero_of kind.Char = value.Int (pos 0)
zero_of kind.Short = value.Int (pos 0)

-- whether a value is one that a field or an element of a kind holds, its range left aside
abbrev pub is_of_kind : Kind → Value → Bool
is_of_kind kind.Wide (value.Long number) = true
is_of_kind kind.Wide _ = false
is_of_kind kind.Object (value.Obj object) = true
is_of_kind kind.Object _ = false
is_of_kind _ (value.Int number) = true
is_of_kind _ _ = false

-- the registers that a value of a kind takes: a long takes two
abbrev pub width_of_kind : Kind → ℕ
width_of_kind kind.Wide = 2
width_of_kind _ = 1

-- the registers that a value of a declared type takes
abbrev pub width_of : DexType → ℕ
width_of type = width_of_kind (kind_of type)

-- the registers that a list of parameters takes
abbrev pub width_of_types : List DexType → ℕ
width_of_types types = sum_by width_of types

-- the registers that a method's arguments take, the receiver's among them
abbrev pub argument_width : Method → ℕ
argument_width method = cond method.is_static 0 1 + width_of_types method.params

-- the registers that a value takes
abbrev pub width_of_value : Value → ℕ
width_of_value (value.Long number) = 2
width_of_value _ = 1

-- the registers that a list of values takes
abbrev pub width_of_values : List Value → ℕ
width_of_values values = sum_by width_of_value values
