-- What of an object its shape says, and what it holds.
use Rattle.std.specs.Prelude.{ℕ, Bool, true, false, List, [], length, Option, Some, None}
use Rattle.cc_meaning.specs.declared.value.Object.{Object}
use Rattle.cc_meaning.specs.declared.value.Object.TheVariants as object
use Rattle.cc_meaning.specs.declared.value.Value.{Value}
use Rattle.cc_world.specs.declared.shape.Shape.{Shape}
use Rattle.cc_world.specs.declared.shape.Shape.TheVariants as shape

abbrev pub shape_of : Object → Shape
shape_of object.Out = shape.Out
shape_of (object.Instance class values) = shape.Instance class (length values)
shape_of (object.Array class values) = shape.Array class (length values)
shape_of (object.Text units) = shape.Text (length units)
shape_of (object.Builder units) = shape.Builder (length units)
shape_of (object.Constant class) = shape.Constant class

-- the fields of an instance or the elements of an array; any other object has none
abbrev pub values_of : Object → List Value
values_of (object.Instance class values) = values
values_of (object.Array class values) = values
values_of _ = []

-- how many values or units an object holds
abbrev pub size_of : Object → ℕ
size_of object.Out = 0
size_of (object.Instance class values) = length values
size_of (object.Array class values) = length values
size_of (object.Text units) = length units
size_of (object.Builder units) = length units
size_of (object.Constant class) = 0

-- ---- of the object at a number, where there is one

abbrev pub values_in : Option Object → List Value
values_in None = []
values_in (Some o) = values_of o

-- the units of a text or of a builder
abbrev pub units_in : Option Object → Option (List ℕ)
units_in (Some (object.Text units)) = Some units
units_in (Some (object.Builder units)) = Some units
units_in _ = None

abbrev pub is_builder : Option Object → Bool
is_builder (Some (object.Builder units)) = true
is_builder _ = false
