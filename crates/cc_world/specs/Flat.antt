-- A heap as a table of heads and one row of values.
use Rattle.std.specs.Prelude.{◌≡◌, ℕ, ◌+◌, ◌<◌, ◌≤◌, ◌^◌, ◌⊎◌, ⊤, List, [], ◌∷◌, length, map, take, drop, Option, Some, None, slice_set}
use Rattle.cc_meaning.specs.declared.value.Object.{Object}
use Rattle.cc_meaning.specs.declared.value.Object.TheVariants as object
use Rattle.cc_meaning.specs.declared.value.Value.{Value}
use Rattle.cc_world.specs.Shapes.{size_of, values_of}
use Rattle.cc_world.specs.declared.heap.Form.{Form}
use Rattle.cc_world.specs.declared.heap.Form.TheVariants as form
use Rattle.cc_world.specs.declared.heap.Head.{Head}
use Rattle.cc_world.specs.declared.shape.Shape.{Shape}
use Rattle.cc_world.specs.declared.shape.Shape.TheVariants as shape
use Rattle.cc_world.specs.declared.heap.Head.TheVariants as head

-- a part of the row
abbrev pub span : (from len : ℕ) → List Value → List Value
span from len row = take len (drop from row)

abbrev pub formed : Form → ℕ → List Value → Object
formed form.Instance class values = object.Instance class values
formed form.Array class values = object.Array class values

abbrev pub shape_formed : Form → (class len : ℕ) → Shape
shape_formed form.Instance class len = shape.Instance class len
shape_formed form.Array class len = shape.Array class len

-- the object of a head
abbrev pub object_in : List Value → Head → Object
object_in row head.Out = object.Out
object_in row (head.Slots form class from len) = formed form class (span from len row)
object_in row (head.Text units) = object.Text units
object_in row (head.Builder units) = object.Builder units
object_in row (head.Constant class) = object.Constant class

abbrev pub objects_in : List Value → List Head → List Object
objects_in row heads = map (object_in row) heads

-- how many values of the row a head has
abbrev pub slots_in : Head → ℕ
slots_in (head.Slots form class from len) = len
slots_in _ = 0

-- A head whose values begin at a place. The lengths of all fit 32 bits.
abbrev pub FitsAt : ℕ → Head → Type 0
FitsAt at head.Out = ⊤
FitsAt at (head.Slots form class from len) = (from ≡ at) × (len < 2 ^ 32)
FitsAt at (head.Text units) = length units < 2 ^ 32
FitsAt at (head.Builder units) = length units < 2 ^ 32
FitsAt at (head.Constant class) = ⊤

-- The values of each object begin where those of the one before it end, and the last ones end with the row.
abbrev pub Laid : (at : ℕ) → List Head → List Value → Type 0
Laid at [] row = at ≡ length row
Laid at (h ∷ rest) row = FitsAt at h × Laid (at + slots_in h) rest row

-- the objects of a heap, and how many objects and values can still be put in without memory
pub record Stored : Type 0 where
  pub objects : List Object
  pub spare_objects : ℕ
  pub spare_slots : ℕ

-- ---- what a heap is after a call

-- that object is written at a number, and nothing else
abbrev pub Rewrites : Option Object → ℕ → (old new : Stored) → Type 0
Rewrites None id old new = ⊥
Rewrites (Some o) id old new = new ≡ record old { objects = slice_set old.objects id o }

-- the same objects, and no less room
pub record SameHeap (old new : Stored) : Type 0 where
  pub objects : new.objects ≡ old.objects
  pub spare_objects : old.spare_objects ≤ new.spare_objects
  pub spare_slots : old.spare_slots ≤ new.spare_slots

-- an object takes room for one object and for its values
pub record HeapTakes (o : Object) (old new : Stored) : Type 0 where
  pub objects : old.spare_objects ≤ new.spare_objects + 1
  pub slots : old.spare_slots ≤ new.spare_slots + length (values_of o)

abbrev pub HeapLacks : Object → Stored → Type 0
HeapLacks o old = (old.spare_objects ≡ 0) ⊎ ((old.spare_slots < length (values_of o)) ⊎ (2 ^ 32 ≤ size_of o))

-- a head that has no values, and not too many units
abbrev pub IsWhole : Head → Type 0
IsWhole head.Out = ⊤
IsWhole (head.Slots form class from len) = ⊥
IsWhole (head.Text units) = length units < 2 ^ 32
IsWhole (head.Builder units) = length units < 2 ^ 32
IsWhole (head.Constant class) = ⊤
