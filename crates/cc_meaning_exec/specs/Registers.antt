-- Reading and writing the registers of a frame.
use Rattle.std.specs.Prelude.{ℕ, zero, suc, ℤ, pos, List, [], ◌∷◌, Option, Some, None, slice_get, slice_set, option_map}
use Rattle.cc_meaning.specs.declared.instruction.Kind.{Kind}
use Rattle.cc_meaning.specs.declared.instruction.Kind.TheVariants as kind
use Rattle.cc_meaning.specs.declared.program.DexType.{DexType}
use Rattle.cc_meaning.specs.declared.program.Program.{Program}
use Rattle.cc_meaning.specs.declared.value.Cell.{Cell}
use Rattle.cc_meaning.specs.declared.value.Cell.TheVariants as cell
use Rattle.cc_meaning.specs.declared.value.Value.{Value}
use Rattle.cc_meaning.specs.declared.value.Value.TheVariants as value
use Rattle.cc_meaning.specs.Kinds.{kind_of}
use Rattle.cc_meaning_world.specs.World.{Locals}
use Rattle.cc_meaning_world.specs.Acts.{Act, Done, Next}
use Rattle.cc_meaning_world.specs.Throwing.{on_some, on_object}

-- ---- reading

unfoldable pub int_in : Option Cell → Option ℤ
int_in (Some (cell.Value (value.Int n))) = Some n
int_in _ = None

-- a long stands in its first register
unfoldable pub long_in : Option Cell → Option ℤ
long_in (Some (cell.Value (value.Long n))) = Some n
long_in _ = None

-- the int 0 in a register is null where a reference is read
unfoldable pub null_of : ℤ → Option (Option ℕ)
null_of (pos zero) = Some None
null_of _ = None

unfoldable pub reference_in : Option Cell → Option (Option ℕ)
reference_in (Some (cell.Value (value.Obj o))) = Some o
reference_in (Some (cell.Value (value.Int n))) = null_of n
reference_in _ = None

-- what a register gives to a form of a kind: a value as fields, elements, arguments and results hold it
unfoldable pub value_in : Kind → Option Cell → Option Value
value_in kind.Wide c = option_map value.Long (long_in c)
value_in kind.Object c = option_map value.Obj (reference_in c)
value_in _ c = option_map value.Int (int_in c)

unfoldable pub cell_at : Locals → ℕ → Option Cell
cell_at locals r = slice_get locals.cells r

-- goes on with the int, the long, the value or the reference of a register
unfoldable pub on_int : Locals → ℕ → (ℤ → Act) → Act
on_int locals r k = on_some (int_in (cell_at locals r)) k

unfoldable pub on_long : Locals → ℕ → (ℤ → Act) → Act
on_long locals r k = on_some (long_in (cell_at locals r)) k

unfoldable pub on_value_of : Kind → Locals → ℕ → (Value → Act) → Act
on_value_of kind locals r k = on_some (value_in kind (cell_at locals r)) k

unfoldable pub on_reference_or_null : Locals → ℕ → (Option ℕ → Act) → Act
on_reference_or_null locals r k = on_some (reference_in (cell_at locals r)) k

-- goes on with the object of a register; null throws
unfoldable pub on_reference : Program → Locals → ℕ → (ℕ → Act) → Act
on_reference p locals r k = on_reference_or_null locals r (λ o. on_object p o k)

-- ---- the arguments of a call

unfoldable pub onto : Option Value → Option (List Value) → Option (List Value)
onto (Some v) (Some vs) = Some (v ∷ vs)
onto _ _ = None

-- a long takes two registers: the first is read, and the second is skipped
unfoldable pub skipping : Kind → List ℕ → List ℕ
skipping kind.Wide [] = []
skipping kind.Wide (r ∷ rs) = rs
skipping _ rs = rs

-- the values of registers, one for each declared type
unfoldable pub values_in : List Cell → List DexType → List ℕ → Option (List Value)
values_in cells [] rs = Some []
values_in cells (t ∷ ts) [] = None
values_in cells (t ∷ ts) (r ∷ rs) = onto (value_in (kind_of t) (slice_get cells r)) (values_in cells ts (skipping (kind_of t) rs))

-- ---- writing

-- a long takes its register and the next one
unfoldable pub cells_with : List Cell → ℕ → Value → List Cell
cells_with cells to (value.Long n) = slice_set (slice_set cells to (cell.Value (value.Long n))) (suc to) cell.High
cells_with cells to v = slice_set cells to (cell.Value v)

-- on at an address with these cells, and nothing pending
unfoldable pub go_on : ℕ → List Cell → Act
go_on next cells = Done (Next next (record { cells = cells; pending = None }))

-- on behind an instruction that wrote a value to a register
unfoldable pub set_next : ℕ → Locals → ℕ → Value → Act
set_next next locals to v = go_on next (cells_with locals.cells to v)

-- on behind an instruction that left something for the next one
unfoldable pub go_back : ℕ → Locals → Option Value → Act
go_back next locals v = Done (Next next (record locals { pending = v }))

-- the cell of a register is moved as it stands, so that an int 0 stays one
unfoldable pub move_cell : ℕ → Locals → ℕ → Option Cell → Act
move_cell next locals to c = on_some c (λ c'. go_on next (slice_set locals.cells to c'))
