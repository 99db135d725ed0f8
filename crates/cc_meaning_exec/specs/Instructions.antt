-- What each instruction does.
use Rattle.std.specs.Prelude.{ℕ, suc, ◌+◌, ℤ, pos, ◌-ℤ◌, Bool, true, false, cond, List, [], ◌∷◌, length, map, Option, Some, None, slice_get, unwrap_or, option_and_then}
use Rattle.std.specs.Int.{w32, w64}
use Rattle.cc_meaning.specs.declared.instruction.Insn.{Insn}
use Rattle.cc_meaning.specs.declared.instruction.Insn.TheVariants as insn
use Rattle.cc_meaning.specs.declared.instruction.Kind.{Kind}
use Rattle.cc_meaning.specs.declared.instruction.Kind.TheVariants as kind
use Rattle.cc_meaning.specs.declared.instruction.MethodRef.TheVariants as ref
use Rattle.cc_meaning.specs.declared.instruction.TypeRef.{TypeRef}
use Rattle.cc_meaning.specs.declared.instruction.TypeRef.TheVariants as type
use Rattle.cc_meaning.specs.declared.program.Base.{Base}
use Rattle.cc_meaning.specs.declared.program.Base.TheVariants as base
use Rattle.cc_meaning.specs.declared.program.Code.{Code}
use Rattle.cc_meaning.specs.declared.program.DexType.{DexType}
use Rattle.cc_meaning.specs.declared.program.Method.{Method}
use Rattle.cc_meaning.specs.declared.program.MethodKind.{MethodKind}
use Rattle.cc_meaning.specs.declared.program.MethodKind.TheVariants as kinds
use Rattle.cc_meaning.specs.declared.program.Placed.{Placed}
use Rattle.cc_meaning.specs.declared.program.Program.{Program}
use Rattle.cc_meaning.specs.declared.value.Object.{Object}
use Rattle.cc_meaning.specs.declared.value.Object.TheVariants as object
use Rattle.cc_meaning.specs.declared.value.Value.{Value}
use Rattle.cc_meaning.specs.declared.value.Value.TheVariants as value
use Rattle.cc_meaning.specs.BuiltIn.{class_cast_exception_name, negative_array_size_exception_name}
use Rattle.cc_meaning.specs.Kinds.{kind_of}
use Rattle.cc_meaning_insn.specs.Arithmetic.{unary_value, compared}
use Rattle.cc_meaning_typing.specs.Code.{placed_at, insn_at, address, element_of}
use Rattle.cc_meaning_world.specs.World.{Locals}
use Rattle.cc_meaning_world.specs.Layouts.{slot, slot_in, new_object}
use Rattle.cc_meaning_world.specs.Casts.{passes}
use Rattle.cc_meaning_world.specs.Acts.{Act, Done, Make, Look, ClassOf, Put, GetStatic, PutStatic, Literal, ClassConstant, Returns, Throws, Stuck}
use Rattle.cc_meaning_world.specs.Throwing.{on_some, throw_new, or_throw}
use Rattle.cc_meaning_rows.specs.Calls.{truth}
use Rattle.cc_meaning_exec.specs.Registers.{int_in, reference_in, cell_at, on_int, on_long, on_value_of, on_reference_or_null, on_reference, go_on, set_next, go_back, move_cell}
use Rattle.cc_meaning_exec.specs.Numbers.{operated, operated_as, or_divided_by_zero, second_in, converted_in, kept, compares, compares_zero, branch}
use Rattle.cc_meaning_exec.specs.Arrays.{element_type_of, element_at, place_in, or_out_of_bounds, stored, on_array, size_of, array_class, zero_elements, elements_from, numbers_in, element_value, fill_with, chosen, switch_to}
use Rattle.cc_meaning_exec.specs.Dispatch.{invoke}

-- ---- objects and types that are named

-- the value of an instance's field
unfoldable pub value_at : Program → ℕ → Object → Option Value
value_at p field (object.Instance class values) = option_and_then (slice_get values) (slot p class field)
value_at p field _ = None

unfoldable pub make_of : Program → Base → ℕ → Locals → ℕ → Act
make_of p (base.Class class) next locals to = Make (new_object p class) (λ a. set_next next locals to (value.Obj (Some a)))
make_of p _ next locals to = Done Stuck

-- null passes each cast
unfoldable pub cast_to : Program → DexType → Option ℕ → Act → Act
cast_to p named None act = act
cast_to p named (Some a) act = ClassOf a (λ t. cond (passes p true t named) act (throw_new p class_cast_exception_name))

-- null is an instance of nothing
unfoldable pub is_instance : Program → DexType → Option ℕ → (Value → Act) → Act
is_instance p named None k = k (truth false)
is_instance p named (Some a) k = ClassOf a (λ t. k (truth (passes p false t named)))

-- the number of the class of a reference type
unfoldable pub class_of_named : Program → DexType → ℕ
class_of_named p named = unwrap_or (array_class p named) 0

-- a new array of a type, and then what follows on it
unfoldable pub make_array : Program → DexType → List Value → (ℕ → Act) → Act
make_array p named values k = Make (object.Array (class_of_named p named) values) k

-- the cell of a register that holds an int, or a reference, is moved
unfoldable pub move_int : ℕ → Locals → (to from : ℕ) → Act
move_int next locals to from = on_int locals from (λ n. move_cell next locals to (cell_at locals from))

unfoldable pub move_reference : ℕ → Locals → (to from : ℕ) → Act
move_reference next locals to from = on_reference_or_null locals from (λ o. move_cell next locals to (cell_at locals from))

-- the numbers of a payload, as elements of an array
unfoldable pub data_for : DexType → Option Insn → List Value
data_for element payload = map (element_value (kind_of element)) (numbers_in payload)

-- ---- the instructions

-- What an instruction at an address does whose successor stands at `next`. `own` is the class of the running method, and `code` its code, in which the payloads
-- stand. A payload is no instruction, and a row that isn't resolved names nothing.
unfoldable pub act_of : Program → (own : ℕ) → Code → (at next : ℕ) → Locals → Insn → Act
act_of p own code at next locals insn.Nop = go_on next locals.cells
act_of p own code at next locals (insn.Move kind.Plain to from) = move_int next locals to from
act_of p own code at next locals (insn.Move kind.Wide to from) = on_long locals from (λ n. set_next next locals to (value.Long n))
act_of p own code at next locals (insn.Move kind.Object to from) = move_reference next locals to from
act_of p own code at next locals (insn.MoveResult k to) = on_some locals.pending (set_next next locals to)
act_of p own code at next locals (insn.MoveException to) = on_some locals.pending (set_next next locals to)
act_of p own code at next locals insn.ReturnVoid = Done (Returns None)
act_of p own code at next locals (insn.Return k from) = on_value_of k locals from (λ v. Done (Returns (Some v)))
act_of p own code at next locals (insn.ConstInt to n) = set_next next locals to (value.Int n)
act_of p own code at next locals (insn.ConstLong to n) = set_next next locals to (value.Long n)
act_of p own code at next locals (insn.ConstText to text) = Literal text (λ a. set_next next locals to (value.Obj (Some a)))
act_of p own code at next locals (insn.ConstClass to (type.Known named)) = ClassConstant (class_of_named p named) (λ a. set_next next locals to (value.Obj (Some a)))
act_of p own code at next locals (insn.Monitor enter object) = on_reference p locals object (λ a. go_on next locals.cells)
act_of p own code at next locals (insn.CheckCast object (type.Known named)) = on_reference_or_null locals object (λ o. cast_to p named o (go_on next locals.cells))
act_of p own code at next locals (insn.InstanceOf to object (type.Known named)) = on_reference_or_null locals object (λ o. is_instance p named o (set_next next locals to))
act_of p own code at next locals (insn.ArrayLength to array) = on_array p locals array (λ a o values. set_next next locals to (value.Int (pos (length values))))
act_of p own code at next locals (insn.NewInstance to (type.Known named)) = make_of p named.base next locals to
act_of p own code at next locals (insn.NewArray to size (type.Known named)) =
    on_int locals size (λ n. or_throw p negative_array_size_exception_name (size_of n) (λ count.
    make_array p named (zero_elements named count) (λ a. set_next next locals to (value.Obj (Some a)))))
act_of p own code at next locals (insn.FilledNewArray (type.Known named) args) =
    on_some (elements_from locals.cells (kind_of (element_of named)) args) (λ values. make_array p named values (λ a. go_back next locals (Some (value.Obj (Some a)))))
act_of p own code at next locals (insn.FillArray array target) =
    on_array p locals array (λ a o values. on_some (element_type_of p o) (λ element.
    fill_with p a (length values) (data_for element (insn_at code (address at target))) (go_on next locals.cells)))
act_of p own code at next locals (insn.Throw object) = on_reference p locals object (λ a. Done (Throws a))
act_of p own code at next locals (insn.Goto target) = on_some (address at target) (λ to. go_on to locals.cells)
act_of p own code at next locals (insn.Switch packed value target) = on_int locals value (λ n. switch_to (chosen packed (insn_at code (address at target)) n) at next locals)
act_of p own code at next locals (insn.CompareLong to left right) = on_long locals left (λ x. on_long locals right (λ y. set_next next locals to (value.Int (compared x y))))
act_of p own code at next locals (insn.If t left right target) = on_some (compares t (cell_at locals left) (cell_at locals right)) (λ yes. branch yes next (address at target) locals)
act_of p own code at next locals (insn.IfZero t value target) = on_some (compares_zero t (cell_at locals value)) (λ yes. branch yes next (address at target) locals)
act_of p own code at next locals (insn.ArrayGet k to array index) =
    on_array p locals array (λ a o values. on_int locals index (λ i. or_out_of_bounds p (element_at values i) (set_next next locals to)))
act_of p own code at next locals (insn.ArrayPut k from array index) =
    on_array p locals array (λ a o values. on_int locals index (λ i. or_out_of_bounds p (place_in values i) (λ j.
    on_value_of k locals from (λ v. on_some (element_type_of p o) (λ element. stored p element v (Put a j (kept k v) (go_on next locals.cells)))))))
act_of p own code at next locals (insn.FieldGet k to object field) = on_reference p locals object (λ a. Look a (λ o. on_some (value_at p field o) (set_next next locals to)))
act_of p own code at next locals (insn.FieldPut k from object field) =
    on_value_of k locals from (λ v. on_reference p locals object (λ a. ClassOf a (λ t. on_some (slot_in p t.base field) (λ i. Put a i (kept k v) (go_on next locals.cells)))))
act_of p own code at next locals (insn.StaticGet k to field) = GetStatic field (set_next next locals to)
act_of p own code at next locals (insn.StaticPut k from field) = on_value_of k locals from (λ v. PutStatic field (kept k v) (go_on next locals.cells))
act_of p own code at next locals (insn.Invoke h (ref.Known class m) rs) = invoke p own class h m next locals rs
act_of p own code at next locals (insn.IntUnary o to from) = on_int locals from (λ n. set_next next locals to (value.Int (unary_value w32 o n)))
act_of p own code at next locals (insn.LongUnary o to from) = on_long locals from (λ n. set_next next locals to (value.Long (unary_value w64 o n)))
act_of p own code at next locals (insn.Convert o to from) = on_some (converted_in o (cell_at locals from)) (set_next next locals to)
act_of p own code at next locals (insn.IntOp o to left right) =
    on_int locals left (λ x. on_int locals right (λ y. or_divided_by_zero p (operated w32 o x y) (λ n. set_next next locals to (value.Int n))))
act_of p own code at next locals (insn.LongOp o to left right) =
    on_long locals left (λ x. on_some (second_in o (cell_at locals right)) (λ y. or_divided_by_zero p (operated w64 o x y) (λ n. set_next next locals to (value.Long n))))
act_of p own code at next locals (insn.IntLit o reversed to left literal) =
    on_int locals left (λ x. or_divided_by_zero p (operated_as reversed w32 o x literal) (λ n. set_next next locals to (value.Int n)))
act_of p own code at next locals _ = Done Stuck

-- ---- the instruction at a place

unfoldable pub code_of_kind : MethodKind → Option Code
code_of_kind (kinds.Code code) = Some code
code_of_kind _ = None

unfoldable pub code_of_method : Option Method → Option Code
code_of_method None = None
code_of_method (Some method) = code_of_kind method.kind

-- the code of a method
unfoldable pub code_of : Program → ℕ → Option Code
code_of p m = code_of_method (slice_get p.methods m)

unfoldable pub placed_in : Option Code → ℕ → Option Placed
placed_in None pc = None
placed_in (Some code) pc = placed_at code pc

unfoldable pub insn_in : Option Placed → Option Insn
insn_in None = None
insn_in (Some placed) = Some placed.insn

-- the instruction of a method at an address
unfoldable pub insn_of_method : Program → (method pc : ℕ) → Option Insn
insn_of_method p m pc = insn_in (placed_in (code_of p m) pc)

unfoldable pub own_class : Option Method → ℕ
own_class None = 0
own_class (Some method) = method.class

unfoldable pub act_placed : Program → ℕ → Code → Locals → Option Placed → Act
act_placed p own code locals None = Done Stuck
act_placed p own code locals (Some placed) = act_of p own code placed.at (placed.at + placed.units) locals placed.insn

unfoldable pub act_in : Program → ℕ → Option Code → ℕ → Locals → Act
act_in p own None pc locals = Done Stuck
act_in p own (Some code) pc locals = act_placed p own code locals (placed_at code pc)

-- what the instruction of a method at an address does
unfoldable pub act_at : Program → (method pc : ℕ) → Locals → Act
act_at p m pc locals = act_in p (own_class (slice_get p.methods m)) (code_of p m) pc locals
