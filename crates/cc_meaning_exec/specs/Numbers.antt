-- Numbers: arithmetic, conversions, comparisons, and what a store keeps.
use Rattle.std.specs.Prelude.{ℕ, ◌+◌, ◌*◌, ◌^◌, ℤ, zero, pos, Bool, true, false, cond, not, ◌&&◌, int_lt, int_le, Option, Some, None, option_map}
use Rattle.std.specs.Int.{Width, w8, w16, w32, w64, int_wrap}
use Rattle.cc_meaning.specs.declared.instruction.Conversion.{Conversion}
use Rattle.cc_meaning.specs.declared.instruction.Conversion.TheVariants as conversion
use Rattle.cc_meaning.specs.declared.instruction.IntOp.{IntOp}
use Rattle.cc_meaning.specs.declared.instruction.IntOp.TheVariants as op
use Rattle.cc_meaning.specs.declared.instruction.Kind.{Kind}
use Rattle.cc_meaning.specs.declared.instruction.Kind.TheVariants as kind
use Rattle.cc_meaning.specs.declared.instruction.Test.{Test}
use Rattle.cc_meaning.specs.declared.instruction.Test.TheVariants as test
use Rattle.cc_meaning.specs.declared.program.Program.{Program}
use Rattle.cc_meaning.specs.declared.value.Cell.{Cell}
use Rattle.cc_meaning.specs.declared.value.Cell.TheVariants as cell
use Rattle.cc_meaning.specs.declared.value.Value.{Value}
use Rattle.cc_meaning.specs.declared.value.Value.TheVariants as value
use Rattle.cc_meaning.specs.BuiltIn.{arithmetic_exception_name}
use Rattle.cc_meaning_insn.specs.Arithmetic.{modulo, op_value, converted}
use Rattle.cc_meaning_typing.specs.Code.{divides}
use Rattle.cc_meaning_world.specs.World.{Locals}
use Rattle.cc_meaning_world.specs.Acts.{Act}
use Rattle.cc_meaning_world.specs.Throwing.{on_some, or_throw}
use Rattle.cc_meaning_rows.specs.Calls.{is_same_object}
use Rattle.cc_meaning_exec.specs.Registers.{int_in, long_in, reference_in, go_on}

unfoldable pub is_same_int : ℤ → ℤ → Bool
is_same_int a b = int_le a b && int_le b a

-- ---- arithmetic

-- what an operation on two numbers of a width gives: nothing where it divides by zero
unfoldable pub operated : Width → IntOp → ℤ → ℤ → Option ℤ
operated w o a b = cond (divides o && is_same_int b (pos 0)) None (Some (op_value w o a b))

-- an operation whose operands may stand the other way round
unfoldable pub operated_as : Bool → Width → IntOp → ℤ → ℤ → Option ℤ
operated_as true w o a b = operated w o b a
operated_as false w o a b = operated w o a b

-- a zero divisor throws
unfoldable pub or_divided_by_zero : Program → Option ℤ → (ℤ → Act) → Act
or_divided_by_zero p result k = or_throw p arithmetic_exception_name result k

-- the second operand of an operation on longs: a shift takes its count from an int
unfoldable pub second_in : IntOp → Option Cell → Option ℤ
second_in op.Shl c = int_in c
second_in op.Shr c = int_in c
second_in op.Ushr c = int_in c
second_in _ c = long_in c

-- the number of a register, as another kind of number
unfoldable pub converted_in : Conversion → Option Cell → Option Value
converted_in conversion.IntToLong c = option_map (λ n. value.Long (converted conversion.IntToLong n)) (int_in c)
converted_in conversion.LongToInt c = option_map (λ n. value.Int (converted conversion.LongToInt n)) (long_in c)
converted_in o c = option_map (λ n. value.Int (converted o n)) (int_in c)

-- ---- stores

-- what a store of a number into a field, a static or an element of a kind keeps: its low 1, 8 or 16 bits, with the sign but for a boolean and a char
unfoldable pub kept_bits : Kind → ℤ → ℤ
kept_bits kind.Boolean n = pos (modulo n 2)
kept_bits kind.Byte n = int_wrap w8 n
kept_bits kind.Char n = pos (modulo n (2 ^ 16))
kept_bits kind.Short n = int_wrap w16 n
kept_bits _ n = n

unfoldable pub kept : Kind → Value → Value
kept kind (value.Int n) = value.Int (kept_bits kind n)
kept kind v = v

-- ---- comparisons

unfoldable pub both : {A B : Type 0} → (A → A → B) → Option A → Option A → Option B
both f (Some a) (Some b) = Some (f a b)
both f _ _ = None

unfoldable pub or_else : {A : Type 0} → Option A → Option A → Option A
or_else (Some a) b = Some a
or_else None b = b

-- Two ints, or two references, which are compared for equality alone. The int 0 is either.
unfoldable pub are_same : Option Cell → Option Cell → Option Bool
are_same a b = or_else (both is_same_int (int_in a) (int_in b)) (both is_same_object (reference_in a) (reference_in b))

unfoldable pub compares : Test → Option Cell → Option Cell → Option Bool
compares test.Eq a b = are_same a b
compares test.Ne a b = option_map not (are_same a b)
compares test.Lt a b = both int_lt (int_in a) (int_in b)
compares test.Ge a b = both (λ x y. int_le y x) (int_in a) (int_in b)
compares test.Gt a b = both (λ x y. int_lt y x) (int_in a) (int_in b)
compares test.Le a b = both int_le (int_in a) (int_in b)

-- a register against the int 0
unfoldable pub compares_zero : Test → Option Cell → Option Bool
compares_zero t c = compares t c (Some (cell.Value (value.Int (pos 0))))

-- on at the target of a branch that is taken, else behind it
unfoldable pub branch : Bool → ℕ → Option ℕ → Locals → Act
branch true next target locals = on_some target (λ to. go_on to locals.cells)
branch false next target locals = go_on next locals.cells
