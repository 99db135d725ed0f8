-- What instructions reckon: whole numbers, kept in a width in two's complement (Dalvik bytecode, section Summary of bytecode set).
use Rattle.std.specs.Prelude.{◌≡◌, ℕ, ◌^◌, ◌/◌, ℤ, pos, neg_ℤ, ◌+ℤ◌, ◌-ℤ◌, ◌*ℤ◌, unsigned_abs}
use Rattle.std.specs.Int.{Width, w8, w16, w32, int_wrap, int_div_euclid, int_rem_euclid, int_bit_and, int_bit_or, int_bit_xor, int_bit_not, int_signum}
use Rattle.std.specs.Int.RustNames.{int_div, int_rem}
use mir.Val.{bits}
use Rattle.cc_meaning.specs.declared.instruction.IntOp.{IntOp}
use Rattle.cc_meaning.specs.declared.instruction.IntOp.TheVariants as op
use Rattle.cc_meaning.specs.declared.instruction.UnaryOp.{UnaryOp}
use Rattle.cc_meaning.specs.declared.instruction.UnaryOp.TheVariants as unary
use Rattle.cc_meaning.specs.declared.instruction.Conversion.{Conversion}
use Rattle.cc_meaning.specs.declared.instruction.Conversion.TheVariants as conversion

-- the number from 0 to below `size` that differs from z by a multiple of it
abbrev pub modulo : ℤ → ℕ → ℕ
modulo z size = unsigned_abs (int_rem_euclid z (pos size))

-- how far a shift goes: its count modulo the width, which is the low 5 bits for an int and the low 6 for a long
abbrev pub shift_by : Width → ℤ → ℕ
shift_by w count = modulo count (bits w)

-- What an operation on two numbers of width w comes to. `int_wrap w z` is the number of that width that differs from z by a multiple of 2 ^ bits.
-- A quotient is rounded towards zero, and a remainder has the dividend's sign. A shift to the left multiplies by a power of two; one to the right
-- divides by it and rounds down, the last one (`Ushr`) with the left number taken as one without a sign.
abbrev pub op_value : Width → IntOp → ℤ → ℤ → ℤ
op_value w op.Add a b = int_wrap w (a +ℤ b)
op_value w op.Sub a b = int_wrap w (a -ℤ b)
op_value w op.Mul a b = int_wrap w (a *ℤ b)
op_value w op.Div a b = int_wrap w (int_div a b)
op_value w op.Rem a b = int_rem a b
op_value w op.And a b = int_bit_and w a b
op_value w op.Or a b = int_bit_or w a b
op_value w op.Xor a b = int_bit_xor w a b
op_value w op.Shl a b = int_wrap w (a *ℤ pos (2 ^ shift_by w b))
op_value w op.Shr a b = int_div_euclid a (pos (2 ^ shift_by w b))
op_value w op.Ushr a b = int_wrap w (pos (modulo a (2 ^ bits w) / 2 ^ shift_by w b))

-- the operation is a division or a remainder, by zero
abbrev pub DividesByZero : IntOp → ℤ → Type 0
DividesByZero op.Div b = b ≡ pos 0
DividesByZero op.Rem b = b ≡ pos 0
DividesByZero _ b = ⊥

-- what an operation on one number of width w comes to: the negative, or each bit's opposite
abbrev pub unary_value : Width → UnaryOp → ℤ → ℤ
unary_value w unary.Negate a = int_wrap w (neg_ℤ a)
unary_value w unary.Not a = int_bit_not w a

-- -1, 0 or 1, as the first number is less, equal or greater
abbrev pub compared : ℤ → ℤ → ℤ
compared a b = int_signum (a -ℤ b)

-- what a conversion comes to: the number in the narrower width, and a char without a sign
abbrev pub converted : Conversion → ℤ → ℤ
converted conversion.IntToLong a = a
converted conversion.LongToInt a = int_wrap w32 a
converted conversion.IntToByte a = int_wrap w8 a
converted conversion.IntToChar a = pos (modulo a (2 ^ 16))
converted conversion.IntToShort a = int_wrap w16 a
