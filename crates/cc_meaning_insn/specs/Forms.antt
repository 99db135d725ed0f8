-- The instruction that the units of an opcode give, format by format (Dalvik executable instruction formats, section The formats). A, B, C .. are the
-- operands as that page names them.
use Rattle.std.specs.Prelude.{ℕ, suc, zero, ◌+◌, ◌-◌, ◌*◌, ◌/◌, ◌%◌, ◌^◌, nat_lt, if◌then◌else◌, true, false, List, [], ◌∷◌, take, ℤ, pos, neg_ℤ}
use Rattle.std.specs.Int.{w8, w16, w32, w64, cast_signed}
use Rattle.cc_meaning.specs.declared.instruction.TypeRef.TheVariants as type
use Rattle.cc_meaning.specs.declared.instruction.MethodRef.TheVariants as method
use Rattle.cc_meaning.specs.declared.instruction.Insn.{Insn}
use Rattle.cc_meaning.specs.declared.instruction.Insn.TheVariants as insn
use Rattle.cc_meaning_insn.specs.declared.forms.OneUnit.{OneUnit}
use Rattle.cc_meaning_insn.specs.declared.forms.OneUnit.TheVariants.{F10x, F12x, F11n, F11x, F10t}
use Rattle.cc_meaning_insn.specs.declared.forms.TwoUnits.{TwoUnits}
use Rattle.cc_meaning_insn.specs.declared.forms.TwoUnits.TheVariants.{F20t, F22x, F21t, F21s, F21h, F21c, F23x, F22b, F22t, F22s, F22c}
use Rattle.cc_meaning_insn.specs.declared.forms.ThreeUnits.{ThreeUnits}
use Rattle.cc_meaning_insn.specs.declared.forms.ThreeUnits.TheVariants.{F30t, F32x, F31i, F31t, F31c}
use Rattle.cc_meaning_insn.specs.declared.forms.Bare.{Bare}
use Rattle.cc_meaning_insn.specs.declared.forms.Bare.TheVariants as bare
use Rattle.cc_meaning_insn.specs.declared.forms.Single.{Single}
use Rattle.cc_meaning_insn.specs.declared.forms.Single.TheVariants as single
use Rattle.cc_meaning_insn.specs.declared.forms.Pair.{Pair}
use Rattle.cc_meaning_insn.specs.declared.forms.Pair.TheVariants as pair
use Rattle.cc_meaning_insn.specs.declared.forms.Triple.{Triple}
use Rattle.cc_meaning_insn.specs.declared.forms.Triple.TheVariants as triple
use Rattle.cc_meaning_insn.specs.declared.forms.Constant.{Constant}
use Rattle.cc_meaning_insn.specs.declared.forms.Constant.TheVariants as constant
use Rattle.cc_meaning_insn.specs.declared.forms.Named.{Named}
use Rattle.cc_meaning_insn.specs.declared.forms.Named.TheVariants as named
use Rattle.cc_meaning_insn.specs.declared.forms.PairNamed.{PairNamed}
use Rattle.cc_meaning_insn.specs.declared.forms.PairNamed.TheVariants as pair_named
use Rattle.cc_meaning_insn.specs.declared.forms.Distant.{Distant}
use Rattle.cc_meaning_insn.specs.declared.forms.Distant.TheVariants as distant
use Rattle.cc_meaning_insn.specs.declared.forms.Listed.{Listed}
use Rattle.cc_meaning_insn.specs.declared.forms.Listed.TheVariants as listed

-- ---- the parts of a unit

-- the high byte, and its two halves
abbrev pub high_byte : ℕ → ℕ
high_byte unit = unit / 256

abbrev pub low_half : ℕ → ℕ
low_half byte = byte % 16

abbrev pub high_half : ℕ → ℕ
high_half byte = byte / 16

-- four bits, of which the highest is the sign
abbrev pub signed_half : ℕ → ℤ
signed_half n = if nat_lt n 8 then pos n else neg_ℤ (pos (16 - n))

-- two units as one number, the lowest first
abbrev pub two_units_of : ℕ → ℕ → ℕ
two_units_of low high = low + 65536 * high

-- two units as a signed number
abbrev pub int_of : ℕ → ℕ → ℤ
int_of low high = cast_signed w32 (two_units_of low high)

-- four units as a signed number, the lowest first
abbrev pub long_of : ℕ → ℕ → ℕ → ℕ → ℤ
long_of a b c d = cast_signed w64 (two_units_of a b + 2 ^ 32 * two_units_of c d)

-- ---- what operands make

abbrev pub of_bare : Bare → Insn
of_bare bare.Nop = insn.Nop
of_bare bare.ReturnVoid = insn.ReturnVoid

abbrev pub of_single : Single → ℕ → Insn
of_single (single.MoveResult kind) a = insn.MoveResult kind a
of_single single.MoveException a = insn.MoveException a
of_single (single.Return kind) a = insn.Return kind a
of_single single.MonitorEnter a = insn.Monitor true a
of_single single.MonitorExit a = insn.Monitor false a
of_single single.Throw a = insn.Throw a

abbrev pub of_pair : Pair → ℕ → ℕ → Insn
of_pair (pair.Move kind) a b = insn.Move kind a b
of_pair pair.ArrayLength a b = insn.ArrayLength a b
of_pair (pair.IntUnary op) a b = insn.IntUnary op a b
of_pair (pair.LongUnary op) a b = insn.LongUnary op a b
of_pair (pair.Convert op) a b = insn.Convert op a b
of_pair (pair.IntOp op) a b = insn.IntOp op a a b
of_pair (pair.LongOp op) a b = insn.LongOp op a a b

abbrev pub of_triple : Triple → ℕ → ℕ → ℕ → Insn
of_triple triple.CompareLong a b c = insn.CompareLong a b c
of_triple (triple.ArrayGet kind) a b c = insn.ArrayGet kind a b c
of_triple (triple.ArrayPut kind) a b c = insn.ArrayPut kind a b c
of_triple (triple.IntOp op) a b c = insn.IntOp op a b c
of_triple (triple.LongOp op) a b c = insn.LongOp op a b c

abbrev pub of_constant : Constant → ℕ → ℤ → Insn
of_constant constant.Int a value = insn.ConstInt a value
of_constant constant.Long a value = insn.ConstLong a value

-- a constant whose highest 16 bits are these
abbrev pub of_high : Constant → ℕ → ℕ → Insn
of_high constant.Int a b = insn.ConstInt a (cast_signed w32 (b * 2 ^ 16))
of_high constant.Long a b = insn.ConstLong a (cast_signed w64 (b * 2 ^ 48))

abbrev pub of_named : Named → ℕ → ℕ → Insn
of_named named.ConstText a row = insn.ConstText a row
of_named named.ConstClass a row = insn.ConstClass a (type.Row row)
of_named named.CheckCast a row = insn.CheckCast a (type.Row row)
of_named named.NewInstance a row = insn.NewInstance a (type.Row row)
of_named (named.StaticGet kind) a row = insn.StaticGet kind a row
of_named (named.StaticPut kind) a row = insn.StaticPut kind a row

abbrev pub of_pair_named : PairNamed → ℕ → ℕ → ℕ → Insn
of_pair_named pair_named.InstanceOf a b row = insn.InstanceOf a b (type.Row row)
of_pair_named pair_named.NewArray a b row = insn.NewArray a b (type.Row row)
of_pair_named (pair_named.FieldGet kind) a b row = insn.FieldGet kind a b row
of_pair_named (pair_named.FieldPut kind) a b row = insn.FieldPut kind a b row

abbrev pub of_distant : Distant → ℕ → ℤ → Insn
of_distant distant.FillArray a target = insn.FillArray a target
of_distant distant.PackedSwitch a target = insn.Switch true a target
of_distant distant.SparseSwitch a target = insn.Switch false a target

abbrev pub of_listed : Listed → ℕ → List ℕ → Insn
of_listed listed.FilledNewArray row args = insn.FilledNewArray (type.Row row) args
of_listed (listed.Invoke how) row args = insn.Invoke how (method.Row row) args

-- ---- the units of each format; `h` is the high byte of the first unit

unfoldable pub one_unit : OneUnit → ℕ → Insn
one_unit (F10x form) h = of_bare form
one_unit (F12x form) h = of_pair form (low_half h) (high_half h)
one_unit F11n h = insn.ConstInt (low_half h) (signed_half (high_half h))
one_unit (F11x form) h = of_single form h
one_unit F10t h = insn.Goto (cast_signed w8 h)

unfoldable pub two_units : TwoUnits → ℕ → ℕ → Insn
two_units F20t h b = insn.Goto (cast_signed w16 b)
two_units (F22x kind) h b = insn.Move kind h b
two_units (F21t test) h b = insn.IfZero test h (cast_signed w16 b)
two_units (F21s form) h b = of_constant form h (cast_signed w16 b)
two_units (F21h form) h b = of_high form h b
two_units (F21c form) h b = of_named form h b
two_units (F23x form) h b = of_triple form h (b % 256) (high_byte b)
two_units (F22b op reversed) h b = insn.IntLit op reversed h (b % 256) (cast_signed w8 (high_byte b))
two_units (F22t test) h b = insn.If test (low_half h) (high_half h) (cast_signed w16 b)
two_units (F22s op reversed) h b = insn.IntLit op reversed (low_half h) (high_half h) (cast_signed w16 b)
two_units (F22c form) h b = of_pair_named form (low_half h) (high_half h) b

unfoldable pub three_units : ThreeUnits → ℕ → ℕ → ℕ → Insn
three_units F30t h b c = insn.Goto (int_of b c)
three_units (F32x kind) h b c = insn.Move kind b c
three_units (F31i form) h b c = of_constant form h (int_of b c)
three_units (F31t form) h b c = of_distant form h (int_of b c)
three_units F31c h b c = insn.ConstText h (two_units_of b c)

-- the four halves of a unit and a fifth one, the lowest first
abbrev pub five_halves : ℕ → ℕ → List ℕ
five_halves unit fifth = unit % 16 ∷ (unit / 16 % 16) ∷ (unit / 256 % 16) ∷ (unit / 4096) ∷ fifth ∷ []

-- 35c: A is the count, B the row; the arguments are C, D, E and F, which the third unit holds, and G
unfoldable pub listed_units : Listed → ℕ → ℕ → ℕ → Insn
listed_units form h b c = of_listed form b (take (high_half h) (five_halves c (low_half h)))

-- that many registers, one after the other; behind the last one, 65535, comes register 0
unfoldable pub registers_from : ℕ → ℕ → List ℕ
registers_from zero first = []
registers_from (suc count) first = first ∷ registers_from count ((first + 1) % 65536)

-- 3rc: A is the count, B the row, C the first argument
unfoldable pub ranged_units : Listed → ℕ → ℕ → ℕ → Insn
ranged_units form h b c = of_listed form b (registers_from h c)
