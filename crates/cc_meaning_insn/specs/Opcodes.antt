-- The opcodes from 00 to ff (Dalvik bytecode, section Summary of bytecode set).
use Rattle.std.specs.Prelude.{ℕ, Bool, true, false, List, [], ◌∷◌, ◌++◌, map, replicate, slice_index_or}
use Rattle.cc_meaning.specs.declared.instruction.Kind.{Kind}
use Rattle.cc_meaning.specs.declared.instruction.Kind.TheVariants as kind
use Rattle.cc_meaning.specs.declared.instruction.Test.{Test}
use Rattle.cc_meaning.specs.declared.instruction.Test.TheVariants as test
use Rattle.cc_meaning.specs.declared.instruction.How.{How}
use Rattle.cc_meaning.specs.declared.instruction.How.TheVariants as how
use Rattle.cc_meaning.specs.declared.instruction.IntOp.{IntOp}
use Rattle.cc_meaning.specs.declared.instruction.IntOp.TheVariants as op
use Rattle.cc_meaning.specs.declared.instruction.UnaryOp.TheVariants as unary
use Rattle.cc_meaning.specs.declared.instruction.Conversion.TheVariants as conversion
use Rattle.cc_meaning_insn.specs.declared.forms.Opcode.{Opcode}
use Rattle.cc_meaning_insn.specs.declared.forms.Opcode.TheVariants.{Float, Unused, One, Two, Three, Five, Listed, Ranged}
use Rattle.cc_meaning_insn.specs.declared.forms.OneUnit.TheVariants.{F10x, F12x, F11n, F11x, F10t}
use Rattle.cc_meaning_insn.specs.declared.forms.TwoUnits.TheVariants.{F20t, F22x, F21t, F21s, F21h, F21c, F23x, F22b, F22t, F22s, F22c}
use Rattle.cc_meaning_insn.specs.declared.forms.ThreeUnits.TheVariants.{F30t, F32x, F31i, F31t, F31c}
use Rattle.cc_meaning_insn.specs.declared.forms.Bare.TheVariants as bare
use Rattle.cc_meaning_insn.specs.declared.forms.Single.TheVariants as single
use Rattle.cc_meaning_insn.specs.declared.forms.Pair.TheVariants as pair
use Rattle.cc_meaning_insn.specs.declared.forms.Triple.TheVariants as triple
use Rattle.cc_meaning_insn.specs.declared.forms.Constant.TheVariants as constant
use Rattle.cc_meaning_insn.specs.declared.forms.Named.TheVariants as named
use Rattle.cc_meaning_insn.specs.declared.forms.PairNamed.TheVariants as pair_named
use Rattle.cc_meaning_insn.specs.declared.forms.Distant.TheVariants as distant
use Rattle.cc_meaning_insn.specs.declared.forms.Listed.TheVariants as listed

-- ---- what follows one another in several places

-- one of each kind, in the order of the accesses to arrays, fields and statics
unfoldable pub kinds : List Kind
kinds = kind.Plain ∷ kind.Wide ∷ kind.Object ∷ kind.Boolean ∷ kind.Byte ∷ kind.Char ∷ kind.Short ∷ []

unfoldable pub tests : List Test
tests = test.Eq ∷ test.Ne ∷ test.Lt ∷ test.Ge ∷ test.Gt ∷ test.Le ∷ []

unfoldable pub hows : List How
hows = how.Virtual ∷ how.Super ∷ how.Direct ∷ how.Static ∷ how.Interface ∷ []

unfoldable pub ops : List IntOp
ops = op.Add ∷ op.Sub ∷ op.Mul ∷ op.Div ∷ op.Rem ∷ op.And ∷ op.Or ∷ op.Xor ∷ op.Shl ∷ op.Shr ∷ op.Ushr ∷ []

-- an operation with a literal, and whether the literal is on the left
unfoldable pub literal_ops : List (IntOp × Bool)
literal_ops =
    (op.Add, false) ∷ (op.Sub, true) ∷ (op.Mul, false) ∷ (op.Div, false) ∷ (op.Rem, false) ∷ (op.And, false) ∷ (op.Or, false) ∷ (op.Xor, false) ∷ []

unfoldable pub shifts : List (IntOp × Bool)
shifts = (op.Shl, false) ∷ (op.Shr, false) ∷ (op.Ushr, false) ∷ []

-- a move in its three formats
abbrev pub moves : Kind → List Opcode
moves k = One (F12x (pair.Move k)) ∷ Two (F22x k) ∷ Three (F32x k) ∷ []

-- ---- the table

-- 00 to 11
unfoldable pub moves_and_returns : List Opcode
moves_and_returns =
    -- 00
    One (F10x bare.Nop) ∷ []
    -- 01 to 09
    ++ moves kind.Plain ++ moves kind.Wide ++ moves kind.Object
    -- 0a to 0d
    ++ map (λ k. One (F11x (single.MoveResult k))) (kind.Plain ∷ kind.Wide ∷ kind.Object ∷ [])
    ++ One (F11x single.MoveException) ∷ []
    -- 0e to 11
    ++ One (F10x bare.ReturnVoid) ∷ []
    ++ map (λ k. One (F11x (single.Return k))) (kind.Plain ∷ kind.Wide ∷ kind.Object ∷ [])

-- 12 to 1c
unfoldable pub constants : List Opcode
constants =
    -- 12 to 15: const/4, /16, const, /high16
    One F11n ∷ Two (F21s constant.Int) ∷ Three (F31i constant.Int) ∷ Two (F21h constant.Int) ∷ []
    -- 16 to 19: const-wide/16, /32, const-wide, /high16
    ++ Two (F21s constant.Long) ∷ Three (F31i constant.Long) ∷ Five ∷ Two (F21h constant.Long) ∷ []
    -- 1a to 1c
    ++ Two (F21c named.ConstText) ∷ Three F31c ∷ Two (F21c named.ConstClass) ∷ []

-- 1d to 27
unfoldable pub objects : List Opcode
objects =
    -- 1d to 20
    One (F11x single.MonitorEnter) ∷ One (F11x single.MonitorExit) ∷ Two (F21c named.CheckCast) ∷ Two (F22c pair_named.InstanceOf) ∷ []
    -- 21 to 23
    ++ One (F12x pair.ArrayLength) ∷ Two (F21c named.NewInstance) ∷ Two (F22c pair_named.NewArray) ∷ []
    -- 24 to 27
    ++ Listed listed.FilledNewArray ∷ Ranged listed.FilledNewArray ∷ Three (F31t distant.FillArray) ∷ One (F11x single.Throw) ∷ []

-- 28 to 43
unfoldable pub jumps : List Opcode
jumps =
    -- 28 to 2a
    One F10t ∷ Two F20t ∷ Three F30t ∷ []
    -- 2b, 2c
    ++ Three (F31t distant.PackedSwitch) ∷ Three (F31t distant.SparseSwitch) ∷ []
    -- 2d to 30
    ++ replicate 4 Float
    -- 31
    ++ Two (F23x triple.CompareLong) ∷ []
    -- 32 to 3d
    ++ map (λ t. Two (F22t t)) tests ++ map (λ t. Two (F21t t)) tests
    -- 3e to 43
    ++ replicate 6 Unused

-- 44 to 6d
unfoldable pub accesses : List Opcode
accesses =
    map (λ k. Two (F23x (triple.ArrayGet k))) kinds ++ map (λ k. Two (F23x (triple.ArrayPut k))) kinds
    ++ map (λ k. Two (F22c (pair_named.FieldGet k))) kinds ++ map (λ k. Two (F22c (pair_named.FieldPut k))) kinds
    ++ map (λ k. Two (F21c (named.StaticGet k))) kinds ++ map (λ k. Two (F21c (named.StaticPut k))) kinds

-- 6e to 7a
unfoldable pub invokes : List Opcode
invokes =
    map (λ h. Listed (listed.Invoke h)) hows ++ Unused ∷ []
    ++ map (λ h. Ranged (listed.Invoke h)) hows ++ replicate 2 Unused

-- 7b to 8f
unfoldable pub unary_ops : List Opcode
unary_ops =
    -- 7b to 7e
    One (F12x (pair.IntUnary unary.Negate)) ∷ One (F12x (pair.IntUnary unary.Not)) ∷ []
    ++ One (F12x (pair.LongUnary unary.Negate)) ∷ One (F12x (pair.LongUnary unary.Not)) ∷ []
    -- 7f to 84
    ++ replicate 2 Float ++ One (F12x (pair.Convert conversion.IntToLong)) ∷ []
    ++ replicate 2 Float ++ One (F12x (pair.Convert conversion.LongToInt)) ∷ []
    -- 85 to 8f
    ++ replicate 8 Float
    ++ map (λ to. One (F12x (pair.Convert to))) (conversion.IntToByte ∷ conversion.IntToChar ∷ conversion.IntToShort ∷ [])

-- 90 to cf
unfoldable pub binary_ops : List Opcode
binary_ops =
    map (λ o. Two (F23x (triple.IntOp o))) ops ++ map (λ o. Two (F23x (triple.LongOp o))) ops ++ replicate 10 Float
    ++ map (λ o. One (F12x (pair.IntOp o))) ops ++ map (λ o. One (F12x (pair.LongOp o))) ops ++ replicate 10 Float

-- d0 to ff
unfoldable pub literal_forms : List Opcode
literal_forms =
    map (λ o. Two (F22s o.0 o.1)) literal_ops
    ++ map (λ o. Two (F22b o.0 o.1)) (literal_ops ++ shifts)
    ++ replicate 29 Unused

-- what each opcode from 00 to ff stands for
unfoldable pub opcodes : List Opcode
opcodes = moves_and_returns ++ constants ++ objects ++ jumps ++ accesses ++ invokes ++ unary_ops ++ binary_ops ++ literal_forms

-- what an opcode stands for
unfoldable pub opcode_at : ℕ → Opcode
opcode_at number = slice_index_or opcodes number Unused
