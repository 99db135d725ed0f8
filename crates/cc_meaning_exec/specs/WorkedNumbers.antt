-- Worked examples: moves, constants, arithmetic, conversions, branches and switches.
use Rattle.std.specs.Prelude.{◌≡◌, ℕ, pos, negsuc, true, false, List, [], ◌∷◌, Option, Some, None}
use Rattle.cc_meaning.specs.declared.instruction.Conversion.TheVariants as conversion
use Rattle.cc_meaning.specs.declared.instruction.Insn.TheVariants as insn
use Rattle.cc_meaning.specs.declared.instruction.IntOp.{IntOp}
use Rattle.cc_meaning.specs.declared.instruction.IntOp.TheVariants as op
use Rattle.cc_meaning.specs.declared.instruction.Kind.TheVariants as kind
use Rattle.cc_meaning.specs.declared.instruction.Test.{Test}
use Rattle.cc_meaning.specs.declared.instruction.Test.TheVariants as test
use Rattle.cc_meaning.specs.declared.instruction.UnaryOp.TheVariants as unary
use Rattle.cc_meaning.specs.declared.program.Code.{Code}
use Rattle.cc_meaning.specs.BuiltIn.{arithmetic_exception_name}
use Rattle.cc_meaning_exec.specs.WorkedPrograms.{code, comes_to, Throws, Gives, Jams, gives_int, gives_long, int, long, null}

-- an operation on the two arguments
abbrev pub of_ints : IntOp → Code
of_ints o = code 2 (insn.IntOp o 0 0 1 ∷ insn.Return kind.Plain 0 ∷ [])

abbrev pub of_longs : IntOp → Code
of_longs o = code 4 (insn.LongOp o 0 0 2 ∷ insn.Return kind.Wide 0 ∷ [])

-- a number of 32 bits with 3 to its right
abbrev pub with_three : IntOp → Code
with_three o = code 1 (insn.IntLit o true 0 0 (pos 3) ∷ insn.Return kind.Plain 0 ∷ [])

pub record NumbersHold : Type 0 where
  pub adds : comes_to (of_ints op.Add) (int (pos 3) ∷ int (pos 4) ∷ []) ≡ gives_int (pos 7)
  pub wraps : comes_to (of_ints op.Add) (int (pos 2147483647) ∷ int (pos 1) ∷ []) ≡ gives_int (negsuc 2147483647)
  pub rounds_to_zero : comes_to (of_ints op.Div) (int (negsuc 6) ∷ int (pos 2) ∷ []) ≡ gives_int (negsuc 2)
  pub remainder : comes_to (of_ints op.Rem) (int (negsuc 6) ∷ int (pos 2) ∷ []) ≡ gives_int (negsuc 0)
  pub least_by_minus_one : comes_to (of_ints op.Div) (int (negsuc 2147483647) ∷ int (negsuc 0) ∷ []) ≡ gives_int (negsuc 2147483647)
  pub by_zero : comes_to (of_ints op.Div) (int (pos 1) ∷ int (pos 0) ∷ []) ≡ Throws arithmetic_exception_name
  pub remainder_by_zero : comes_to (of_ints op.Rem) (int (pos 1) ∷ int (pos 0) ∷ []) ≡ Throws arithmetic_exception_name
  pub shifts_by_low_bits : comes_to (of_ints op.Shl) (int (pos 1) ∷ int (pos 33) ∷ []) ≡ gives_int (pos 2)
  pub shifts_unsigned : comes_to (of_ints op.Ushr) (int (negsuc 0) ∷ int (pos 28) ∷ []) ≡ gives_int (pos 15)
  pub long_product : comes_to (of_longs op.Mul) (long (pos 4294967296) ∷ long (pos 3) ∷ []) ≡ gives_long (pos 12884901888)
  pub long_by_zero : comes_to (of_longs op.Div) (long (pos 1) ∷ long (pos 0) ∷ []) ≡ Throws arithmetic_exception_name
  pub long_shift : comes_to (code 3 (insn.LongOp op.Shl 0 0 2 ∷ insn.Return kind.Wide 0 ∷ [])) (long (pos 1) ∷ int (pos 65) ∷ []) ≡ gives_long (pos 2)
  pub literal_minus : comes_to (with_three op.Sub) (int (pos 10) ∷ []) ≡ gives_int (negsuc 6)
  pub negates : comes_to (code 1 (insn.IntUnary unary.Negate 0 0 ∷ insn.Return kind.Plain 0 ∷ [])) (int (pos 5) ∷ []) ≡ gives_int (negsuc 4)
  pub inverts : comes_to (code 2 (insn.LongUnary unary.Not 0 0 ∷ insn.Return kind.Wide 0 ∷ [])) (long (pos 0) ∷ []) ≡ gives_long (negsuc 0)
  pub to_byte : comes_to (code 1 (insn.Convert conversion.IntToByte 0 0 ∷ insn.Return kind.Plain 0 ∷ [])) (int (pos 200) ∷ []) ≡ gives_int (negsuc 55)
  pub to_char : comes_to (code 1 (insn.Convert conversion.IntToChar 0 0 ∷ insn.Return kind.Plain 0 ∷ [])) (int (negsuc 0) ∷ []) ≡ gives_int (pos 65535)
  pub to_long : comes_to (code 3 (insn.Convert conversion.IntToLong 0 2 ∷ insn.Return kind.Wide 0 ∷ [])) (int (negsuc 4) ∷ []) ≡ gives_long (negsuc 4)
  pub compares_longs : comes_to (code 4 (insn.CompareLong 0 0 2 ∷ insn.Return kind.Plain 0 ∷ [])) (long (pos 1) ∷ long (pos 2) ∷ []) ≡ gives_int (negsuc 0)

-- ---- moves and constants

pub record MovesHold : Type 0 where
  pub constant : comes_to (code 1 (insn.ConstInt 0 (pos 7) ∷ insn.Nop ∷ insn.Return kind.Plain 0 ∷ [])) [] ≡ gives_int (pos 7)
  pub long_constant : comes_to (code 4 (insn.ConstLong 0 (pos 9) ∷ insn.Move kind.Wide 2 0 ∷ insn.Return kind.Wide 2 ∷ [])) [] ≡ gives_long (pos 9)
  -- an int 0 is moved as a reference, and stays an int
  pub null_stays_int :
      comes_to (code 2 (insn.ConstInt 0 (pos 0) ∷ insn.Move kind.Object 1 0 ∷ insn.IntLit op.Add true 1 1 (pos 4) ∷ insn.Return kind.Plain 1 ∷ [])) [] ≡ gives_int (pos 4)
  -- and where it leaves the registers as a reference, it is null
  pub null_is_returned : comes_to (code 1 (insn.ConstInt 0 (pos 0) ∷ insn.Return kind.Object 0 ∷ [])) [] ≡ Gives (Some null)
  pub nothing_is_returned : comes_to (code 0 (insn.ReturnVoid ∷ [])) [] ≡ Gives None
  -- a register that was never written is no int, and past the code there is no instruction
  pub unset : comes_to (code 1 (insn.Return kind.Plain 0 ∷ [])) [] ≡ Jams
  pub past_the_end : comes_to (code 0 (insn.Nop ∷ [])) [] ≡ Jams

-- ---- branches

-- 1 where the test of the arguments holds, else 0
abbrev pub tested : Test → Code
tested t = code 3 (insn.If t 1 2 (pos 3) ∷ insn.ConstInt 0 (pos 0) ∷ insn.Return kind.Plain 0 ∷ insn.ConstInt 0 (pos 1) ∷ insn.Return kind.Plain 0 ∷ [])

-- counts from 0 to 3, by a branch back
abbrev pub counting : Code
counting = code 2 (insn.ConstInt 0 (pos 0) ∷ insn.IntLit op.Add true 0 0 (pos 1) ∷ insn.IntLit op.Add true 1 0 (negsuc 2) ∷ insn.IfZero test.Lt 1 (negsuc 1)
    ∷ insn.Goto (pos 2) ∷ insn.Nop ∷ insn.Return kind.Plain 0 ∷ [])

-- 10 behind the switch, 20 and 30 at its targets
abbrev pub switching : Code
switching = code 2 (insn.Switch true 1 (pos 7) ∷ insn.ConstInt 0 (pos 10) ∷ insn.Return kind.Plain 0 ∷ insn.ConstInt 0 (pos 20) ∷ insn.Return kind.Plain 0
    ∷ insn.ConstInt 0 (pos 30) ∷ insn.Return kind.Plain 0 ∷ insn.PackedPayload (pos 2147483647) (pos 3 ∷ pos 5 ∷ []) ∷ [])

abbrev pub picking : Code
picking = code 2 (insn.Switch false 1 (pos 5) ∷ insn.ConstInt 0 (pos 10) ∷ insn.Return kind.Plain 0 ∷ insn.ConstInt 0 (pos 20) ∷ insn.Return kind.Plain 0
    ∷ insn.SparsePayload (negsuc 0 ∷ pos 9 ∷ []) (pos 1 ∷ pos 3 ∷ []) ∷ [])

pub record BranchesHold : Type 0 where
  pub equal : comes_to (tested test.Eq) (int (pos 4) ∷ int (pos 4) ∷ []) ≡ gives_int (pos 1)
  pub unequal : comes_to (tested test.Ne) (int (pos 4) ∷ int (pos 4) ∷ []) ≡ gives_int (pos 0)
  pub less : comes_to (tested test.Lt) (int (negsuc 0) ∷ int (pos 0) ∷ []) ≡ gives_int (pos 1)
  pub greater : comes_to (tested test.Gt) (int (negsuc 0) ∷ int (pos 0) ∷ []) ≡ gives_int (pos 0)
  -- null and the int 0 are the same reference
  pub nulls : comes_to (tested test.Eq) (null ∷ int (pos 0) ∷ []) ≡ gives_int (pos 1)
  pub loop : comes_to counting [] ≡ gives_int (pos 3)
  pub first_case : comes_to switching (int (pos 2147483647) ∷ []) ≡ gives_int (pos 20)
  -- keys are whole numbers, so no int has the second key
  pub no_second_case : comes_to switching (int (negsuc 2147483647) ∷ []) ≡ gives_int (pos 10)
  pub sparse_case : comes_to picking (int (pos 9) ∷ []) ≡ gives_int (pos 20)
  pub no_sparse_case : comes_to picking (int (pos 0) ∷ []) ≡ gives_int (pos 10)
