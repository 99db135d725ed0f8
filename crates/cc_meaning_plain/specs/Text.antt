-- What the instructions of a plain file come to in numbers: what a function gives, and what `main` prints.
use Rattle.std.specs.Prelude.{ℕ, suc, ◌-◌, ℤ, pos, List, [], ◌∷◌, ◌++◌, length, replicate, Option, Some, None, slice_get, slice_set}
use Rattle.std.specs.Int.{int_wrapping_add, w32}
use Rattle.cc_meaning_run.specs.Instructions.{line_of}
use Rattle.cc_meaning_plain.specs.declared.plain.PlainInsn.{PlainInsn}
use Rattle.cc_meaning_plain.specs.declared.plain.PlainInsn.TheVariants.{SgetOut, Const4, AddInt2Addr, AddIntLit8, InvokePrintln, CallFunction}
use Rattle.cc_meaning_plain.specs.declared.plain.Last.{Last}
use Rattle.cc_meaning_plain.specs.declared.plain.Last.TheVariants.{ReturnVoid, Return}
use Rattle.cc_meaning_plain.specs.declared.plain.PlainCode.{PlainCode}
use Rattle.cc_meaning_plain.specs.declared.plain.PlainFunction.{PlainFunction}

-- the numbers in the registers, 0 where there is none
abbrev pub number_at : List ℤ → ℕ → ℤ
number_at numbers r = number_in (slice_get numbers r)
  where
    number_in : Option ℤ → ℤ
    number_in None = pos 0
    number_in (Some n) = n

-- ---- functions

-- the registers of a function at its entry: its argument stands in the last one
abbrev pub numbers_at_entry : PlainCode → ℤ → List ℤ
numbers_at_entry code argument = replicate (code.registers - 1) (pos 0) ++ argument ∷ []

-- the numbers in the registers behind instructions that add
unfoldable pub numbers_after : List ℤ → List PlainInsn → List ℤ
numbers_after numbers [] = numbers
numbers_after numbers (SgetOut to ∷ rest) = numbers_after numbers rest
numbers_after numbers (Const4 to value ∷ rest) = numbers_after (slice_set numbers to value) rest
numbers_after numbers (AddInt2Addr to other ∷ rest) = numbers_after (slice_set numbers to (int_wrapping_add w32 (number_at numbers to) (number_at numbers other))) rest
numbers_after numbers (AddIntLit8 to from literal ∷ rest) = numbers_after (slice_set numbers to (int_wrapping_add w32 (number_at numbers from) literal)) rest
numbers_after numbers (InvokePrintln stream number ∷ rest) = numbers_after numbers rest
numbers_after numbers (CallFunction function argument to ∷ rest) = numbers_after numbers rest

abbrev pub number_returned : Last → List ℤ → ℤ
number_returned ReturnVoid numbers = pos 0
number_returned (Return from) numbers = number_at numbers from

-- what a function gives for a number
unfoldable pub value_of : PlainCode → ℤ → ℤ
value_of code argument = number_returned code.last (numbers_after (numbers_at_entry code argument) code.insns)

-- how many instructions a function does
unfoldable pub instructions_of : PlainCode → ℕ
instructions_of code = suc (length code.insns)

-- what the function of a place gives, and how many instructions it does
abbrev pub value_by : Option PlainFunction → ℤ → ℤ
value_by None argument = pos 0
value_by (Some f) argument = value_of f.code argument

abbrev pub instructions_by : Option PlainFunction → ℕ
instructions_by None = 0
instructions_by (Some f) = instructions_of f.code

-- ---- main

-- each number that is printed, in decimal and with a line feed
unfoldable pub text_of : List PlainFunction → List ℤ → List PlainInsn → List ℕ
text_of functions numbers [] = []
text_of functions numbers (SgetOut to ∷ rest) = text_of functions numbers rest
text_of functions numbers (Const4 to value ∷ rest) = text_of functions (slice_set numbers to value) rest
text_of functions numbers (AddInt2Addr to other ∷ rest) = text_of functions (slice_set numbers to (int_wrapping_add w32 (number_at numbers to) (number_at numbers other))) rest
text_of functions numbers (AddIntLit8 to from literal ∷ rest) = text_of functions (slice_set numbers to (int_wrapping_add w32 (number_at numbers from) literal)) rest
text_of functions numbers (InvokePrintln stream number ∷ rest) = line_of (number_at numbers number) ++ text_of functions numbers rest
text_of functions numbers (CallFunction function argument to ∷ rest) = text_of functions (slice_set numbers to (value_by (slice_get functions function) (number_at numbers argument))) rest
