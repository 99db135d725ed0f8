-- A worked example of typings: a loop with a handler has one, and a return of a register that holds nothing has none.
use Rattle.std.specs.Prelude.{zero, suc, true, false, [], ◌∷◌, Some, None, codes, pos, negsuc}
use Rattle.cc_meaning.specs.declared.instruction.Insn.TheVariants as insn
use Rattle.cc_meaning.specs.declared.instruction.IntOp.TheVariants as op
use Rattle.cc_meaning.specs.declared.instruction.Kind.TheVariants as kind
use Rattle.cc_meaning.specs.declared.instruction.Test.TheVariants as test
use Rattle.cc_meaning.specs.declared.program.Code.{Code}
use Rattle.cc_meaning.specs.declared.program.Method.{Method}
use Rattle.cc_meaning.specs.declared.program.MethodKind.TheVariants as kinds
use Rattle.cc_meaning.specs.declared.program.Program.{Program}
use Rattle.cc_meaning.specs.declared.program.RegType.{RegType}
use Rattle.cc_meaning.specs.declared.program.RegType.TheVariants.{Unset, Int, Reference}
use Rattle.cc_meaning_typing.specs.declared.state.Pending.TheVariants.{Nothing, Exception}
use Rattle.cc_meaning_typing.specs.declared.state.State.{State}
use Rattle.cc_meaning_typing.specs.Worked.{classes, int_type, throwables, place, catch_of, holding}
use Rattle.cc_meaning_typing.specs.Typing.{Typing}
use Rattle.cc_meaning_typing.specs.WellTyped.{WellTyped}

-- v0 counts up and is divided by v1, until it isn't negative; where v1 is 0 the handler at 8 gives 7
abbrev pub looping : Code
looping = record {
  registers = 2;
  ins = 1;
  insns =
      place 0 1 (insn.ConstInt 0 (pos 0))
      ∷ place 1 2 (insn.IntLit op.Add true 0 0 (pos 1))
      ∷ place 3 2 (insn.IntOp op.Div 0 0 1)
      ∷ place 5 2 (insn.IfZero test.Lt 0 (negsuc 3))
      ∷ place 7 1 (insn.Return kind.Plain 0)
      ∷ place 8 1 (insn.MoveException 1)
      ∷ place 9 1 (insn.ConstInt 0 (pos 7))
      ∷ place 10 1 (insn.Goto (negsuc 2))
      ∷ [];
  tries = record { start = 3; end = 5; catches = catch_of None 8 ∷ [] } ∷ [];
}

-- v0 holds nothing as the method begins
abbrev pub returning : Code
returning = record { registers = 2; ins = 1; insns = place 0 1 (insn.Return kind.Plain 0) ∷ []; tries = [] }

-- a static method of an int that gives an int
abbrev pub function : Code → Method
function code = record { class = 0; name = codes "f"; params = int_type ∷ []; result = Some int_type; is_static = true; is_virtual = false; kind = kinds.Code code }

-- a program whose one method has this code
abbrev pub program_with : Code → Program
program_with code = record { classes = classes; methods = function code ∷ []; fields = []; texts = []; main = 0 }

abbrev pub two : RegType → RegType → State
two a b = holding (a ∷ b ∷ []) Nothing

-- At 7 nothing is known of v1: it is the argument, or the exception.
abbrev pub loop_typing : Typing
loop_typing zero = Some (two Unset Int)
loop_typing (suc zero) = Some (two Int Int)
loop_typing (suc (suc (suc zero))) = Some (two Int Int)
loop_typing (suc (suc (suc (suc (suc zero))))) = Some (two Int Int)
loop_typing (suc (suc (suc (suc (suc (suc (suc zero))))))) = Some (two Int Unset)
loop_typing (suc (suc (suc (suc (suc (suc (suc (suc zero)))))))) = Some (holding (Int ∷ Int ∷ []) (Exception throwables))
loop_typing (suc (suc (suc (suc (suc (suc (suc (suc (suc zero))))))))) = Some (two Int (Reference throwables))
loop_typing (suc (suc (suc (suc (suc (suc (suc (suc (suc (suc zero)))))))))) = Some (two Int (Reference throwables))
loop_typing at = None

pub record TypingsHold : Type 0 where
  pub loop : WellTyped (program_with looping)
  pub nothing_returned : WellTyped (program_with returning) → ⊥
