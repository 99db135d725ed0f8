-- Worked examples: an initialiser before `main`, and the same run in steps.
use Rattle.std.specs.Prelude.{◌≡◌, ℕ, zero, suc, pos, List, [], ◌∷◌, codes, Option, Some, None}
use Rattle.cc_meaning.specs.declared.instruction.Insn.{Insn}
use Rattle.cc_meaning.specs.declared.instruction.Insn.TheVariants as insn
use Rattle.cc_meaning.specs.declared.instruction.IntOp.TheVariants as op
use Rattle.cc_meaning.specs.declared.program.MethodKind.TheVariants as kinds
use Rattle.cc_meaning.specs.declared.program.Program.{Program}
use Rattle.cc_meaning_world.specs.Opening.{opening_world}
use Rattle.cc_meaning_exec.specs.Exceptions.{End, Returned}
use Rattle.cc_meaning_exec.specs.Runs.{invocations}
use Rattle.cc_meaning_exec.specs.States.{State, Running, Starting, Calling, Ending, Launching}
use Rattle.cc_meaning_exec.specs.Steps.{step, opening}
use Rattle.cc_meaning_exec.specs.WorkedPrograms.{file_class, array_class_named, code, static_method, program_of, no_script, limits}

-- a class A whose initialiser has these instructions, with a `main` that returns
abbrev pub opened_by : List Insn → Program
opened_by insns = program_of (record (file_class (codes "LA;") 2) { initialiser = Some 1 } ∷ array_class_named (codes "[Ljava/lang/String;") 2 ∷ [])
    (static_method 0 (codes "main") [] None (kinds.Code (code 1 (insn.ReturnVoid ∷ []))) ∷ static_method 0 (codes "<clinit>") [] None (kinds.Code (code 1 insns)) ∷ []) [] []

abbrev pub fine : List Insn
fine = insn.Nop ∷ insn.ReturnVoid ∷ []

abbrev pub dividing : List Insn
dividing = insn.ConstInt 0 (pos 0) ∷ insn.IntOp op.Div 0 0 0 ∷ insn.ReturnVoid ∷ []

-- so many steps
unfoldable pub after_steps : ℕ → Program → State → State
after_steps zero p st = st
after_steps (suc n) p st = after_steps n p (step no_script p st).state

unfoldable pub end_in : State → Option End
end_in (Ending e frames w) = Some e
end_in _ = None

unfoldable pub end_after : ℕ → Program → Option End
end_after n p = end_in (after_steps n p (opening no_script p [] (opening_world p (limits 100 100))))

pub record StepsHold : Type 0 where
  -- main's own invocation stands first, and the initialiser that ran before it is its child
  pub before_main : invocations no_script (opened_by fine) [] (limits 100 100)
      ≡ record { method = 0; parent = 0; instructions = 1; calls = [] } ∷ record { method = 1; parent = 0; instructions = 2; calls = [] } ∷ []
  -- also where `main` was kept from its entry
  pub kept_out : invocations no_script (opened_by dividing) [] (limits 100 100)
      ≡ record { method = 0; parent = 0; instructions = 0; calls = [] } ∷ record { method = 1; parent = 0; instructions = 2; calls = [] } ∷ []
  pub not_yet : end_after 10 (opened_by fine) ≡ None
  pub ends : end_after 11 (opened_by fine) ≡ Some (Returned None)
  pub stays : end_after 20 (opened_by fine) ≡ Some (Returned None)
