-- What a reader of instructions answers, where memory may be wanting.
use Rattle.std.specs.Prelude.{◌≡◌, ℕ, Result, Ok, Err}
use Rattle.cc_meaning.specs.declared.instruction.Insn.{Insn}
use Rattle.cc_meaning.specs.declared.fault.InsnFault.{InsnFault}
use Rattle.cc_meaning.specs.declared.fault.InsnFault.TheVariants.{Memory}
use Rattle.cc_meaning_insn.specs.Decoded.{HoldsList}

-- an instruction that holds a list is there
abbrev pub IsOfList : Result (Insn × ℕ) InsnFault → Type 0
IsOfList (Ok found) = HoldsList found.0
IsOfList (Err fault) = ⊥

-- a refusal is the one that is due, or want of memory, and that only where a list is to be made
abbrev pub Refuses : InsnFault → Result (Insn × ℕ) InsnFault → Type 0
Refuses Memory due = IsOfList due
Refuses fault due = due ≡ Err fault

-- an answer is what is due, or want of memory
abbrev pub Gives : Result (Insn × ℕ) InsnFault → Result (Insn × ℕ) InsnFault → Type 0
Gives (Ok found) due = due ≡ Ok found
Gives (Err fault) due = Refuses fault due
