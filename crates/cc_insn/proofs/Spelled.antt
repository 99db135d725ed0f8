-- What is refused isn't spelled.
use Rattle.std.proofs.Common.{◌≡◌, ◌≢◌, ℕ, ◌<◌, List, get_or, Result, Ok, Err, refl}
use Rattle.std.specs.Prelude.{IfErr}
use Rattle.std.proofs.lemmas.List.Elements.{All-from_get_or}
use Rattle.cc_meaning.specs.declared.instruction.Insn.{Insn}
use Rattle.cc_meaning.specs.declared.fault.InsnFault.{InsnFault}
use Rattle.cc_meaning.specs.declared.fault.InsnFault.TheVariants.{Float, Unused, CutOff, BadPayload, Memory}
use Rattle.cc_meaning_insn.specs.Decoded.{decoded}
use Rattle.cc_meaning_insn.specs.Spelling.{Spells}
use Rattle.cc_meaning_insn.specs.Laws.{AreUnits, InsnAgrees}
use Rattle.cc_insn.specs.Gives.{Refuses, Gives}
use mir.Val.{Fits}
use Rattle.std.specs.Int.{w16}

pub are_units : (units : List ℕ) → ((i : ℕ) → Fits w16 (get_or units i 0)) → AreUnits units
are_units units fits = All-from_get_or (λ u. u < 65536) units 0 (λ i h. (fits i).fits)

-- a fault is due where no instruction is spelled
none_spelled : InsnAgrees → (units : List ℕ) → AreUnits units → (at : ℕ) (fault : InsnFault) → decoded units at ≡ Err fault →
    (insn : Insn) (size : ℕ) → ¬ Spells units at insn size
none_spelled agrees units all at fault e insn size s = let read = (agrees units all at insn size).1 s in absurd cc

by_fault : InsnAgrees → (units : List ℕ) → AreUnits units → (at : ℕ) (fault : InsnFault) → Refuses fault (decoded units at) → fault ≢ Memory →
    (insn : Insn) (size : ℕ) → ¬ Spells units at insn size
by_fault agrees units all at Float g n = none_spelled agrees units all at Float g
by_fault agrees units all at Unused g n = none_spelled agrees units all at Unused g
by_fault agrees units all at CutOff g n = none_spelled agrees units all at CutOff g
by_fault agrees units all at BadPayload g n = none_spelled agrees units all at BadPayload g
by_fault agrees units all at Memory g n = absurd (n refl)

pub refused : InsnAgrees → (units : List ℕ) → AreUnits units → (at : ℕ) (result : Result (Insn × ℕ) InsnFault) → Gives result (decoded units at) →
    IfErr result (λ fault. fault ≢ Memory → (insn : Insn) (size : ℕ) → ¬ Spells units at insn size)
refused agrees units all at (Ok found) g = tt
refused agrees units all at (Err fault) g = by_fault agrees units all at fault g
