-- What a reader of a part answers.
use Rattle.std.specs.Prelude.{◌≡◌, ◌≢◌, Option, Some, None, Result, Ok, Err}
use Rattle.cc_meaning.specs.declared.fault.DexFault.{DexFault}
use Rattle.cc_meaning.specs.declared.fault.DexFault.TheVariants as faults
use Rattle.cc_dexcode.specs.declared.flaw.Flaw.{Flaw}
use Rattle.cc_dexcode.specs.declared.flaw.Flaw.TheVariants.{Malformed, Memory}

-- what is found, where the bytes spell such a part; that it is malformed, where they don't; and at any time that there is no memory
abbrev pub Finds : {A : Type 0} → Option A → Result A Flaw → Type 0
Finds found (Ok read) = found ≡ Some read
Finds found (Err Malformed) = found ≡ None
Finds found (Err Memory) = Unit {0}

-- what is read, or the fault; and at any time that there is no memory
abbrev pub Answers : {A : Type 0} → Result A DexFault → Result A DexFault → Type 0
Answers read (Ok value) = read ≡ Ok value
Answers read (Err fault) = fault ≢ faults.Memory → read ≡ Err fault

-- the same of what is read only to judge it: no fault, or this one
abbrev pub Judges : Option DexFault → Result (Unit {0}) DexFault → Type 0
Judges found (Ok nothing) = found ≡ None
Judges found (Err fault) = found ≡ Some fault
