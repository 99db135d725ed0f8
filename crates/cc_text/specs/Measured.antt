-- How long a text is.
use Rattle.std.specs.Prelude.{ℕ, List, length, Result, Ok, Err}
use Rattle.cc_meaning.specs.declared.fault.TextFault.{TextFault}

-- the number of its units, and the place after it
abbrev pub measured : Result (List ℕ × ℕ) TextFault → Result (ℕ × ℕ) TextFault
measured (Ok text) = Ok (length text.0, text.1)
measured (Err fault) = Err fault
