-- The instructions of units, as far as there are any.
use Rattle.std.specs.Prelude.{ℕ, List, Option, Some, None}
use Rattle.cc_meaning.specs.declared.program.Placed.{Placed}
use Rattle.cc_meaning_program.specs.Instructions.{AreInstructions, BreaksOff}
use Rattle.cc_bodies.specs.declared.reading.Break.{Break}
use Rattle.cc_bodies.specs.declared.reading.Reading.{Reading}

-- the units are these instructions, or break off behind them so
abbrev pub StandBefore : List ℕ → List Placed → Option Break → Type 0
StandBefore units placed None = AreInstructions units placed
StandBefore units placed (Some broken) = BreaksOff units placed broken.at broken.fault

abbrev pub IsReading : List ℕ → Reading → Type 0
IsReading units reading = StandBefore units reading.insns reading.broken
