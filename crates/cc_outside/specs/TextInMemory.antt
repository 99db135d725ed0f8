-- A sink in memory.
use Rattle.std.specs.Prelude.{◌≡◌, ℕ, ◌+◌, Bool, true, false, List, [], ◌++◌, length, Some, Result, Ok, IsErr}
use Rattle.cc_outside.specs.Failing.{one_more, is_listed}
use Rattle.cc_outside.specs.Sinks.{Pipe}
use Rattle.cc_outside.specs.declared.sink.WriteFailed.{WriteFailed}

-- what was written, the numbers of the calls that fail, how many calls there were and how many of them failed, and the room
pub record MemoryText : Type 0 where
  pub bytes : List ℕ
  pub fails : List ℕ
  pub calls : ℕ
  pub faults : ℕ
  pub spare : ℕ

-- it tells what was written
abbrev pub pipe_of : MemoryText → Pipe
pipe_of s = record { text = Some s.bytes; faults = s.faults; spare = s.spare }

-- the next call fails
abbrev pub fails_now : MemoryText → Bool
fails_now s = is_listed s.fails s.calls

-- where no call is to fail, none did
abbrev pub IsCalm : MemoryText → Type 0
IsCalm s = s.fails ≡ [] → s.faults ≡ 0

-- a call takes all of the bytes, but where it is one of those that fail
pub record TakesInMemory (old : MemoryText) (bytes : List ℕ) (r : Result ℕ WriteFailed) (new : MemoryText) : Type 0 where
  pub failing : fails_now old ≡ true → IsErr r × (new ≡ record old { calls = one_more old.calls; faults = one_more old.faults })
  pub working : fails_now old ≡ false → (r ≡ Ok (length bytes)) × (new.bytes ≡ old.bytes ++ bytes) × (new.spare + length bytes ≡ old.spare) × (new.faults ≡ old.faults)
  pub fails : new.fails ≡ old.fails
  pub calls : new.calls ≡ one_more old.calls
