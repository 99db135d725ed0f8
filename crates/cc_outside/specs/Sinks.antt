-- What a sink says of its calls.
use Rattle.std.specs.Prelude.{◌≡◌, ℕ, ◌+◌, ◌<◌, ◌≤◌, List, length, take, Option, Result, Ok, Err}
use Rattle.cc_outside.specs.Counting.{Rose}
use Rattle.cc_outside.specs.Telling.{more}
use Rattle.cc_outside.specs.declared.sink.WriteFailed.{WriteFailed}

-- a sink: what was written, where this is told; how often writing failed; for how many bytes there is room
pub record Pipe : Type 0 where
  pub text : Option (List ℕ)
  pub faults : ℕ
  pub spare : ℕ

-- what writing these bytes answers: the first n were taken, at least one of a piece that has any; or none, and the sink failed
abbrev pub Takes : Pipe → List ℕ → Result ℕ WriteFailed → Pipe → Type 0
Takes p bytes (Ok n) p' =
    (p'.text ≡ more (take n bytes) p.text) × (p'.spare + n ≡ p.spare) × (n ≤ length bytes) × (0 < length bytes → 0 < n)
Takes p bytes (Err e) p' = (p'.text ≡ p.text) × Rose p.faults p'.faults
