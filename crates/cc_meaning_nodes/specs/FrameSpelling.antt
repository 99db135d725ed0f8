-- The frames of a stream in other words: what its bytes are.
use Rattle.std.specs.Prelude.{◌≡◌, ℕ, ◌<◌, List, ◌++◌, slice_index}
use Rattle.std.specs.List.{flat_map, AllByRecursion}
use Rattle.cc_meaning_nodes.specs.Frames.{IsFrame, spelling, front_of, Partial, Faulty, Ending, Rest, Fails, Frames}

-- how the bytes after the whole frames stand to the ending: they are the rest, or begin with the fault
abbrev pub EndsSo : Ending → List ℕ → Type 0
EndsSo (Rest rest) more = (more ≡ rest) × (front_of more ≡ Partial)
EndsSo (Fails fault) more = front_of more ≡ Faulty fault

-- the bytes are these frames, each spelled in its one way, and then more that ends so
pub record Spells (bytes : List ℕ) (stream : Frames) : Type 0 where
  pub more : List ℕ
  pub whole : bytes ≡ flat_map spelling stream.frames ++ more
  pub each : AllByRecursion IsFrame stream.frames
  pub ends : EndsSo stream.ending more

abbrev pub IsBytes : List ℕ → Type 0
IsBytes bytes = (i : ℕ) → slice_index bytes i < 256
