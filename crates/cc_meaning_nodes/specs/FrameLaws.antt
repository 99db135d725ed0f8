-- The laws of the frames of a stream.
use Rattle.std.specs.Prelude.{◌≡◌, ◌⊎◌, ℕ, ◌^◌, ◌<◌, ◌≤◌, true, false, List, [], ◌∷◌, ◌++◌, length, drop}
use Rattle.std.specs.Int.{w32, to_be_bytes}
use Rattle.std.specs.List.{flat_map, AllByRecursion}
use Rattle.cc_meaning.specs.declared.frame.Frame.{Frame}
use Rattle.cc_meaning.specs.declared.fault.FrameFault.TheVariants.{BadKind, TooLong}
use Rattle.cc_meaning_nodes.specs.Frames.{IsFrame, spelling, is_kind, Partial, Whole, Faulty, front_of, Ending, Rest, Frames, ends, with_frame, with_frames, frames_of, frames_from, IsPartial}
use Rattle.cc_meaning_nodes.specs.FrameSpelling.{Spells, IsBytes}

abbrev pub GoesOn : Type 0
GoesOn = (e : Ending) (x y : List ℕ) → frames_from e (x ++ y) ≡ with_frames (frames_from e x).frames (frames_from (frames_from e x).ending y)

abbrev pub NothingMore : Type 0
NothingMore = IsPartial (Rest []) × (frames_of [] ≡ ends (Rest [])) × ((e : Ending) → IsPartial e → frames_from e [] ≡ ends e)

abbrev pub BeginsWithWhole : Type 0
BeginsWithWhole = (x y : List ℕ) (frame : Frame) (n : ℕ) → front_of x ≡ Whole frame n →
    IsFrame frame × (n ≤ length x) × (frames_of (x ++ y) ≡ with_frame frame (frames_of (drop n x ++ y)))

abbrev pub FrontStays : Type 0
FrontStays = (x y : List ℕ) → (front_of x ≡ Partial) ⊎ (front_of (x ++ y) ≡ front_of x)

abbrev pub IsKnownEarly : Type 0
IsKnownEarly =
    ((kind : ℕ) (more : List ℕ) → is_kind kind ≡ false → front_of (kind ∷ more) ≡ Faulty BadKind)
    × ((kind size : ℕ) (more : List ℕ) → is_kind kind ≡ true → 67108864 < size → size < 2 ^ 32 →
    front_of (kind ∷ to_be_bytes w32 size ++ more) ≡ Faulty TooLong)

abbrev pub EndsPartly : Type 0
EndsPartly = (e : Ending) (x : List ℕ) → IsPartial e → IsPartial (frames_from e x).ending

abbrev pub IsReadAgain : Type 0
IsReadAgain = (frames : List Frame) (more : List ℕ) → AllByRecursion IsFrame frames →
    frames_of (flat_map spelling frames ++ more) ≡ with_frames frames (frames_of more)

abbrev pub IsReadAlone : Type 0
IsReadAlone = (frame : Frame) → IsFrame frame → frames_of (spelling frame) ≡ record { frames = frame ∷ []; ending = Rest [] }

abbrev pub IsSpelled : Type 0
IsSpelled = (bytes : List ℕ) → IsBytes bytes → Spells bytes (frames_of bytes)

abbrev pub IsOnlySpelling : Type 0
IsOnlySpelling = (bytes : List ℕ) (stream : Frames) → Spells bytes stream → frames_of bytes ≡ stream
