-- What a reader of frames does with a piece of the stream.
use Rattle.std.specs.Prelude.{◌≡◌, ◌≢◌, ℕ, ◌+◌, ◌-◌, ◌<◌, ◌≤◌, nat_lt, if◌then◌else◌, is_some, List, [], ◌++◌, length, take, drop, Option, Some, None, Result, Ok, Err}
use Rattle.std.specs.List.{flat_map}
use Rattle.cc_meaning.specs.declared.frame.Frame.{Frame}
use Rattle.cc_meaning.specs.declared.fault.FrameFault.{FrameFault}
use Rattle.cc_meaning.specs.declared.fault.FrameFault.TheVariants.{Memory}
use Rattle.cc_meaning_nodes.specs.Frames.{Front, Partial, Whole, Faulty, front_of, size_of, frame_of, Ending, Rest, Fails, Frames, ends, with_frame, frames_from, IsPartial}

-- ---- feeding

-- how many bytes of the piece are taken, or the fault, and what stands then
pub record Fed : Type 0 where
  pub took : Result ℕ FrameFault
  pub ending : Ending

-- all of the piece, where the frame's end isn't in it, and else what is up to the end
abbrev pub fed_by : Front → List ℕ → List ℕ → Fed
fed_by Partial held piece = record { took = Ok (length piece); ending = Rest (held ++ piece) }
fed_by (Whole frame n) held piece = record { took = Ok (n - length held); ending = Rest (take n (held ++ piece)) }
fed_by (Faulty fault) held piece = record { took = Err fault; ending = Fails fault }

abbrev pub fed : Ending → List ℕ → Fed
fed (Rest held) piece = fed_by (front_of (held ++ piece)) held piece
fed (Fails fault) piece = record { took = Err fault; ending = Fails fault }

-- what feeding a piece answers and leaves; without memory all is as before
abbrev pub Feeds : Ending → List ℕ → Result ℕ FrameFault → Ending → Type 0
Feeds old piece (Ok n) new = ((fed old piece).took ≡ Ok n) × (new ≡ (fed old piece).ending)
Feeds old piece (Err fault) new =
    (fault ≡ Memory → new ≡ old) × (fault ≢ Memory → ((fed old piece).took ≡ Err fault) × (new ≡ (fed old piece).ending))

-- ---- taking

abbrev pub whole_in : Front → Option Frame
whole_in Partial = None
whole_in (Whole frame n) = Some frame
whole_in (Faulty fault) = None

-- the frame that stands whole
abbrev pub standing : Ending → Option Frame
standing (Rest bytes) = whole_in (front_of bytes)
standing (Fails fault) = None

abbrev pub without_standing : Ending → Ending
without_standing e = if is_some (standing e) then Rest [] else e

-- ---- what is wanted

-- 25 less the bytes that came while these are fewer than five, then 25 and the payload's length less the bytes that came
abbrev pub wanted_in : List ℕ → ℕ
wanted_in bytes = if nat_lt (length bytes) 5 then 25 - length bytes else (25 + size_of bytes) - length bytes

abbrev pub wanted_of : Ending → ℕ
wanted_of (Rest bytes) = wanted_in bytes
wanted_of (Fails fault) = 0

-- ---- what a reader keeps

-- the bytes do not go past the present frame, and have no fault
abbrev pub IsWithinBy : Front → ℕ → Type 0
IsWithinBy Partial len = Unit {0}
IsWithinBy (Whole frame n) len = len ≡ n
IsWithinBy (Faulty fault) len = ⊥

abbrev pub IsWithin : List ℕ → Type 0
IsWithin bytes = IsWithinBy (front_of bytes) (length bytes)

-- what each reader stands for
abbrev pub IsReading : Ending → Type 0
IsReading (Rest bytes) = IsWithin bytes
IsReading (Fails fault) = fault ≢ Memory

abbrev pub ending_in : Option FrameFault → List ℕ → Ending
ending_in None bytes = Rest bytes
ending_in (Some fault) bytes = Fails fault

-- ---- what feeding means for a node that reads a stream

-- the frames where one stands or none
abbrev pub with_one : Option Frame → Frames → Frames
with_one None stream = stream
with_one (Some frame) stream = with_frame frame stream

-- the frames of the stream from here are the one that stands whole then, and those of what is left of it
abbrev pub Advances : Ending → List ℕ → Result ℕ FrameFault → Ending → Type 0
Advances old piece (Ok n) new =
    (frames_from old piece ≡ with_one (standing new) (frames_from (without_standing new) (drop n piece)))
    × (n ≤ length piece) × (IsPartial old → 0 < length piece → 0 < n)
Advances old piece (Err fault) new =
    (fault ≡ Memory → new ≡ old) × (fault ≢ Memory → (frames_from old piece ≡ ends (Fails fault)) × (new ≡ Fails fault))

-- a piece that is no longer than what is wanted is held whole
abbrev pub Holds : List ℕ → List ℕ → Result ℕ FrameFault → Ending → Type 0
Holds held piece (Ok n) new = (n ≡ length piece) × (new ≡ Rest (held ++ piece))
Holds held piece (Err fault) new =
    (fault ≡ Memory → new ≡ Rest held) × (fault ≢ Memory → (front_of (held ++ piece) ≡ Faulty fault) × (new ≡ Fails fault))

-- ---- parts of the reader

-- what a check of a frame that is all there finds
abbrev pub FrontIs : Option FrameFault → List ℕ → Type 0
FrontIs None bytes = front_of bytes ≡ Whole (frame_of bytes) (length bytes)
FrontIs (Some fault) bytes = front_of bytes ≡ Faulty fault

-- what a step leaves in the bytes of a frame
abbrev pub Grows : List ℕ → List ℕ → Result ℕ FrameFault → List ℕ → Type 0
Grows old piece (Ok n) new = fed (Rest old) piece ≡ record { took = Ok n; ending = Rest new }
Grows old piece (Err fault) new =
    (fault ≡ Memory → new ≡ old) × (fault ≢ Memory → fed (Rest old) piece ≡ record { took = Err fault; ending = Fails fault })

-- ---- a stream in pieces

abbrev pub joined : List (List ℕ) → List ℕ
joined pieces = flat_map (λ piece. piece) pieces
