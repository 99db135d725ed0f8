-- Frames of a stream of bytes. Numbers are big-endian. A frame is its kind, 1 to 5, in one byte, the length of its payload in four,
-- the SHA-1 of these five bytes and the payload in twenty, and the payload.
use Rattle.std.specs.Prelude.{◌≡◌, ◌≢◌, ℕ, zero, suc, ◌+◌, ◌-◌, ◌≤◌, Bool, ◌&&◌, nat_lt, if◌then◌else◌, List, [], ◌∷◌, ◌++◌, length, take, drop, slice_index}
use Rattle.std.specs.Int.{w32, from_be_bytes, to_be_bytes}
use Rattle.std.specs.Str.{bytes_eq}
use Rattle.sha1.specs.Sha1.{sha1}
use Rattle.cc_meaning.specs.declared.frame.Frame.{Frame}
use Rattle.cc_meaning.specs.declared.fault.FrameFault.{FrameFault}
use Rattle.cc_meaning.specs.declared.fault.FrameFault.TheVariants.{BadKind, TooLong, BadDigest, Memory}
use Rattle.cc_meaning_nodes.specs.declared.head.Head.{Head}
use Rattle.cc_meaning_nodes.specs.declared.head.Head.TheVariants.{Short, Wrong, Long}

-- a kind that is one, and a payload of at most 64 MiB
pub record IsFrame (frame : Frame) : Type 0 where
  pub low : 1 ≤ frame.kind
  pub high : frame.kind ≤ 5
  pub short : length frame.payload ≤ 67108864

-- the five bytes at the head of a frame, and the frame
abbrev pub head : Frame → List ℕ
head frame = frame.kind ∷ to_be_bytes w32 (length frame.payload)

abbrev pub spelling : Frame → List ℕ
spelling frame = head frame ++ (sha1 (head frame ++ frame.payload) ++ frame.payload)

-- ---- what the first bytes of a list say, whatever follows

abbrev pub size_of : List ℕ → ℕ
size_of bytes = from_be_bytes w32 (slice_index bytes 1 ∷ slice_index bytes 2 ∷ slice_index bytes 3 ∷ slice_index bytes 4 ∷ [])

abbrev pub payload_of : List ℕ → List ℕ
payload_of bytes = take (size_of bytes) (drop 25 bytes)

abbrev pub frame_of : List ℕ → Frame
frame_of bytes = record { kind = slice_index bytes 0; payload = payload_of bytes }

abbrev pub stated_of : List ℕ → List ℕ
stated_of bytes = take 20 (drop 5 bytes)

abbrev pub found_of : List ℕ → List ℕ
found_of bytes = sha1 (take 5 bytes ++ payload_of bytes)

abbrev pub is_kind : ℕ → Bool
is_kind kind = nat_lt 0 kind && nat_lt kind 6

-- a wrong kind is known at the first byte, a wrong length at the fifth
unfoldable pub head_of : List ℕ → Head
head_of bytes =
    if nat_lt (length bytes) 1 then Short
    else if is_kind (slice_index bytes 0) then
    (if nat_lt (length bytes) 5 then Short
    else if nat_lt 67108864 (size_of bytes) then Wrong TooLong
    else Long (25 + size_of bytes))
    else Wrong BadKind

-- what stands at the front of the bytes: less than a frame, a frame and how many bytes it has, or a fault
pub data Front : Type 0 where
  Partial : Front
  Whole : (frame : Frame) → (size : ℕ) → Front
  Faulty : (fault : FrameFault) → Front

-- a wrong digest is known at the last byte
abbrev pub front_by : Head → List ℕ → Front
front_by Short bytes = Partial
front_by (Wrong fault) bytes = Faulty fault
front_by (Long n) bytes =
    if nat_lt (length bytes) n then Partial
    else if bytes_eq (stated_of bytes) (found_of bytes) then Whole (frame_of bytes) n
    else Faulty (BadDigest (stated_of bytes) (found_of bytes))

unfoldable pub front_of : List ℕ → Front
front_of bytes = front_by (head_of bytes) bytes

-- ---- a whole stream

-- how a stream ends: with less than a frame, or at a fault
pub data Ending : Type 0 where
  Rest : (bytes : List ℕ) → Ending
  Fails : (fault : FrameFault) → Ending

pub record Frames : Type 0 where
  pub frames : List Frame
  pub ending : Ending

-- no more frames
abbrev pub ends : Ending → Frames
ends ending = record { frames = []; ending = ending }

abbrev pub with_frame : Frame → Frames → Frames
with_frame frame stream = record { frames = frame ∷ stream.frames; ending = stream.ending }

-- frames that were read, and those to come
abbrev pub with_frames : List Frame → Frames → Frames
with_frames frames stream = record { frames = frames ++ stream.frames; ending = stream.ending }

abbrev pub frames_by : Front → (ℕ → Frames) → List ℕ → Frames
frames_by Partial next bytes = ends (Rest bytes)
frames_by (Whole frame n) next bytes = with_frame frame (next n)
frames_by (Faulty fault) next bytes = ends (Fails fault)

-- the frames after the first n bytes
unfoldable pub frames_after : ℕ → List ℕ → Frames
frames_after zero [] = ends (Rest [])
frames_after (suc n) [] = ends (Rest [])
frames_after zero (b ∷ bytes) = frames_by (front_of (b ∷ bytes)) (λ n. frames_after (n - 1) bytes) (b ∷ bytes)
frames_after (suc n) (b ∷ bytes) = frames_after n bytes

-- the frames of a stream
abbrev pub frames_of : List ℕ → Frames
frames_of bytes = frames_after 0 bytes

-- the frames of a stream that goes on from an ending
abbrev pub frames_from : Ending → List ℕ → Frames
frames_from (Rest held) bytes = frames_of (held ++ bytes)
frames_from (Fails fault) bytes = ends (Fails fault)

-- less than a frame, or a fault of the bytes
abbrev pub IsPartial : Ending → Type 0
IsPartial (Rest bytes) = front_of bytes ≡ Partial
IsPartial (Fails fault) = fault ≢ Memory
