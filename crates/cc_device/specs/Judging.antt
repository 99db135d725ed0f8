-- What frames that were awaited come to, and what an exchange of frames comes to.
use Rattle.std.specs.Prelude.{◌≡◌, ℕ, ◌==◌, cond, List, [], ◌∷◌, length, Result, Ok, Err}
use Rattle.cc_meaning.specs.declared.frame.Frame.{Frame}
use Rattle.cc_meaning.specs.declared.fault.ImageFault.{ImageFault}
use Rattle.cc_meaning.specs.declared.image.RunImage.{RunImage}
use Rattle.cc_meaning.specs.declared.image.BackImage.{BackImage}
use Rattle.cc_meaning.specs.declared.program.Program.{Program}
use Rattle.cc_meaning.specs.declared.travel.LinkEnd.{LinkEnd}
use Rattle.cc_meaning.specs.declared.travel.LinkEnd.TheVariants as ends
use Rattle.cc_meaning_images.specs.Reading.{read_back}
use Rattle.cc_meaning_images.specs.Spelling.{spelled_run}
use Rattle.cc_meaning_nodes.specs.Frames.{Whole, front_of}
use Rattle.cc_meaning_nodes.specs.Talk.{IsPrefixOf}
use Rattle.cc_meaning_nodes.specs.Clone.{back_kind, refuse_kind, run_kind, frame_bytes}
use Rattle.cc_meaning_device.specs.Received.{is_ready}
use Rattle.cc_outside.specs.Counting.{Rose}
use Rattle.cc_link.specs.Links.{Known, Counts, known_sent, known_got}
use Rattle.cc_device.specs.declared.exchange.Halt.{Halt}
use Rattle.cc_device.specs.declared.exchange.Halt.TheVariants as halts
use Rattle.cc_device.specs.Exchanging.{Span, span, SendingEnds, AwaitingEnds, IsFault}

-- ---- one frame

-- a refusal names its status in one byte
abbrev pub refused_with : ℕ → List ℕ → LinkEnd
refused_with kind [] = ends.Unexpected kind
refused_with kind (status ∷ []) = ends.Refused status
refused_with kind (status ∷ more ∷ rest) = ends.Unexpected kind

-- a frame that is none of those awaited
unfoldable pub wrong_frame : Frame → LinkEnd
wrong_frame frame = cond (frame.kind == refuse_kind) (refused_with frame.kind frame.payload) (ends.Unexpected frame.kind)

-- the frame that answers a Hello
unfoldable pub judge_ready : Frame → Result (Unit {0}) LinkEnd
judge_ready frame = cond (is_ready frame) (Ok tt) (Err (wrong_frame frame))

abbrev pub judge_image : Result BackImage ImageFault → Result BackImage LinkEnd
judge_image (Ok back) = Ok back
judge_image (Err fault) = Err (ends.Unfit fault)

-- the frame that answers a Run
unfoldable pub judge_back : Program → RunImage → Frame → Result BackImage LinkEnd
judge_back p image frame = cond (frame.kind == back_kind) (judge_image (read_back p image frame.payload)) (Err (wrong_frame frame))

-- ---- an exchange

-- bytes were sent, a frame came, and it is this
pub record AnswersSo {A : Type 0} (judge : Frame → Result A LinkEnd) (bytes sent got : List ℕ) (a : A) : Type 0 where
  pub frame : Frame
  pub all : sent ≡ bytes
  pub whole : front_of got ≡ Whole frame (length got)
  pub judged : judge frame ≡ Ok a

-- The bytes weren't all sent, no frame came, or the frame isn't the one that was awaited. A prompt link takes all bytes, and gives some as long as it owes any.
pub data EndsSo {A : Type 0} (judge : Frame → Result A LinkEnd) (bytes : List ℕ) (patience : ℕ) (sent got : List ℕ) (e : LinkEnd) (c : Span) : Type 0 where
  in_sending : IsPrefixOf sent bytes → got ≡ [] → SendingEnds patience e c.old c.new → (c.prompt → ⊥) → EndsSo judge bytes patience sent got e c
  in_awaiting : sent ≡ bytes → AwaitingEnds got patience e c.old c.new → (c.prompt → c.owes → IsFault e) → EndsSo judge bytes patience sent got e c
  by_frame : (frame : Frame) → sent ≡ bytes → front_of got ≡ Whole frame (length got) → judge frame ≡ Err e → EndsSo judge bytes patience sent got e c

abbrev pub Comes : {A : Type 0} → (Frame → Result A LinkEnd) → List ℕ → ℕ → (sent got : List ℕ) → Result A Halt → Span → Type 0
Comes judge bytes patience sent got (Ok a) c = AnswersSo judge bytes sent got a
Comes judge bytes patience sent got (Err halts.Memory) c = Unit {0}
Comes judge bytes patience sent got (Err (halts.End e)) c = EndsSo judge bytes patience sent got e c

-- these bytes were sent and got, and this is what they come to
pub record Exchanges {A : Type 0} (judge : Frame → Result A LinkEnd) (bytes : List ℕ) (patience : ℕ) (k : Known) (old : Counts) (prompt : Type 0) (r : Result A Halt) (k' : Known) (new : Counts) : Type 0 where
  pub sent : List ℕ
  pub got : List ℕ
  pub known : k' ≡ known_got got (known_sent sent k)
  pub came : Comes judge bytes patience sent got r (span old new prompt k')

-- the frame that comes, whatever it is
abbrev pub any_frame : Frame → Result Frame LinkEnd
any_frame frame = Ok frame

-- how a frame was judged, but where memory is wanting
abbrev pub JudgedBy : {A : Type 0} → Result A LinkEnd → Result A Halt → Type 0
JudgedBy judged (Ok a) = judged ≡ Ok a
JudgedBy judged (Err halts.Memory) = Unit {0}
JudgedBy judged (Err (halts.End e)) = judged ≡ Err e

-- the bytes of a Run's frame
unfoldable pub run_bytes : RunImage → List ℕ
run_bytes image = frame_bytes run_kind (spelled_run image)

-- ---- opening

-- the link couldn't be made, and nothing was sent or got; or a Hello was exchanged for a Ready
pub data Opens (hello : List ℕ) (patience : ℕ) (k : Known) (old : Counts) (prompt : Type 0) (r : Result (Unit {0}) Halt) (k' : Known) (new : Counts) : Type 0 where
  not_dialed : k' ≡ k → r ≡ Err (halts.End ends.DialFailed) → Rose old.faults new.faults → (prompt → ⊥) → Opens hello patience k old prompt r k' new
  not_begun : k' ≡ k → r ≡ Err halts.Memory → Opens hello patience k old prompt r k' new
  dialed : Exchanges judge_ready hello patience k old prompt r k' new → Opens hello patience k old prompt r k' new
