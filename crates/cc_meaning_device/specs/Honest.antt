-- Frames that are right answers to the images that a device noted, and what a run of a plain file over such frames reports.
use Rattle.std.specs.Prelude.{◌≡◌, ℕ, ◌≤◌, Bool, true, List, [], ◌∷◌, ◌++◌, length, Option, Some, None, Result, Ok, slice_get}
use Rattle.std.specs.List.{flat_map, AllByRecursion}
use Rattle.cc_meaning.specs.declared.report.Limits.{Limits}
use Rattle.cc_meaning.specs.declared.frame.Frame.{Frame}
use Rattle.cc_meaning.specs.declared.image.RunImage.{RunImage}
use Rattle.cc_meaning_run.specs.Local.{local}
use Rattle.cc_meaning_images.specs.Spelling.{spelled_run, spelled_back}
use Rattle.cc_meaning_images.specs.Reading.{read_run}
use Rattle.cc_meaning_images.specs.Forms.{IsRunOf}
use Rattle.cc_meaning_nodes.specs.Frames.{IsFrame, spelling, frames_of}
use Rattle.cc_meaning_nodes.specs.Talk.{Open, says, IsPrefixOf}
use Rattle.cc_meaning_nodes.specs.Clone.{hello_kind, run_kind, back_kind, frame_bytes, Waiting}
use Rattle.cc_meaning_plain.specs.declared.plain.Plain.{Plain}
use Rattle.cc_meaning_plain.specs.Laws.{AreBytes}
use Rattle.cc_meaning_plain.specs.Plain.{IsPlain}
use Rattle.cc_meaning_plain.specs.Program.{program_of, setting_of}
use Rattle.cc_meaning_clone.specs.Served.{answered}
use Rattle.cc_meaning_clone.specs.Hello.{IsHelloOf}
use Rattle.cc_meaning_clone.specs.Plain.{plain_clone, IsVerdict}
use Rattle.cc_meaning_device.specs.Received.{is_ready, offloaded}
use Rattle.cc_meaning_device.specs.Straight.{plain_device}

-- there is an image, it may be sent, and this is the payload of its Back
abbrev pub IsAnswer : Plain → Option RunImage → (payload : List ℕ) → Type 0
IsAnswer plain None payload = ⊥
IsAnswer plain (Some image) payload = IsRunOf (program_of plain) image × (payload ≡ spelled_back (answered plain image))

-- behind a Ready each frame that is a Back answers the image of its place
abbrev pub AnswersInOrder : Plain → List RunImage → List Frame → Type 0
AnswersInOrder plain images [] = Unit {0}
AnswersInOrder plain images (first ∷ rest) =
    is_ready first ≡ true → (i : ℕ) (frame : Frame) → slice_get rest i ≡ Some frame → frame.kind ≡ back_kind → IsAnswer plain (slice_get images i) frame.payload

-- where the frames that were got answer the images that were noted, the report is that of the run on one heap
abbrev pub HonestIsLocal : Type 0
HonestIsLocal = (file : List ℕ) (plain : Plain) (moves : ℕ → Bool) (limits : Limits) (frames : List Frame) → AreBytes file → IsPlain file plain →
    AnswersInOrder plain (offloaded (plain_device plain moves) (setting_of plain) [] limits frames).received.images frames →
    (offloaded (plain_device plain moves) (setting_of plain) [] limits frames).report ≡ local (setting_of plain) [] limits

-- ---- what a device sends, and what it gets

-- nothing else is spelled as this image is, as far as images are read
abbrev pub IsReadAsItself : Plain → RunImage → Type 0
IsReadAsItself plain image = (other : RunImage) → read_run (program_of plain) (spelled_run image) ≡ Ok other → (other ≡ image) × IsRunOf (program_of plain) image

-- a Hello, and a Run of each image
abbrev pub run_frame : RunImage → Frame
run_frame image = record { kind = run_kind; payload = spelled_run image }

abbrev pub requests : (hello : List ℕ) → List RunImage → List ℕ
requests hello images = frame_bytes hello_kind hello ++ flat_map (λ image. spelling (run_frame image)) images

-- What was sent is a front of a Hello with this file and of Runs of these images, and what was got is a front of all that a clone says to that.
pub record IsExchange (plain : Plain) (images : List RunImage) (got : List ℕ) : Type 0 where
  pub hello : List ℕ
  pub is_hello : IsHelloOf hello plain
  pub hello_is_short : length hello ≤ 67108864
  pub sent : List ℕ
  pub is_sent : IsPrefixOf sent (requests hello images)
  pub verdict : Result Plain ℕ
  pub is_verdict : IsVerdict (Open Waiting []) sent verdict
  pub is_got : IsPrefixOf got (says (plain_clone verdict) (Open Waiting []) sent)

-- the frames that come of an exchange answer the images
abbrev pub StreamAnswersInOrder : Type 0
StreamAnswersInOrder = (file : List ℕ) (plain : Plain) (images : List RunImage) (got : List ℕ) → AreBytes file → IsPlain file plain →
    AllByRecursion (IsReadAsItself plain) images → AllByRecursion (λ image. IsFrame (run_frame image)) images → IsExchange plain images got →
    AnswersInOrder plain images (frames_of got).frames
