-- The run of a plain file that is offloaded to a clone of the same file reports what the run on one heap reports.
use Rattle.std.specs.Prelude.{◌≡◌, ℕ, ◌^◌, ◌<◌, Bool, List, []}
use Rattle.std.specs.List.{AllByRecursion}
use Rattle.cc_meaning.specs.declared.report.Limits.{Limits}
use Rattle.cc_meaning.specs.declared.frame.Frame.{Frame}
use Rattle.cc_meaning_run.specs.Local.{local}
use Rattle.cc_meaning_nodes.specs.Frames.{IsFrame, frames_of}
use Rattle.cc_meaning_plain.specs.declared.plain.Plain.{Plain}
use Rattle.cc_meaning_plain.specs.Laws.{AreBytes}
use Rattle.cc_meaning_plain.specs.Plain.{IsPlain}
use Rattle.cc_meaning_plain.specs.Program.{setting_of}
use Rattle.cc_meaning_device.specs.Received.{Offloaded, offloaded}
use Rattle.cc_meaning_device.specs.Straight.{plain_device}
use Rattle.cc_meaning_device.specs.Honest.{run_frame, IsReadAsItself, IsExchange}

-- the numbers of limits fit in an image
pub record FitImages (limits : Limits) : Type 0 where
  pub instructions : limits.instructions < 2 ^ 64
  pub words : limits.words < 2 ^ 32

abbrev pub plain_offloaded : Plain → (moves : ℕ → Bool) → Limits → List Frame → Offloaded
plain_offloaded plain moves limits frames = offloaded (plain_device plain moves) (setting_of plain) [] limits frames

-- each image that a run notes fits in a frame, and is the only one that is read of its bytes
abbrev pub NotedIsRead : Type 0
NotedIsRead = (file : List ℕ) (plain : Plain) (moves : ℕ → Bool) (limits : Limits) (frames : List Frame) → AreBytes file → IsPlain file plain → FitImages limits →
    AllByRecursion (IsReadAsItself plain) (plain_offloaded plain moves limits frames).received.images
    × AllByRecursion (λ image. IsFrame (run_frame image)) (plain_offloaded plain moves limits frames).received.images

-- Where the frames that were got come of an exchange with a clone of the same file, in which the images were sent that were noted, the report is that of the
-- run on one heap, wherever either stream ends.
abbrev pub CloneIsTransparent : Type 0
CloneIsTransparent = (file : List ℕ) (plain : Plain) (moves : ℕ → Bool) (limits : Limits) (got : List ℕ) → AreBytes file → IsPlain file plain → FitImages limits →
    IsExchange plain (plain_offloaded plain moves limits (frames_of got).frames).received.images got →
    (plain_offloaded plain moves limits (frames_of got).frames).report ≡ local (setting_of plain) [] limits
