-- The run of a program over the frames that a device got: moved methods end as the Backs say, until a frame is missing or another one.
use Rattle.std.specs.Prelude.{ℕ, suc, ◌==◌, ◌&&◌, not, Bool, true, false, cond, List, [], ◌∷◌, ◌++◌, Option, Some, None, Result, Ok, Err}
use Rattle.std.specs.Str.{bytes_eq}
use Rattle.cc_meaning.specs.declared.value.Value.{Value}
use Rattle.cc_meaning.specs.declared.report.Limits.{Limits}
use Rattle.cc_meaning.specs.declared.report.Report.{Report}
use Rattle.cc_meaning.specs.declared.frame.Frame.{Frame}
use Rattle.cc_meaning.specs.declared.fault.ImageFault.{ImageFault}
use Rattle.cc_meaning.specs.declared.image.RunImage.{RunImage}
use Rattle.cc_meaning.specs.declared.image.BackImage.{BackImage}
use Rattle.cc_meaning.specs.declared.program.Program.{Program}
use Rattle.cc_meaning_run.specs.World.{Setting, World, Stack}
use Rattle.cc_meaning_run.specs.Eval.{Reply, Here, Answer, Hook, Ran, ran}
use Rattle.cc_meaning_run.specs.Local.{run_with, report_of}
use Rattle.cc_meaning_images.specs.Capture.{run_image}
use Rattle.cc_meaning_images.specs.Reading.{read_back}
use Rattle.cc_meaning_nodes.specs.Clone.{ready_kind, back_kind, version}
use Rattle.cc_meaning_device.specs.Merging.{places_in, end_put, world_put}

-- What a device goes by: its program, which methods are moved, and the order of the objects of a world and arguments.
pub record Device : Type 0 where
  pub program : Program
  pub moves : ℕ → Bool
  pub order : World → List Value → List ℕ

-- How it stands with its clone: whether the Ready was taken, the frames behind, the images of the entries of moved methods, how many Backs were merged, and
-- whether it fell back, after which every method is evaluated here.
pub record Received : Type 0 where
  pub opened : Bool
  pub frames : List Frame
  pub images : List RunImage
  pub merged : ℕ
  pub fallen : Bool

abbrev pub not_opened : List Frame → Received
not_opened frames = record { opened = false; frames = frames; images = []; merged = 0; fallen = false }

-- the frames behind the Ready, which comes before the first Back
abbrev pub is_ready : Frame → Bool
is_ready frame = (frame.kind == ready_kind) && bytes_eq frame.payload (version ∷ [])

unfoldable pub behind_ready : Received → Option (List Frame)
behind_ready t = by t.opened t.frames
  where
    by : Bool → List Frame → Option (List Frame)
    by true frames = Some frames
    by false [] = None
    by false (frame ∷ rest) = cond (is_ready frame) (Some rest) None

-- a Back, and the frames behind it
pub record Taken : Type 0 where
  pub back : BackImage
  pub rest : List Frame

abbrev pub read_as : List Frame → Result BackImage ImageFault → Option Taken
read_as rest (Ok back) = Some (record { back = back; rest = rest })
read_as rest (Err fault) = None

-- the Back that stands first, where it is one of this Run
unfoldable pub back_of_frames : Program → RunImage → Option (List Frame) → Option Taken
back_of_frames p image None = None
back_of_frames p image (Some []) = None
back_of_frames p image (Some (frame ∷ rest)) = cond (frame.kind == back_kind) (read_as rest (read_back p image frame.payload)) None

-- it is merged, or the device falls back
unfoldable pub reply_of : Program → World → (order : List ℕ) → RunImage → Received → Option Taken → Reply Received
reply_of p w order image t None = Here (record t { images = t.images ++ image ∷ []; fallen = true })
reply_of p w order image t (Some taken) =
    Answer (end_put (places_in w order) taken.back.ending) (world_put p w order taken.back)
    (record t { opened = true; frames = taken.rest; images = t.images ++ image ∷ []; merged = suc t.merged })

unfoldable pub sent_in : Device → (order : List ℕ) → (method : ℕ) → List Value → Stack → World → Received → Reply Received
sent_in d order m args stack w t =
    reply_of d.program w order (run_image d.program w order m args stack) t (back_of_frames d.program (run_image d.program w order m args stack) (behind_ready t))

unfoldable pub entry_of : Device → (method : ℕ) → List Value → Stack → World → Received → Reply Received
entry_of d m args stack w t = cond (not t.fallen && d.moves m) (sent_in d (d.order w args) m args stack w t) (Here t)

-- asked at each entry of a method, and keeps how the device stands with its clone
unfoldable pub receiver : Device → Hook Received
receiver d = record { entry = entry_of d; turned = λ depth called t. t }

-- What a run over received frames comes to: its report, and how the device stands with its clone at its end.
pub record Offloaded : Type 0 where
  pub report : Option Report
  pub received : Received

abbrev pub offloaded_of : Limits → Ran Received → Offloaded
offloaded_of limits (ran e w t) = record { report = report_of limits (ran e w t); received = t }

unfoldable pub offloaded : Device → Setting → List (List ℕ) → Limits → List Frame → Offloaded
offloaded d s args limits frames = offloaded_of limits (run_with (receiver d) s args limits (not_opened frames))
