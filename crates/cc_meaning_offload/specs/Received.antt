-- The run of a program over the frames that a device got: calls of moved methods end as the Backs say, until a frame is missing or another one.
use Rattle.std.specs.Prelude.{ℕ, suc, ◌==◌, ◌&&◌, not, Bool, true, false, cond, List, [], ◌∷◌, ◌++◌, Option, Some, None, Result, Ok, Err}
use Rattle.cc_meaning.specs.declared.fault.ImageFault.{ImageFault}
use Rattle.cc_meaning.specs.declared.frame.Frame.{Frame}
use Rattle.cc_meaning.specs.declared.image.RunImage.{RunImage}
use Rattle.cc_meaning.specs.declared.program.Program.{Program}
use Rattle.cc_meaning.specs.declared.report.Limits.{Limits}
use Rattle.cc_meaning.specs.declared.report.Report.{Report}
use Rattle.cc_meaning.specs.declared.script.Script.{Script}
use Rattle.cc_meaning.specs.declared.value.Value.{Value}
use Rattle.cc_meaning_nodes.specs.Clone.{ready_kind, back_kind}
use Rattle.cc_meaning_world.specs.World.{World, Stack}
use Rattle.cc_meaning_exec.specs.Eval.{Reply, Here, Answer, Hook, Ran, ran}
use Rattle.cc_meaning_exec.specs.Runs.{run_with, report_of}
use Rattle.cc_meaning_migration.specs.declared.image.BackImage.{BackImage}
use Rattle.cc_meaning_migration.specs.declared.image.Version.{Version}
use Rattle.cc_meaning_migration.specs.Spelling.{version_of_byte}
use Rattle.cc_meaning_migration.specs.Renaming.{if_some}
use Rattle.cc_meaning_migration.specs.Entry.{entry_order, captured_entry}
use Rattle.cc_meaning_migration.specs.Ends.{end_of_sent}
use Rattle.cc_meaning_migration.specs.Decoding.{decoded_back}
use Rattle.cc_meaning_migration.specs.Putting.{Put, put}

-- ---- how it stands

-- How a device stands with its clone: the version of the Ready, once that was taken; the frames behind; the images of the entries of moved methods so far; how many
-- Backs were put; and whether it fell back, after which every method is evaluated here.
pub record Received : Type 0 where
  pub version : Option Version
  pub frames : List Frame
  pub images : List RunImage
  pub migrations : ℕ
  pub fallen : Bool

-- before the first entry of a moved method
abbrev pub unopened : List Frame → Received
unopened frames = record { version = None; frames = frames; images = []; migrations = 0; fallen = false }

-- ---- frames

-- the version of a Ready, which has nothing else
unfoldable pub version_in : List ℕ → Option Version
version_in (byte ∷ []) = version_of_byte byte
version_in _ = None

unfoldable pub version_of_ready : Frame → Option Version
version_of_ready frame = cond (frame.kind == ready_kind) (version_in frame.payload) None

-- the version, and the frames behind the Ready
pub record Opened : Type 0 where
  pub version : Version
  pub frames : List Frame

-- the Ready comes before the first Back
unfoldable pub opened_by : Option Version → List Frame → Option Opened
opened_by (Some v) frames = Some (record { version = v; frames = frames })
opened_by None [] = None
opened_by None (frame ∷ rest) = if_some (version_of_ready frame) (λ v. Some (record { version = v; frames = rest }))

unfoldable pub back_read : Result BackImage ImageFault → Option BackImage
back_read (Ok back) = Some back
back_read (Err fault) = None

-- the image that a Back spells, where it fits the Run
unfoldable pub back_in : Script → Program → (cursors : List ℕ) → RunImage → Version → Frame → Option BackImage
back_in script p cursors image v frame = cond (frame.kind == back_kind) (back_read (decoded_back v script p cursors image frame.payload)) None

-- a Back as it was put, the version, and the frames behind it
pub record Taken : Type 0 where
  pub version : Version
  pub put : Put
  pub rest : List Frame

unfoldable pub taken_in : Script → Program → World → (order : List ℕ) → RunImage → Version → List Frame → Option Taken
taken_in script p w order image v [] = None
taken_in script p w order image v (frame ∷ rest) =
    if_some (back_in script p w.cursors image v frame) (λ back.
    if_some (put script p w order back) (λ at.
    Some (record { version = v; put = at; rest = rest })))

-- what the next frames come to for a Run of this image
unfoldable pub taken : Script → Program → World → (order : List ℕ) → RunImage → Received → Option Taken
taken script p w order image t = if_some (opened_by t.version t.frames) (λ opened. taken_in script p w order image opened.version opened.frames)

-- ---- the hook

abbrev pub with_image : RunImage → Received → Received
with_image image t = record t { images = t.images ++ image ∷ [] }

-- the method has ended as the Back says, or the device falls back
unfoldable pub reply_of : RunImage → Received → Option Taken → Reply Received
reply_of image t None = Here (record (with_image image t) { fallen = true })
reply_of image t (Some got) =
    Answer (end_of_sent got.put.ending) got.put.world
    (record (with_image image t) { version = Some got.version; frames = got.rest; migrations = suc t.migrations })

-- an entry without an image is evaluated here; no well typed program has one
unfoldable pub sent_by : Script → Program → World → (order : List ℕ) → Received → Option RunImage → Reply Received
sent_by script p w order t None = Here t
sent_by script p w order t (Some image) = reply_of image t (taken script p w order image t)

-- what follows the entry of a moved method
unfoldable pub migrated : Script → Program → (method : ℕ) → List Value → Stack → World → Received → Reply Received
migrated script p m args stack w t = sent_by script p w (entry_order p w args) t (captured_entry p w m args stack)

unfoldable pub entry_of : Script → Program → (moves : ℕ → Bool) → (method : ℕ) → List Value → Stack → World → Received → Reply Received
entry_of script p moves m args stack w t = cond (not t.fallen && moves m) (migrated script p m args stack w t) (Here t)

-- asked at each entry of a method, and keeps how the device stands with its clone
unfoldable pub receiver : Script → Program → (moves : ℕ → Bool) → Hook Received
receiver script p moves = record {
  entry = entry_of script p moves;
  spent = λ m t. t;
  called = λ m t. t;
  ended = λ m e w t. t;
}

-- ---- the whole run

-- What a run over received frames comes to: its report, and how the device stands with its clone at its end.
pub record Offloaded : Type 0 where
  pub report : Option Report
  pub received : Received

unfoldable pub offloaded_of : Limits → Ran Received → Offloaded
offloaded_of limits (ran e w t) = record { report = report_of limits (ran e w t); received = t }

unfoldable pub offloaded : Script → Program → (moves : ℕ → Bool) → List (List ℕ) → Limits → List Frame → Offloaded
offloaded script p moves texts limits frames = offloaded_of limits (run_with (receiver script p moves) script p texts limits (unopened frames))
