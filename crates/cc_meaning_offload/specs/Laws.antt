-- The run over the answers of an honest clone is the run on one heap: statements, which crates above prove.
use Rattle.std.specs.Prelude.{◌≡◌, ◌⊎◌, ◌<◌, ◌≤◌, ◌^◌, ◌-◌, ℕ, ◌==◌, Bool, true, false, List, [], ◌∷◌, length, Option, Some, None, slice_get}
use Rattle.std.specs.List.{list_any}
use Rattle.cc_meaning.specs.declared.frame.Frame.{Frame}
use Rattle.cc_meaning.specs.declared.image.RunImage.{RunImage}
use Rattle.cc_meaning.specs.declared.profile.Partition.{Partition}
use Rattle.cc_meaning.specs.declared.program.Program.{Program}
use Rattle.cc_meaning.specs.declared.report.Limits.{Limits}
use Rattle.cc_meaning.specs.declared.script.Script.{Script}
use Rattle.cc_meaning_nodes.specs.Frames.{IsPartial, frames_of}
use Rattle.cc_meaning_nodes.specs.Clone.{refuse_kind}
use Rattle.cc_meaning_world.specs.Scripts.{has_pinned, class_asked, is_stateful, is_pinned}
use Rattle.cc_meaning_exec.specs.Runs.{local}
use Rattle.cc_meaning_calls.specs.Calls.{IsReached}
use Rattle.cc_meaning_calls.specs.Places.{IsUnder, IsLegal}
use Rattle.cc_meaning_migration.specs.declared.image.Version.{Version}
use Rattle.cc_meaning_offload.specs.Jobs.{IsRead}
use Rattle.cc_meaning_offload.specs.Clones.{AreAnswers}
use Rattle.cc_meaning_offload.specs.Received.{version_of_ready, Offloaded, offloaded}
use Rattle.cc_meaning_offload.specs.Exchanges.{hello_bytes, requests, IsExchange}

-- whether a partition moves a method
unfoldable pub moves_of : Partition → ℕ → Bool
moves_of partition m = list_any (λ (n : ℕ). n == m) partition.moved

-- A script is whole for a partition where no class with a pinned method has a reached, unpinned stateful method that is under a moved one. A clone would refuse its call.
abbrev pub IsWhole : Program → Script → Partition → Type 0
IsWhole p script partition = (m : ℕ) → IsReached p script m → is_stateful script p m ≡ true → is_pinned script p m ≡ false → IsUnder p script partition m →
    has_pinned script p (class_asked p m) ≡ false

-- ---- what an offloaded run is about

-- A file with its main class and script gives a well typed program, and the partition is legal for it. The limits and the script's text are within those that a run has.
pub record IsTask (main file text : List ℕ) (p : Program) (script : Script) (partition : Partition) (limits : Limits) : Type 0 where
  pub read : IsRead main file text p script
  pub legal : IsLegal p script partition
  pub instructions : limits.instructions ≤ 2 ^ 32
  pub words : limits.words ≤ 2 ^ 22
  pub text_is_short : length text ≤ 2 ^ 24

-- ---- why a run falls back

-- the frame that was awaited last, where it came: the Ready, or behind it the Back of the last Run
unfoldable pub awaited_behind : Option Version → Frame → List Frame → (images : ℕ) → Option Frame
awaited_behind None first rest images = Some first
awaited_behind (Some v) first rest images = slice_get rest (images - 1)

unfoldable pub awaited : List Frame → List RunImage → Option Frame
awaited [] images = None
awaited (first ∷ rest) images = awaited_behind (version_of_ready first) first rest (length images)

-- what is sent before the Ready came, or in all
unfoldable pub sent_for : (main file text : List ℕ) → List Frame → List RunImage → List ℕ
sent_for main file text [] images = hello_bytes main file text
sent_for main file text (first ∷ rest) images = requests main file text images

-- what was got is shorter than the answers to what is sent
abbrev pub IsCutShort : (sent got : List ℕ) → Type 0
IsCutShort sent got = (answers : List ℕ) → AreAnswers sent answers → length got < length answers

-- the frame is a refusal by 69
abbrev pub IsHeldBack : Option Frame → Type 0
IsHeldBack None = ⊥
IsHeldBack (Some frame) = (frame.kind ≡ refuse_kind) × (frame.payload ≡ 69 ∷ [])

-- A run over a front of the answers falls back only where the frame that it awaited didn't come, or where the clone refused a held call, which it never has to where
-- the script is whole.
abbrev pub WhyFallen : (main file text : List ℕ) → Program → Script → Partition → (got : List ℕ) → List RunImage → Type 0
WhyFallen main file text p script partition got images =
    ((awaited (frames_of got).frames images ≡ None) × IsCutShort (sent_for main file text (frames_of got).frames images) got)
    ⊎ (IsHeldBack (awaited (frames_of got).frames images) × (IsWhole p script partition → ⊥))

-- ---- the law of the whole run

-- The run over the frames in a front of the answers to its own requests reports what the run on one heap reports; these frames have no fault; and it falls back only
-- for a reason.
pub record IsTransparent (main file text : List ℕ) (p : Program) (script : Script) (partition : Partition) (texts : List (List ℕ)) (limits : Limits) (got : List ℕ) (run : Offloaded) : Type 0 where
  pub report : run.report ≡ local script p texts limits
  pub whole : IsPartial (frames_of got).ending
  pub fallen : run.received.fallen ≡ true → WhyFallen main file text p script partition got run.received.images

abbrev pub OffloadIsLocal : Type 0
OffloadIsLocal = (main file text : List ℕ) (p : Program) (script : Script) (partition : Partition) (texts : List (List ℕ)) (limits : Limits) (got : List ℕ) →
    IsTask main file text p script partition limits →
    IsExchange main file text (offloaded script p (moves_of partition) texts limits (frames_of got).frames).received.images got →
    IsTransparent main file text p script partition texts limits got (offloaded script p (moves_of partition) texts limits (frames_of got).frames)
