-- Over an exchange with a clone of the same file, the frames that come are those that a device awaits, in their order, and each Back fits.
use Rattle.std.specs.Prelude.{◌≡◌, ℕ, ◌+◌, ◌<◌, ◌≤◌, Bool, false, cond, List, [], ◌∷◌, ◌++◌, length, map, Some, Ok}
use Rattle.std.specs.List.{AllByRecursion}
use Rattle.cc_meaning.specs.declared.report.Limits.{Limits}
use Rattle.cc_meaning.specs.declared.report.Report.{Report}
use Rattle.cc_meaning.specs.declared.report.Ending.TheVariants as ending
use Rattle.cc_meaning.specs.declared.frame.Frame.{Frame}
use Rattle.cc_meaning.specs.declared.image.RunImage.{RunImage}
use Rattle.cc_meaning_images.specs.Spelling.{spelled_run, spelled_back}
use Rattle.cc_meaning_images.specs.Reading.{read_run, read_back}
use Rattle.cc_meaning_images.specs.Forms.{IsRunOf}
use Rattle.cc_meaning_nodes.specs.Frames.{IsFrame, Rest, frames_of}
use Rattle.cc_meaning_nodes.specs.Talk.{Open, says, IsPrefixOf}
use Rattle.cc_meaning_nodes.specs.Clone.{ready_kind, back_kind, version, Waiting}
use Rattle.cc_meaning_plain.specs.declared.plain.Plain.{Plain}
use Rattle.cc_meaning_plain.specs.Laws.{AreBytes}
use Rattle.cc_meaning_plain.specs.Plain.{IsPlain}
use Rattle.cc_meaning_plain.specs.declared.plain.PlainInsn.{PlainInsn}
use Rattle.cc_meaning_plain.specs.declared.plain.PlainInsn.TheVariants.{SgetOut, Const4, AddInt2Addr, AddIntLit8, InvokePrintln, CallFunction}
use Rattle.cc_meaning_plain.specs.Program.{function_number, program_of}
use Rattle.cc_meaning_clone.specs.Served.{answered}
use Rattle.cc_meaning_clone.specs.Plain.{plain_clone}
use Rattle.cc_meaning_device.specs.Honest.{run_frame, requests, IsExchange}
use Rattle.cc_meaning_device.specs.Transparent.{plain_offloaded}

-- ---- the frames of a clone

abbrev pub ready_frame : Frame
ready_frame = record { kind = ready_kind; payload = version ∷ [] }

abbrev pub back_frame : Plain → RunImage → Frame
back_frame plain image = record { kind = back_kind; payload = spelled_back (answered plain image) }

-- an image may be sent: it is one of a Run, fits in a frame, and is read of its bytes
pub record IsSendable (plain : Plain) (image : RunImage) : Type 0 where
  pub is_run : IsRunOf (program_of plain) image
  pub fits : IsFrame (run_frame image)
  pub read : read_run (program_of plain) (spelled_run image) ≡ Ok image

-- its answer is read as one of this Run
abbrev pub IsAnswerable : Plain → RunImage → Type 0
IsAnswerable plain image = read_back (program_of plain) image (spelled_back (answered plain image)) ≡ Ok (answered plain image)

-- what came is a front of a Ready and of the Back of each image, and no fault of bytes
pub record ComesInOrder (plain : Plain) (images : List RunImage) (got : List ℕ) : Type 0 where
  pub missing : List Frame
  pub frames : (frames_of got).frames ++ missing ≡ ready_frame ∷ map (back_frame plain) images
  pub rest : List ℕ
  pub whole : (frames_of got).ending ≡ Rest rest

-- how many of these instructions call a moved function
unfoldable pub moved_calls : Plain → (moves : ℕ → Bool) → List PlainInsn → ℕ
moved_calls plain moves [] = 0
moved_calls plain moves (SgetOut to ∷ rest) = moved_calls plain moves rest
moved_calls plain moves (Const4 to value ∷ rest) = moved_calls plain moves rest
moved_calls plain moves (AddInt2Addr to other ∷ rest) = moved_calls plain moves rest
moved_calls plain moves (AddIntLit8 to from literal ∷ rest) = moved_calls plain moves rest
moved_calls plain moves (InvokePrintln stream number ∷ rest) = moved_calls plain moves rest
moved_calls plain moves (CallFunction function argument to ∷ rest) = cond (moves (function_number plain function)) 1 0 + moved_calls plain moves rest

-- ---- the laws

-- so it is with what came of an exchange in which such images were sent
abbrev pub StreamComesInOrder : Type 0
StreamComesInOrder = (file : List ℕ) (plain : Plain) (images : List RunImage) (got : List ℕ) → AreBytes file → IsPlain file plain →
    AllByRecursion (IsSendable plain) images → IsExchange plain images got → ComesInOrder plain images got

-- All was sent, and fewer frames came than were asked for, a Ready and a Back of each image: so the clone says more than was got.
abbrev pub StreamIsOwed : Type 0
StreamIsOwed = (file : List ℕ) (plain : Plain) (hello : List ℕ) (images : List RunImage) (got : List ℕ) → AreBytes file → IsPlain file plain → length hello ≤ 67108864 →
    AllByRecursion (IsSendable plain) images → length (frames_of got).frames ≤ length images →
    IsPrefixOf got (says (plain_clone (Ok plain)) (Open Waiting []) (requests hello images)) → length got < length (says (plain_clone (Ok plain)) (Open Waiting []) (requests hello images))

-- the images that a plain file's run notes are such, and each has an answer that fits
abbrev pub NotedIsAnswered : Type 0
NotedIsAnswered = (file : List ℕ) (plain : Plain) (moves : ℕ → Bool) (limits : Limits) (frames : List Frame) → AreBytes file → IsPlain file plain → limits.instructions ≤ 4294967296 → limits.words ≤ 4194304 →
    AllByRecursion (IsSendable plain) (plain_offloaded plain moves limits frames).received.images
    × AllByRecursion (IsAnswerable plain) (plain_offloaded plain moves limits frames).received.images

-- where a run didn't fall back, a Back was merged for each image that it noted
abbrev pub MergesEach : Type 0
MergesEach = (file : List ℕ) (plain : Plain) (moves : ℕ → Bool) (limits : Limits) (frames : List Frame) → AreBytes file → IsPlain file plain →
    (plain_offloaded plain moves limits frames).received.fallen ≡ false →
    (plain_offloaded plain moves limits frames).received.merged ≡ length (plain_offloaded plain moves limits frames).received.images

-- where it returned besides, that is one for each call of a moved function in `main`
abbrev pub EachCallMigrates : Type 0
EachCallMigrates = (file : List ℕ) (plain : Plain) (moves : ℕ → Bool) (limits : Limits) (frames : List Frame) (report : Report) → AreBytes file → IsPlain file plain →
    (plain_offloaded plain moves limits frames).report ≡ Some report → report.ending ≡ ending.Returned →
    (plain_offloaded plain moves limits frames).received.fallen ≡ false →
    (plain_offloaded plain moves limits frames).received.merged ≡ moved_calls plain moves plain.main.insns
