-- What a clone answers to the frames of a stream: a Hello comes first, then Runs. It is the same for every form of programs: what judges a Hello and what
-- evaluates a Run are its parameters.
use Rattle.std.specs.Prelude.{ℕ, ◌==◌, if◌then◌else◌, List, [], ◌∷◌, Result, Ok, Err}
use Rattle.cc_meaning.specs.declared.frame.Frame.{Frame}
use Rattle.cc_meaning.specs.declared.fault.ImageFault.{ImageFault}
use Rattle.cc_meaning.specs.declared.travel.CloneEnd.{CloneEnd}
use Rattle.cc_meaning.specs.declared.travel.CloneEnd.TheVariants.{BadFrame, BadOrder, BadHello, BadRun, AtPinned}
use Rattle.cc_meaning_nodes.specs.Frames.{spelling}
use Rattle.cc_meaning_nodes.specs.Talk.{Reply, Manner}

-- the kinds of frames
abbrev pub hello_kind : ℕ
hello_kind = 1

abbrev pub ready_kind : ℕ
ready_kind = 2

abbrev pub run_kind : ℕ
run_kind = 3

abbrev pub back_kind : ℕ
back_kind = 4

abbrev pub refuse_kind : ℕ
refuse_kind = 5

-- the version that both ends speak
abbrev pub version : ℕ
version = 1

-- what comes of a Run: the payload of its Back and what the clone goes on with, the fault of its image, or the method that only the device may call
pub data Served (Job : Type 0) : Type 0 where
  Backs : (payload : List ℕ) → (job : Job) → Served Job
  IsFalse : (fault : ImageFault) → Served Job
  Calls : (method : ℕ) → Served Job

-- What a clone goes by: a Hello's payload gives the job that it is about, or the status by which it is refused; a Run's payload is served.
pub record Service (Job : Type 0) : Type 0 where
  pub hello : List ℕ → Result Job ℕ
  pub run : Job → List ℕ → Served Job

-- before the Hello, or after it
pub data ClonePlace (Job : Type 0) : Type 0 where
  Waiting : ClonePlace Job
  Serving : (job : Job) → ClonePlace Job

abbrev pub frame_bytes : ℕ → List ℕ → List ℕ
frame_bytes kind payload = spelling (record { kind = kind; payload = payload })

abbrev pub CloneReply : Type 0 → Type 0
CloneReply Job = Reply (ClonePlace Job) CloneEnd

module _ {Job : Type 0} where
  -- the status by which a Run is refused whose image is false, and one that makes a call of the device's
  abbrev pub refused : ℕ → CloneEnd → CloneReply Job
  refused status cause = record { said = frame_bytes refuse_kind (status ∷ []); next = Err cause }

  -- no reply
  abbrev pub closes : CloneEnd → CloneReply Job
  closes cause = record { said = []; next = Err cause }

  abbrev pub to_hello : Result Job ℕ → CloneReply Job
  to_hello (Ok job) = record { said = frame_bytes ready_kind (version ∷ []); next = Ok (Serving job) }
  to_hello (Err status) = refused status (BadHello status)

  abbrev pub to_run : Served Job → CloneReply Job
  to_run (Backs payload job) = record { said = frame_bytes back_kind payload; next = Ok (Serving job) }
  to_run (IsFalse fault) = refused 77 (BadRun fault)
  to_run (Calls method) = refused 69 (AtPinned method)

  unfoldable pub clone_answer : Service Job → ClonePlace Job → Frame → CloneReply Job
  clone_answer service Waiting frame = if frame.kind == hello_kind then to_hello (service.hello frame.payload) else closes (BadOrder frame.kind)
  clone_answer service (Serving job) frame = if frame.kind == run_kind then to_run (service.run job frame.payload) else closes (BadOrder frame.kind)

  -- how a clone answers
  abbrev pub clone_of : Service Job → Manner (ClonePlace Job) CloneEnd
  clone_of service = record { answer = clone_answer service; broken = BadFrame }
