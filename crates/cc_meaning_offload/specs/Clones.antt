-- How a clone answers a stream: a Hello comes first, then Runs.
use Rattle.std.specs.Prelude.{◌≡◌, ◌==◌, ℕ, if◌then◌else◌, List, [], ◌∷◌, ◌++◌, Result, Ok, Err}
use Rattle.cc_meaning.specs.declared.frame.Frame.{Frame}
use Rattle.cc_meaning.specs.declared.travel.CloneEnd.{CloneEnd}
use Rattle.cc_meaning.specs.declared.travel.CloneEnd.TheVariants.{BadFrame, BadOrder, BadHello}
use Rattle.cc_meaning_nodes.specs.Frames.{frames_of}
use Rattle.cc_meaning_nodes.specs.Talk.{Manner, Standing, Open, Closed, says, IsPrefixOf, stands_after}
use Rattle.cc_meaning_nodes.specs.Clone.{hello_kind, ready_kind, run_kind, ClonePlace, Waiting, Serving, frame_bytes, CloneReply, refused, closes, to_run}
use Rattle.cc_meaning_migration.specs.Spelling.{byte_of_version}
use Rattle.cc_meaning_offload.specs.Jobs.{Job, IsJudged}
use Rattle.cc_meaning_offload.specs.Served.{served}

-- ---- its answers

-- a job is taken by a Ready with its version, and a Hello refused with its status
unfoldable pub to_hello : Result Job ℕ → CloneReply Job
to_hello (Ok job) = record { said = frame_bytes ready_kind (byte_of_version job.version ∷ []); next = Ok (Serving job) }
to_hello (Err status) = refused status (BadHello status)

-- The first Hello of a stream is the only one that is judged, so how a clone answers goes by the verdict on that.
unfoldable pub answer_by : Result Job ℕ → ClonePlace Job → Frame → CloneReply Job
answer_by verdict Waiting frame = if frame.kind == hello_kind then to_hello verdict else closes (BadOrder frame.kind)
answer_by verdict (Serving job) frame = if frame.kind == run_kind then to_run (served job frame.payload) else closes (BadOrder frame.kind)

abbrev pub clone_by : Result Job ℕ → Manner (ClonePlace Job) CloneEnd
clone_by verdict = record { answer = answer_by verdict; broken = BadFrame }

-- ---- the verdict on a stream

abbrev pub JobStanding : Type 0
JobStanding = Standing (ClonePlace Job) CloneEnd

-- before the first frame
abbrev pub opening : JobStanding
opening = Open Waiting []

-- the frame that stands first is no Hello, or this is the verdict on it
abbrev pub IsJudgedFirst : List Frame → Result Job ℕ → Type 0
IsJudgedFirst [] verdict = Unit {0}
IsJudgedFirst (frame ∷ rest) verdict = frame.kind ≡ hello_kind → IsJudged frame.payload verdict

-- the verdict is the right one for a stream that goes on from where a node stands
abbrev pub IsVerdict : JobStanding → List ℕ → Result Job ℕ → Type 0
IsVerdict (Open Waiting held) bytes verdict = IsJudgedFirst (frames_of (held ++ bytes)).frames verdict
IsVerdict (Open (Serving job) held) bytes verdict = Unit {0}
IsVerdict (Closed cause) bytes verdict = Unit {0}

-- These are all the replies to a stream, by the right verdict on it.
abbrev pub AreAnswers : (sent answers : List ℕ) → Type 0
AreAnswers sent answers = (verdict : Result Job ℕ) × IsVerdict opening sent verdict × (says (clone_by verdict) opening sent ≡ answers)

-- ---- honest links

-- what was got is a front of the replies to what was sent
abbrev pub IsHonest : (sent got : List ℕ) → Type 0
IsHonest sent got = (answers : List ℕ) × AreAnswers sent answers × IsPrefixOf got answers

-- ---- laws

-- There is a right verdict on each stream, so honesty is never empty; and there is one at most.
abbrev pub HasVerdict : Type 0
HasVerdict = (s : JobStanding) (bytes : List ℕ) → (verdict : Result Job ℕ) × IsVerdict s bytes verdict

abbrev pub JudgedOnce : Type 0
JudgedOnce = (payload : List ℕ) (first second : Result Job ℕ) → IsJudged payload first → IsJudged payload second → first ≡ second

-- so there is one list of replies
abbrev pub AnsweredOnce : Type 0
AnsweredOnce = (sent one other : List ℕ) → AreAnswers sent one → AreAnswers sent other → one ≡ other

-- the replies to a beginning are a front of those to the whole
abbrev pub AnswersGrow : Type 0
AnswersGrow = (sent more front whole : List ℕ) → AreAnswers sent front → AreAnswers (sent ++ more) whole → IsPrefixOf front whole

-- a verdict that is right for a stream is right for its beginning, and for what goes on from where the node stands then
abbrev pub VerdictGoesOn : Type 0
VerdictGoesOn = (s : JobStanding) (x y : List ℕ) (verdict : Result Job ℕ) → IsVerdict s (x ++ y) verdict →
    IsVerdict s x verdict × IsVerdict (stands_after (clone_by verdict) s x) y verdict
