-- What a run whose moved function is done by a clone comes to, and what is sent and got for it.
use Rattle.std.specs.Prelude.{◌≡◌, ◌≢◌, ◌⊎◌, ℕ, suc, ◌+◌, ◌≤◌, ◌<◌, ◌==◌, Bool, true, false, cond, List, [], ◌∷◌, ◌++◌, length, drop, Option, Some, None, is_some, Result, Ok, Err, slice_set}
use Rattle.std.specs.List.{flat_map}
use Rattle.cc_meaning.specs.declared.file.Job.{Job}
use Rattle.cc_meaning.specs.declared.frame.Frame.{Frame}
use Rattle.cc_meaning.specs.declared.report.Limits.{Limits}
use Rattle.cc_meaning.specs.declared.report.Report.{Report}
use Rattle.cc_meaning.specs.declared.travel.Travel.{Travel}
use Rattle.cc_meaning_run.specs.Acts.{less_by}
use Rattle.cc_meaning_run.specs.Local.{local}
use Rattle.cc_meaning.specs.declared.image.RunImage.{RunImage}
use Rattle.cc_meaning.specs.declared.image.BackImage.{BackImage}
use Rattle.cc_meaning.specs.declared.program.Program.{Program}
use Rattle.cc_meaning.specs.declared.report.Ending.TheVariants as ending
use Rattle.cc_meaning.specs.declared.report.StopCause.TheVariants as cause
use Rattle.cc_meaning.specs.declared.travel.LinkEnd.{LinkEnd}
use Rattle.cc_meaning.specs.declared.travel.LinkEnd.TheVariants as ends
use Rattle.cc_meaning_nodes.specs.Frames.{Whole, front_of, Rest, Fails, frames_of}
use Rattle.cc_meaning_nodes.specs.Talk.{IsPrefixOf}
use Rattle.cc_meaning_nodes.specs.Clone.{hello_kind, version, frame_bytes}
use Rattle.cc_meaning_plain.specs.declared.plain.Plain.{Plain}
use Rattle.cc_meaning_plain.specs.declared.plain.PlainInsn.{PlainInsn}
use Rattle.cc_meaning_plain.specs.Laws.{AreBytes}
use Rattle.cc_meaning_plain.specs.Plain.{IsPlain}
use Rattle.cc_meaning_plain.specs.Program.{function_number, program_of, setting_of}
use Rattle.cc_meaning_clone.specs.Hello.{with_length}
use Rattle.cc_meaning_device.specs.Received.{Received, is_ready, Offloaded, offloaded}
use Rattle.cc_meaning_device.specs.Straight.{plain_device, value_back, Course, course_with_line, course_came, called, course_of, plain_course}
use Rattle.cc_machine.specs.declared.progress.Progress.{Progress}
use Rattle.cc_machine.specs.declared.progress.Came.{Came as MachineCame}
use Rattle.cc_machine.specs.declared.progress.Pause.{Pause}
use Rattle.cc_machine.specs.declared.progress.Pause.TheVariants as pauses
use Rattle.cc_machine.specs.Running.{stage_ended}
use Rattle.cc_outside.specs.Counting.{Rose, RoseBy}
use Rattle.cc_link.specs.Links.{Known, Counts, Answer, NeverFall, known_sent, known_got}
use Rattle.cc_device.specs.declared.contact.Contact.{Contact}
use Rattle.cc_device.specs.declared.exchange.Halt.{Halt}
use Rattle.cc_device.specs.declared.exchange.Halt.TheVariants as halts
use Rattle.cc_device.specs.Exchanging.{Span, span, SendingEnds, IsFault, EndedBy}
use Rattle.cc_device.specs.Judging.{judge_ready, judge_back, AnswersSo, EndsSo, run_bytes}

-- ---- what is given

-- some bytes are this plain file
abbrev pub IsOfFile : Plain → Type 0
IsOfFile plain = (file : List ℕ) × AreBytes file × IsPlain file plain

-- which methods are moved: none, or the function of a place
abbrev pub moves_of : Plain → Option ℕ → ℕ → Bool
moves_of plain None m = false
moves_of plain (Some i) m = m == function_number plain i

-- the name of the main class, empty where none is named
abbrev pub main_of : Option (List ℕ) → List ℕ
main_of None = []
main_of (Some name) = name

-- the payload of a job's Hello, and its frame
unfoldable pub hello_payload : Job → List ℕ
hello_payload job = version ∷ with_length (main_of job.main) ++ (with_length job.file ++ with_length job.script)

unfoldable pub hello_bytes : Job → List ℕ
hello_bytes job = frame_bytes hello_kind (hello_payload job)

-- ---- one call of the clone

-- a Back came: to a Run alone, or to a Run behind the Hello's Ready
pub data Took (p : Program) (hello : List ℕ) (image : RunImage) (sent got : List ℕ) (back : BackImage) : Bool → Type 0 where
  called_alone : AnswersSo (judge_back p image) (run_bytes image) sent got back → Took p hello image sent got back true
  opened_first : (ready : Frame) (first sent_behind more : List ℕ) → sent ≡ hello ++ sent_behind → got ≡ first ++ more → front_of first ≡ Whole ready (length first) → judge_ready ready ≡ Ok tt →
      AnswersSo (judge_back p image) (run_bytes image) sent_behind more back → Took p hello image sent got back false

-- none came
pub data Fell (p : Program) (hello : List ℕ) (patience : ℕ) (image : RunImage) (sent got : List ℕ) (e : LinkEnd) (c : Span) : Bool → Type 0 where
  not_reached : e ≡ ends.DialFailed → sent ≡ [] → got ≡ [] → Rose c.old.faults c.new.faults → (c.prompt → ⊥) → Fell p hello patience image sent got e c false
  not_opened : EndsSo judge_ready hello patience sent got e c → Fell p hello patience image sent got e c false
  not_called : EndsSo (judge_back p image) (run_bytes image) patience sent got e c → Fell p hello patience image sent got e c true
  not_called_first : (ready : Frame) (first sent_behind more : List ℕ) → sent ≡ hello ++ sent_behind → got ≡ first ++ more → front_of first ≡ Whole ready (length first) → judge_ready ready ≡ Ok tt →
      EndsSo (judge_back p image) (run_bytes image) patience sent_behind more e c → Fell p hello patience image sent got e c false

abbrev pub ReachedBy : Program → (hello : List ℕ) → (patience : ℕ) → RunImage → (sent got : List ℕ) → Result BackImage Halt → Span → (is_open : Bool) → Type 0
ReachedBy p hello patience image sent got (Ok back) c is_open = Took p hello image sent got back is_open
ReachedBy p hello patience image sent got (Err halts.Memory) c is_open = Unit {0}
ReachedBy p hello patience image sent got (Err (halts.End e)) c is_open = Fell p hello patience image sent got e c is_open

-- what was sent and got for the call, and what it came to
pub record Reaches (p : Program) (hello : List ℕ) (patience : ℕ) (image : RunImage) (is_open : Bool) (k : Known) (old : Counts) (prompt : Type 0) (r : Result BackImage Halt) (k' : Known) (new : Counts) : Type 0 where
  pub sent : List ℕ
  pub got : List ℕ
  pub known : k' ≡ known_got got (known_sent sent k)
  pub came : ReachedBy p hello patience image sent got r (span old new prompt k') is_open

-- ---- a run

abbrev pub IsLater : Pause → (before now : ℕ) → Type 0
IsLater (pauses.AtEntry entry) before now = before < now
IsLater (pauses.Done ends) before now = Unit {0}

-- what a run comes to that paused here and holds this, while the device stands so with its clone
abbrev pub paused_course : Plain → (moves : ℕ → Bool) → Pause → Progress → Received → Course
paused_course plain moves (pauses.Done ends) p t = record { stage = stage_ended p ends; received = t }
paused_course plain moves (pauses.AtEntry entry) p t =
    course_with_line p.text (course_came (called plain moves entry.function entry.argument p.instructions p.words t)
    (λ n left words t'. course_of plain moves (slice_set p.numbers entry.to n) (drop p.next plain.main.insns) left words t'))

-- what a run comes to that holds this, with these instructions to come
abbrev pub course_from : Plain → (moves : ℕ → Bool) → Progress → List PlainInsn → Received → Course
course_from plain moves p rest t = course_with_line p.text (course_of plain moves p.numbers rest p.instructions p.words t)

-- what a run comes to behind a call that came to this, whose result goes into a register
abbrev pub behind_call : Plain → (moves : ℕ → Bool) → (to : ℕ) → MachineCame → Progress → Received → Course
behind_call plain moves to came p t =
    course_with_line p.text (course_came (record { value = came.value; instructions = came.instructions; words = came.words; received = t })
    (λ n left words t'. course_of plain moves (slice_set p.numbers to n) (drop p.next plain.main.insns) left words t'))

-- what a run comes to that made nothing yet: the array of no arguments takes two words
abbrev pub begun_with : Plain → (moves : ℕ → Bool) → Option ℕ → Progress → Received → Course
begun_with plain moves None p t = record { stage = stage_ended p (ending.Stopped cause.Heap); received = t }
begun_with plain moves (Some words) p t = course_from plain moves (record p { words = words }) (drop p.next plain.main.insns) t

abbrev pub begun_course : Plain → (moves : ℕ → Bool) → Progress → Received → Course
begun_course plain moves p t = begun_with plain moves (less_by 2 p.words) p t

-- where a device fell back, the run pauses at no function
abbrev pub stops_in : (fallen : Bool) → Option ℕ → Option ℕ
stops_in true moved = None
stops_in false moved = moved

-- a run goes on: no counter grows, and between two entries an instruction is done
pub record Keeps (old : Progress) (pause : Pause) (new : Progress) : Type 0 where
  pub instructions : new.instructions ≤ old.instructions
  pub words : new.words ≤ old.words
  pub later : IsLater pause old.next new.next

-- how a device stands with its clone, while these frames come and these images were noted
abbrev pub received_of : Contact → List RunImage → List Frame → Received
received_of contact images frames = record { opened = contact.is_open; frames = frames; images = images; merged = contact.merged; fallen = is_some contact.end }

-- Over all frames that may still come the whole run is what is left of it; once the device fell back, no more come.
abbrev pub GoesSo : Option LinkEnd → (whole : List Frame → Course) → (got : List ℕ) → (left : List Frame → Course) → Type 0
GoesSo None whole got left = (more : List ℕ) → whole (frames_of (got ++ more)).frames ≡ left (frames_of more).frames
GoesSo (Some e) whole got left = (frames : List Frame) × (whole (frames_of got).frames ≡ left frames)

-- ---- what is sent

abbrev pub begins_ready : List Frame → Bool
begins_ready [] = false
begins_ready (frame ∷ rest) = is_ready frame

-- what is due: the Hello, and once a Ready came a Run for each image
abbrev pub due : (hello : List ℕ) → List Frame → List RunImage → List ℕ
due hello frames images = hello ++ cond (begins_ready frames) (flat_map run_bytes images) []

-- ---- how a travel ends

-- the frame that came last is none that was awaited: the first one is to be a Ready, each later one the Back of the image of its place, which is the last
abbrev pub JudgedSo : Program → (before : List Frame) → List RunImage → Frame → LinkEnd → Type 0
JudgedSo p [] images frame e = judge_ready frame ≡ Err e
JudgedSo p (first ∷ rest) images frame e = (others : List RunImage) × (image : RunImage) × (images ≡ others ++ image ∷ []) × (length rest ≡ length others) × (judge_back p image frame ≡ Err e)

-- why no frame came that was awaited
abbrev pub AwaitingEnded : (got : List ℕ) → ℕ → LinkEnd → Counts → Counts → Type 0
AwaitingEnded got patience ends.DialFailed old new = ⊥
AwaitingEnded got patience ends.Failed old new = ((rest : List ℕ) × ((frames_of got).ending ≡ Rest rest)) × Rose old.faults new.faults
AwaitingEnded got patience ends.Ended old new = ((rest : List ℕ) × ((frames_of got).ending ≡ Rest rest)) × Rose old.ends new.ends
AwaitingEnded got patience (ends.Waited n) old new = ((rest : List ℕ) × ((frames_of got).ending ≡ Rest rest)) × (n ≡ patience) × RoseBy n old.waits new.waits
AwaitingEnded got patience (ends.BadFrame fault) old new = (frames_of got).ending ≡ Fails fault
AwaitingEnded got patience (ends.Unexpected kind) old new = ⊥
AwaitingEnded got patience (ends.Unfit fault) old new = ⊥
AwaitingEnded got patience (ends.Refused status) old new = ⊥

-- The link couldn't be made; or a front of what is due was sent, and the rest wasn't taken; or all was sent, and no frame came, so that fewer came than were asked
-- for, or another than was awaited. A prompt link is made, takes all bytes, and gives some as long as it owes any.
pub data EndsTravel (p : Program) (hello : List ℕ) (patience : ℕ) (sent got : List ℕ) (images : List RunImage) (e : LinkEnd) (c : Span) : Type 0 where
  not_dialed : e ≡ ends.DialFailed → sent ≡ [] → got ≡ [] → Rose c.old.faults c.new.faults → (c.prompt → ⊥) → EndsTravel p hello patience sent got images e c
  in_sending : IsPrefixOf sent (due hello (frames_of got).frames images) → (frames_of got).ending ≡ Rest [] → SendingEnds patience e c.old c.new → (c.prompt → ⊥) → EndsTravel p hello patience sent got images e c
  in_awaiting : sent ≡ due hello (frames_of got).frames images → length (frames_of got).frames ≤ length images → AwaitingEnded got patience e c.old c.new → (c.prompt → c.owes → IsFault e) →
      EndsTravel p hello patience sent got images e c
  by_frame : (before : List Frame) (frame : Frame) → sent ≡ due hello (frames_of got).frames images → (frames_of got).ending ≡ Rest [] → (frames_of got).frames ≡ before ++ frame ∷ [] →
      JudgedSo p before images frame e → EndsTravel p hello patience sent got images e c

-- all that is due was sent, and each answer came whole: a Ready, and one for each image
pub record TravelsOn (hello sent got : List ℕ) (images : List RunImage) : Type 0 where
  pub some : images ≢ []
  pub all : sent ≡ due hello (frames_of got).frames images
  pub whole : (frames_of got).ending ≡ Rest []
  pub ready : begins_ready (frames_of got).frames ≡ true
  pub many : length (frames_of got).frames ≡ suc (length images)

-- no moved method was entered, and nothing was sent or got
pub record StaysHome (sent got : List ℕ) (images : List RunImage) : Type 0 where
  pub none : images ≡ []
  pub silent : sent ≡ []
  pub deaf : got ≡ []

-- how the device stands with its clone
abbrev pub TravelsSo : Program → (hello : List ℕ) → (patience : ℕ) → Contact → (sent got : List ℕ) → List RunImage → Span → Type 0
TravelsSo p hello patience contact sent got images c = by contact.end contact.is_open
  where
    by : Option LinkEnd → Bool → Type 0
    by None false = StaysHome sent got images
    by None true = TravelsOn hello sent got images
    by (Some e) is_open = (images ≢ []) × EndsTravel p hello patience sent got images e c

-- These bytes were sent and got for these images so far, and over all frames that may still come the run is what is left of it.
pub record Stood (plain : Plain) (moved : Option ℕ) (job : Job) (contact : Contact) (left : Received → Course) (k : Known) (old : Counts) (prompt : Type 0) (k' : Known) (new : Counts) (prompt' : Type 0) : Type 0 where
  pub sent : List ℕ
  pub got : List ℕ
  pub images : List RunImage
  pub known : k' ≡ known_got got (known_sent sent k)
  pub counts : NeverFall old new
  -- a prompt link is one yet, as long as the device didn't fall back
  pub stays : contact.end ≡ None → prompt → prompt'
  pub travels : TravelsSo (program_of plain) (hello_bytes job) job.patience contact sent got images (span old new prompt k')
  pub course : GoesSo contact.end (λ frames. plain_course plain (moves_of plain moved) job.limits frames) got (λ frames. left (received_of contact images frames))

-- what calling the clone came to: its Back, or why the device falls back
pub data CallsThere (plain : Plain) (job : Job) (image : RunImage) (contact : Contact) (k : Known) (old : Counts) (prompt : Type 0) (k' : Known) (new : Counts) : Option MachineCame → Contact → Type 0 where
  gives_back : (back : BackImage) → Reaches (program_of plain) (hello_bytes job) job.patience image contact.is_open k old prompt (Ok back) k' new →
      CallsThere plain job image contact k old prompt k' new (Some (record { value = value_back back.ending; instructions = back.instructions; words = back.words })) (record { is_open = true; merged = contact.merged + 1; end = contact.end })
  falls_back : (e : LinkEnd) → Reaches (program_of plain) (hello_bytes job) job.patience image contact.is_open k old prompt (Err (halts.End e)) k' new →
      CallsThere plain job image contact k old prompt k' new None (record { is_open = contact.is_open; merged = contact.merged; end = Some e })

-- what a call came to, and how the device stands behind it
pub record CallDone (p : Progress) (contact : Contact) (untouched : Type 0) (came : MachineCame) (contact' : Contact) : Type 0 where
  pub instructions : came.instructions ≤ p.instructions
  pub words : came.words ≤ p.words
  pub merged : contact'.merged ≤ contact.merged + 1
  pub home : contact'.is_open ≡ false → contact'.end ≡ None → untouched

-- each call on the link went on; or the device fell back, and the last call ended the travel, as none before it did
abbrev pub LastEnds : (going : Type 0) → (last : Answer → Type 0) → Option LinkEnd → Type 0
LastEnds going last None = going
LastEnds going last (Some e) = EndedBy last e

-- ---- what an offloaded run promises

-- no moved method was entered, or every one was done by the clone, or the device fell back for this reason
abbrev pub TravelsAs : Program → (hello : List ℕ) → (patience : ℕ) → Option LinkEnd → (sent got : List ℕ) → List RunImage → Span → Type 0
TravelsAs p hello patience None sent got images c = StaysHome sent got images ⊎ TravelsOn hello sent got images
TravelsAs p hello patience (Some e) sent got images c = (images ≢ []) × EndsTravel p hello patience sent got images e c

-- the run over received frames
abbrev pub offloaded_over : Plain → Option ℕ → Limits → List Frame → Offloaded
offloaded_over plain moved limits frames = offloaded (plain_device plain (moves_of plain moved)) (setting_of plain) [] limits frames

-- These bytes were sent and got, and the report and the travel are those of the run over the frames of what was got.
pub record Offloads (plain : Plain) (moved : Option ℕ) (job : Job) (report : Report) (travel : Travel) (k : Known) (old : Counts) (prompt : Type 0) (k' : Known) (new : Counts) (untouched : Type 0) : Type 0 where
  pub sent : List ℕ
  pub got : List ℕ
  pub known : k' ≡ known_got got (known_sent sent k)
  pub reports : (offloaded_over plain moved job.limits (frames_of got).frames).report ≡ Some report
  pub migrations : (offloaded_over plain moved job.limits (frames_of got).frames).received.merged ≡ travel.migrations
  pub fallback : (offloaded_over plain moved job.limits (frames_of got).frames).received.fallen ≡ is_some travel.fallback
  pub travels : TravelsAs (program_of plain) (hello_bytes job) job.patience travel.fallback sent got (offloaded_over plain moved job.limits (frames_of got).frames).received.images (span old new prompt k')
  -- where it didn't fall back, each entry of the moved method migrated
  pub each : travel.fallback ≡ None → travel.migrations ≡ length (offloaded_over plain moved job.limits (frames_of got).frames).received.images
  -- where no moved method was entered, the link is as it was
  pub home : (offloaded_over plain moved job.limits (frames_of got).frames).received.images ≡ [] → untouched

-- the report is that of the run on one heap
abbrev pub IsLocal : Plain → Limits → Report → Type 0
IsLocal plain limits report = local (setting_of plain) [] limits ≡ Some report

-- a call of the link failed, moved nothing, or gave the end
abbrev pub SomeRose : Counts → Counts → Type 0
SomeRose old new = Rose old.faults new.faults ⊎ (Rose old.stalls new.stalls ⊎ (Rose old.waits new.waits ⊎ Rose old.ends new.ends))

-- a device that falls back does so where such a count rose
abbrev pub FallsOnlySo : Option LinkEnd → Counts → Counts → Type 0
FallsOnlySo None old new = Unit {0}
FallsOnlySo (Some e) old new = SomeRose old new
