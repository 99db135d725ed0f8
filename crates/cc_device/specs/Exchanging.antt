-- What sending bytes over a link and awaiting a frame come to.
use Rattle.std.specs.Prelude.{◌≡◌, ◌≢◌, ◌⊎◌, ℕ, List, [], ◌++◌, length, Option, Some, None, Result, Ok, Err}
use Rattle.cc_meaning.specs.declared.frame.Frame.{Frame}
use Rattle.cc_meaning.specs.declared.fault.FrameFault.TheVariants as faults
use Rattle.cc_meaning.specs.declared.travel.LinkEnd.{LinkEnd}
use Rattle.cc_meaning.specs.declared.travel.LinkEnd.TheVariants as ends
use Rattle.cc_meaning_nodes.specs.Frames.{Partial, Whole, Faulty, front_of, Ending, Rest, Fails}
use Rattle.cc_outside.specs.Counting.{Rose, RoseBy}
use Rattle.cc_link.specs.Links.{Known, Counts, Answer, to_dial, to_send, to_receive, known_sent, known_got}
use Rattle.cc_link.specs.Honest.{LinkOwes}
use Rattle.cc_link.specs.declared.link.Dialed.TheVariants as dials
use Rattle.cc_link.specs.declared.link.Sent.TheVariants as sends
use Rattle.cc_link.specs.declared.link.Got.TheVariants as gets
use Rattle.cc_device.specs.declared.exchange.Halt.{Halt}
use Rattle.cc_device.specs.declared.exchange.Halt.TheVariants as halts

-- what is told of a link over calls on it: its counts before and behind them, whether it was prompt before, and whether it owes bytes behind them
pub record Span : Type 1 where
  pub old : Counts
  pub new : Counts
  pub prompt : Type 0
  pub owes : Type 0

-- over calls behind which this is known of the link
abbrev pub span : (old new : Counts) → (prompt : Type 0) → Known → Span
span old new prompt k = record { old = old; new = new; prompt = prompt; owes = LinkOwes k }

-- ---- sending

-- why bytes were not all taken: so many calls in one sending took none
abbrev pub SendingEnds : ℕ → LinkEnd → Counts → Counts → Type 0
SendingEnds patience ends.DialFailed old new = ⊥
SendingEnds patience ends.Failed old new = Rose old.faults new.faults
SendingEnds patience ends.Ended old new = ⊥
SendingEnds patience (ends.Waited n) old new = (n ≡ patience) × RoseBy n old.stalls new.stalls
SendingEnds patience (ends.BadFrame fault) old new = ⊥
SendingEnds patience (ends.Unexpected kind) old new = ⊥
SendingEnds patience (ends.Unfit fault) old new = ⊥
SendingEnds patience (ends.Refused status) old new = ⊥

abbrev pub SendingHalts : ℕ → Halt → Counts → Counts → Type 0
SendingHalts patience halts.Memory old new = Unit {0}
SendingHalts patience (halts.End e) old new = SendingEnds patience e old new

-- a front of the bytes was sent, and the rest is left
pub record IsSent (k : Known) (bytes rest : List ℕ) (k' : Known) : Type 0 where
  pub front : List ℕ
  pub parts : front ++ rest ≡ bytes
  pub known : k' ≡ known_sent front k

-- all of the bytes were sent, or a front of them
abbrev pub SendsAll : Known → Counts → List ℕ → ℕ → Result Unit Halt → Known → Counts → Type 0
SendsAll k old bytes patience (Ok u) k' new = k' ≡ known_sent bytes k
SendsAll k old bytes patience (Err halt) k' new = ((rest : List ℕ) × IsSent k bytes rest k') × SendingHalts patience halt old new

-- a prompt link takes all of the bytes, or there is no memory
abbrev pub IsTaken : Result (Unit {0}) Halt → Type 0
IsTaken (Ok u) = Unit {0}
IsTaken (Err halts.Memory) = Unit {0}
IsTaken (Err (halts.End e)) = ⊥

-- ---- awaiting

-- why no frame came: so many calls in one awaiting gave nothing
abbrev pub AwaitingEnds : List ℕ → ℕ → LinkEnd → Counts → Counts → Type 0
AwaitingEnds bytes patience ends.DialFailed old new = ⊥
AwaitingEnds bytes patience ends.Failed old new = (front_of bytes ≡ Partial) × Rose old.faults new.faults
AwaitingEnds bytes patience ends.Ended old new = (front_of bytes ≡ Partial) × Rose old.ends new.ends
AwaitingEnds bytes patience (ends.Waited n) old new = (front_of bytes ≡ Partial) × (n ≡ patience) × RoseBy n old.waits new.waits
AwaitingEnds bytes patience (ends.BadFrame fault) old new = (front_of bytes ≡ Faulty fault) × (fault ≢ faults.Memory)
AwaitingEnds bytes patience (ends.Unexpected kind) old new = ⊥
AwaitingEnds bytes patience (ends.Unfit fault) old new = ⊥
AwaitingEnds bytes patience (ends.Refused status) old new = ⊥

abbrev pub Awaited : List ℕ → ℕ → Result Frame Halt → Counts → Counts → Type 0
Awaited bytes patience (Ok frame) old new = front_of bytes ≡ Whole frame (length bytes)
Awaited bytes patience (Err halts.Memory) old new = Unit {0}
Awaited bytes patience (Err (halts.End e)) old new = AwaitingEnds bytes patience e old new

-- these bytes came, and this is what they come to
pub record Awaits (k : Known) (old : Counts) (patience : ℕ) (r : Result Frame Halt) (k' : Known) (new : Counts) : Type 0 where
  pub bytes : List ℕ
  pub known : k' ≡ known_got bytes k
  pub awaited : Awaited bytes patience r old new

-- bytes came that are no frame
abbrev pub IsFault : LinkEnd → Type 0
IsFault (ends.BadFrame fault) = Unit {0}
IsFault e = ⊥

-- a prompt link that owes bytes gives some: so a frame comes, or bytes that are none, or there is no memory
abbrev pub IsGiven : Result Frame Halt → Type 0
IsGiven (Ok frame) = Unit {0}
IsGiven (Err halts.Memory) = Unit {0}
IsGiven (Err (halts.End e)) = IsFault e

-- ---- the last call

-- The last call on a link ended it so: it didn't make the link, failed, gave the end, or moved nothing; or it gave bytes, which are no frame or the last of a frame
-- that wasn't awaited.
abbrev pub EndedBy : (last : Answer → Type 0) → LinkEnd → Type 0
EndedBy last ends.DialFailed = last (to_dial dials.Failed)
EndedBy last ends.Failed = last (to_send sends.Failed) ⊎ last (to_receive gets.Failed)
EndedBy last ends.Ended = last (to_receive gets.End)
EndedBy last (ends.Waited n) = last (to_send sends.NotYet) ⊎ last (to_receive gets.NotYet)
EndedBy last e = (bytes : List ℕ) × last (to_receive (gets.Bytes bytes))

-- so it halted; where memory was wanting, nothing is said
abbrev pub LastHalts : (last : Answer → Type 0) → Halt → Type 0
LastHalts last halts.Memory = Unit {0}
LastHalts last (halts.End e) = EndedBy last e

-- all bytes were sent and each call went on, or the last call ended it
abbrev pub LastSent : (going : Type 0) → (last : Answer → Type 0) → Result (Unit {0}) Halt → Type 0
LastSent going last (Ok u) = going
LastSent going last (Err halt) = LastHalts last halt

-- a frame came, whose last bytes the last call gave, and each call went on; or the last call ended it
abbrev pub LastOf : {A : Type 0} → (going : Type 0) → (last : Answer → Type 0) → Result A Halt → Type 0
LastOf going last (Ok a) = going × ((bytes : List ℕ) × last (to_receive (gets.Bytes bytes)))
LastOf going last (Err halt) = LastHalts last halt

-- ---- the steps of awaiting

abbrev pub held_of : Ending → List ℕ
held_of (Rest bytes) = bytes
held_of (Fails fault) = []

-- less than a frame is held
abbrev pub IsHeld : Ending → Type 0
IsHeld (Rest bytes) = front_of bytes ≡ Partial
IsHeld (Fails fault) = ⊥

-- these bytes are more of the frame, make it whole, or are no frame
abbrev pub TakesIn : List ℕ → Result (Option Frame) Halt → Ending → Type 0
TakesIn bytes (Ok None) new = (new ≡ Rest bytes) × (front_of bytes ≡ Partial)
TakesIn bytes (Ok (Some frame)) new = front_of bytes ≡ Whole frame (length bytes)
TakesIn bytes (Err halts.Memory) new = Unit {0}
TakesIn bytes (Err (halts.End (ends.BadFrame fault))) new = (front_of bytes ≡ Faulty fault) × (fault ≢ faults.Memory)
TakesIn bytes (Err (halts.End _)) new = ⊥
