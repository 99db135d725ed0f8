-- What a link says of its calls.
use Rattle.std.specs.Prelude.{◌≡◌, ℕ, ◌<◌, ◌≤◌, List, length, take, Option}
use Rattle.cc_outside.specs.Counting.{Rose, RoseBy}
use Rattle.cc_outside.specs.Telling.{more}
use Rattle.cc_link.specs.declared.link.Dialed.{Dialed}
use Rattle.cc_link.specs.declared.link.Dialed.TheVariants as dials
use Rattle.cc_link.specs.declared.link.Sent.{Sent}
use Rattle.cc_link.specs.declared.link.Sent.TheVariants as sends
use Rattle.cc_link.specs.declared.link.Got.{Got}
use Rattle.cc_link.specs.declared.link.Got.TheVariants as gets

-- what is known of a link: the bytes sent and the bytes got, where these are told
pub record Known : Type 0 where
  pub sent : Option (List ℕ)
  pub got : Option (List ℕ)

-- how often it failed, took nothing yet, gave nothing yet and was at its end; and how many bytes it carried both ways
pub record Counts : Type 0 where
  pub faults : ℕ
  pub stalls : ℕ
  pub waits : ℕ
  pub ends : ℕ
  pub carried : ℕ

pub record NeverFall (old new : Counts) : Type 0 where
  pub faults : old.faults ≤ new.faults
  pub stalls : old.stalls ≤ new.stalls
  pub waits : old.waits ≤ new.waits
  pub ends : old.ends ≤ new.ends
  pub carried : old.carried ≤ new.carried

-- these bytes were sent too; what else is known is as before
abbrev pub known_sent : List ℕ → Known → Known
known_sent bytes k = record k { sent = more bytes k.sent }

-- these bytes were got too; what else is known is as before
abbrev pub known_got : List ℕ → Known → Known
known_got bytes k = record k { got = more bytes k.got }

-- what a call answered
pub data Answer : Type 0 where
  to_dial : (answer : Dialed) → Answer
  to_send : (answer : Sent) → Answer
  to_receive : (answer : Got) → Answer

-- it moved something, or nothing yet: it is no failure, no end and no want of memory
abbrev pub GoesOn : Answer → Type 0
GoesOn (to_dial dials.Up) = Unit {0}
GoesOn (to_dial answer) = ⊥
GoesOn (to_send (sends.Took n)) = Unit {0}
GoesOn (to_send sends.NotYet) = Unit {0}
GoesOn (to_send answer) = ⊥
GoesOn (to_receive (gets.Bytes bytes)) = Unit {0}
GoesOn (to_receive gets.NotYet) = Unit {0}
GoesOn (to_receive answer) = ⊥

-- what a link says of its calls that doesn't keep their answers
abbrev pub always_goes : {S : Type 0} → S → Type 0
always_goes s = Unit {0}

abbrev pub any_answer : {S : Type 0} → S → Answer → Type 0
any_answer s answer = Unit {0}

-- ---- one call

-- what dialing answers. What is known stays as it is, which is a clause of its own
abbrev pub Dials : Counts → Dialed → Counts → Type 0
Dials old dials.Up new = Unit {0}
Dials old dials.Failed new = Rose old.faults new.faults
Dials old dials.Memory new = Unit {0}

-- what sending these bytes answers
abbrev pub Sends : Known → Counts → List ℕ → Sent → Known → Counts → Type 0
Sends k old bytes (sends.Took n) k' new =
    (k' ≡ known_sent (take n bytes) k) × (0 < n) × (n ≤ length bytes) × RoseBy n old.carried new.carried
Sends k old bytes sends.NotYet k' new = (k' ≡ k) × Rose old.stalls new.stalls
Sends k old bytes sends.Failed k' new = (k' ≡ k) × Rose old.faults new.faults
Sends k old bytes sends.Memory k' new = k' ≡ k

-- what receiving at most `room` bytes answers
abbrev pub Gets : Known → Counts → ℕ → Got → Known → Counts → Type 0
Gets k old room (gets.Bytes bytes) k' new =
    (k' ≡ known_got bytes k) × (0 < length bytes) × (length bytes ≤ room) × RoseBy (length bytes) old.carried new.carried
Gets k old room gets.NotYet k' new = (k' ≡ k) × Rose old.waits new.waits
Gets k old room gets.End k' new = (k' ≡ k) × Rose old.ends new.ends
Gets k old room gets.Failed k' new = (k' ≡ k) × Rose old.faults new.faults
Gets k old room gets.Memory k' new = k' ≡ k
