-- What an honest link says of its bytes, and what a prompt one owes.
use Rattle.std.specs.Prelude.{◌≡◌, ℕ, ◌<◌, List, [], length, Some, Result}
use Rattle.cc_meaning_nodes.specs.Talk.{Open, says, IsPrefixOf}
use Rattle.cc_meaning_nodes.specs.Clone.{Waiting}
use Rattle.cc_meaning_plain.specs.declared.plain.Plain.{Plain}
use Rattle.cc_meaning_clone.specs.Plain.{PlainStanding, plain_clone, IsVerdict}
use Rattle.cc_link.specs.Links.{Known}
use Rattle.cc_link.specs.declared.link.Dialed.{Dialed}
use Rattle.cc_link.specs.declared.link.Dialed.TheVariants as dials
use Rattle.cc_link.specs.declared.link.Sent.{Sent}
use Rattle.cc_link.specs.declared.link.Sent.TheVariants as sends
use Rattle.cc_link.specs.declared.link.Got.{Got}
use Rattle.cc_link.specs.declared.link.Got.TheVariants as gets

-- a clone to which nothing came yet
abbrev pub at_start : PlainStanding
at_start = Open Waiting []

-- what a clone says in all to these bytes, by a verdict on its Hello
abbrev pub said_to : Result Plain ℕ → List ℕ → List ℕ
said_to verdict sent = says (plain_clone verdict) at_start sent

-- The bytes got are a front of what a clone says to the bytes sent, by each right verdict on its Hello, of which there is one at most. No verdict is handed
-- out: nobody may have looked at the Hello yet.
pub record IsHonest (sent got : List ℕ) : Type 0 where
  pub front : (verdict : Result Plain ℕ) → IsVerdict at_start sent verdict → IsPrefixOf got (said_to verdict sent)

-- a clone says more to the bytes sent than was got
pub record Owes (sent got : List ℕ) : Type 0 where
  pub verdict : Result Plain ℕ
  pub is_right : IsVerdict at_start sent verdict
  pub more : length got < length (said_to verdict sent)

-- both are told
abbrev pub told : List ℕ → List ℕ → Known
told sent got = record { sent = Some sent; got = Some got }

-- where the bytes are told
abbrev pub IsHonestLink : Known → Type 0
IsHonestLink k = (sent got : List ℕ) → k ≡ told sent got → IsHonest sent got

pub record LinkOwes (k : Known) : Type 0 where
  pub sent : List ℕ
  pub got : List ℕ
  pub is_told : k ≡ told sent got
  pub owes : Owes sent got

-- ---- what a prompt link answers

abbrev pub IsUp : Dialed → Type 0
IsUp dials.Up = Unit {0}
IsUp dials.Failed = ⊥
IsUp dials.Memory = Unit {0}

abbrev pub TakesSome : Sent → Type 0
TakesSome (sends.Took n) = Unit {0}
TakesSome sends.NotYet = ⊥
TakesSome sends.Failed = ⊥
TakesSome sends.Memory = Unit {0}

abbrev pub GivesSome : Got → Type 0
GivesSome (gets.Bytes bytes) = Unit {0}
GivesSome gets.NotYet = ⊥
GivesSome gets.End = ⊥
GivesSome gets.Failed = ⊥
GivesSome gets.Memory = Unit {0}
