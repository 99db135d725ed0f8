-- A link of which the bytes that it gives are stated.
use Rattle.std.specs.Prelude.{◌≡◌, ℕ, ◌+◌, ◌-◌, ◌^◌, ◌<◌, min, List, [], ◌++◌, length, take, drop, Some}
use Rattle.cc_outside.specs.Failing.{one_more}
use Rattle.cc_link.specs.Links.{Known, Counts}
use Rattle.cc_link.specs.Honest.{IsHonestLink}
use Rattle.cc_link.specs.declared.canned_link.CannedEnd.{CannedEnd}
use Rattle.cc_link.specs.declared.canned_link.CannedEnd.TheVariants as canned
use Rattle.cc_link.specs.declared.link.Sent.{Sent}
use Rattle.cc_link.specs.declared.link.Sent.TheVariants as sends
use Rattle.cc_link.specs.declared.link.Got.{Got}
use Rattle.cc_link.specs.declared.link.Got.TheVariants as gets

-- the stated bytes, those of them that were given and those that are left, and the stated end; the bytes sent; and the counts that can rise
pub record Canned : Type 0 where
  pub given : List ℕ
  pub rest : List ℕ
  pub end : CannedEnd
  pub sent : List ℕ
  pub waits : ℕ
  pub ends : ℕ
  pub carried : ℕ

-- it tells the bytes sent and got
abbrev pub known_of : Canned → Known
known_of s = record { sent = Some s.sent; got = Some s.given }

-- it never fails, and takes all at once
abbrev pub counts_of : Canned → Counts
counts_of s = record { faults = 0; stalls = 0; waits = s.waits; ends = s.ends; carried = s.carried }

-- it never tells that its far side is a clone
abbrev pub IsNever : Canned → Type 0
IsNever s = ⊥

pub never_tells : (s : Canned) → IsNever s → IsHonestLink (known_of s)
never_tells s h = absurd h

pub never_trusts : (s : Canned) → IsNever s → IsNever s
never_trusts s h = h

abbrev pub carried_more : ℕ → ℕ → ℕ
carried_more n carried = min (carried + n) (2 ^ 64 - 1)

-- all is taken, or there is no memory
abbrev pub SendsCanned : Canned → List ℕ → Sent → Canned → Type 0
SendsCanned s bytes (sends.Took n) s' =
    (n ≡ length bytes) × (s' ≡ record s { sent = s.sent ++ bytes; carried = carried_more (length bytes) s.carried })
SendsCanned s bytes sends.NotYet s' = ⊥
SendsCanned s bytes sends.Failed s' = ⊥
SendsCanned s bytes sends.Memory s' = s' ≡ s

-- the bytes are given by room, and then the stated end for good
abbrev pub GetsCanned : Canned → ℕ → Got → Canned → Type 0
GetsCanned s room (gets.Bytes bytes) s' =
    (bytes ≡ take room s.rest) × (0 < length bytes)
    × (s' ≡ record s { given = s.given ++ bytes; rest = drop room s.rest; carried = carried_more (length bytes) s.carried })
GetsCanned s room gets.NotYet s' = (s.rest ≡ []) × (s.end ≡ canned.NotYet) × (s' ≡ record s { waits = one_more s.waits })
GetsCanned s room gets.End s' = (s.rest ≡ []) × (s.end ≡ canned.End) × (s' ≡ record s { ends = one_more s.ends })
GetsCanned s room gets.Failed s' = ⊥
GetsCanned s room gets.Memory s' = (0 < length s.rest) × (s' ≡ s)
