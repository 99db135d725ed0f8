-- What the calls of the link answer, by the happenings to come.
use Rattle.std.specs.Prelude.{◌≡◌, ◌⊎◌, ℕ, List, [], ◌∷◌, length, take, Option, Some, None}
use Rattle.cc_meaning.specs.declared.travel.Happening.{Happening}
use Rattle.cc_meaning.specs.declared.travel.Happening.TheVariants.{Up, Down, NotYet, Cut, Fail, CloneStops}
use Rattle.cc_link.specs.declared.link.Dialed.{Dialed}
use Rattle.cc_link.specs.declared.link.Dialed.TheVariants as dials
use Rattle.cc_link.specs.declared.link.Sent.{Sent}
use Rattle.cc_link.specs.declared.link.Sent.TheVariants as sends
use Rattle.cc_link.specs.declared.link.Got.{Got}
use Rattle.cc_link.specs.declared.link.Got.TheVariants as gets
use Rattle.cc_pair.specs.Pairs.{Pair, with_list, deafened, with_fault, with_stall, with_wait, with_end, with_carried, with_sent, brought_down, with_given}
use Rattle.cc_pair.specs.Clones.{GoesUp, IsRefused}

-- ---- dialing

-- it fails where the next happening is that a call fails, and there alone
abbrev pub DialsBy : List Happening → Pair → Dialed → Pair → Type 0
DialsBy (Fail ∷ rest) p dialed q = (dialed ≡ dials.Failed) × (q ≡ with_fault (with_list rest p))
DialsBy _ p dialed q = (dialed ≡ dials.Up) × (q ≡ p)

abbrev pub DialsPair : Pair → Dialed → Pair → Type 0
DialsPair p dialed q = DialsBy p.list p dialed q

-- ---- sending

-- all bytes are taken, or there is no memory
abbrev pub TakesAll : Pair → List ℕ → Sent → Pair → Type 0
TakesAll p bytes (sends.Took n) q = (n ≡ length bytes) × (q ≡ with_carried (length bytes) (with_sent bytes p))
TakesAll p bytes sends.NotYet q = ⊥
TakesAll p bytes sends.Failed q = ⊥
TakesAll p bytes sends.Memory q = q ≡ p

-- clones that stop next stop now; then the call takes nothing yet, fails, or takes all. A link that is cut stays so.
abbrev pub SendsBy : List Happening → Pair → List ℕ → Sent → Pair → Type 0
SendsBy (CloneStops ∷ rest) p bytes answer q = SendsBy rest (deafened (with_list rest p)) bytes answer q
SendsBy (NotYet ∷ rest) p bytes answer q = (answer ≡ sends.NotYet) × (q ≡ with_stall (with_list rest p))
SendsBy (Fail ∷ rest) p bytes answer q = (answer ≡ sends.Failed) × (q ≡ with_fault (with_list rest p))
SendsBy (Cut ∷ rest) p bytes answer q = (answer ≡ sends.Failed) × (q ≡ with_fault p)
SendsBy (Up n ∷ rest) p bytes answer q = TakesAll p bytes answer q
SendsBy (Down n ∷ rest) p bytes answer q = TakesAll p bytes answer q
SendsBy [] p bytes answer q = TakesAll p bytes answer q

abbrev pub SendsPair : Pair → List ℕ → Sent → Pair → Type 0
SendsPair p bytes answer q = SendsBy p.list p bytes answer q

-- ---- receiving

-- as many of the bytes that came down as there is room for are given, or there is no memory
abbrev pub Gives : ℕ → Pair → Got → Pair → Type 0
Gives room p (gets.Bytes bytes) q = (bytes ≡ take room p.down.waiting) × (q ≡ with_carried (length bytes) (with_given room p))
Gives room p gets.NotYet q = ⊥
Gives room p gets.End q = ⊥
Gives room p gets.Failed q = ⊥
Gives room p gets.Memory q = q ≡ p

-- What befalls the link, and what is answered where an answer is due. A happening that finds no memory for the bytes that come down stays; one whose bytes
-- the clone refuses is done.
abbrev pub Befalls : Happening → List Happening → Pair → Option Got → Pair → Type 0
Befalls (Up n) rest p answer q =
    ((answer ≡ None) × GoesUp p.deaf n (with_list rest p) q) ⊎ ((answer ≡ Some gets.Memory) × IsRefused p.deaf n (with_list rest p) q)
Befalls (Down n) rest p answer q = ((answer ≡ None) × (q ≡ with_list rest (brought_down n p))) ⊎ ((answer ≡ Some gets.Memory) × (q ≡ p))
Befalls NotYet rest p answer q = (answer ≡ Some gets.NotYet) × (q ≡ with_wait (with_list rest p))
Befalls Fail rest p answer q = (answer ≡ Some gets.Failed) × (q ≡ with_fault (with_list rest p))
Befalls Cut rest p answer q = (answer ≡ Some gets.End) × (q ≡ with_end p)
Befalls CloneStops rest p answer q = (answer ≡ None) × (q ≡ deafened (with_list rest p))

-- the one where there are no bytes, the other where there are some
abbrev pub IfNone : List ℕ → Type 0 → Type 0 → Type 0
IfNone [] P Q = P
IfNone (b ∷ bs) P Q = Q

-- bytes that came down are given, or there is nothing yet
abbrev pub Finds : ℕ → Pair → Got → Pair → Type 0
Finds room p got q = IfNone p.down.waiting ((got ≡ gets.NotYet) × (q ≡ with_wait p)) (Gives room p got q)

-- all that stands at the clone comes down, or there is no memory
abbrev pub BringsAll : ℕ → Pair → Got → Pair → Type 0
BringsAll room p got q = ((got ≡ gets.Memory) × (q ≡ p)) ⊎ Finds room (brought_down (length p.clone.said) p) got q

-- all is carried both ways, or the clone refuses what goes up
abbrev pub Carries : ℕ → Pair → Got → Pair → Type 0
Carries room p got q =
    ((mid : Pair) × GoesUp p.deaf (length p.up.waiting) p mid × BringsAll room mid got q)
    ⊎ ((got ≡ gets.Memory) × IsRefused p.deaf (length p.up.waiting) p q)

-- the happening's answer is the call's, or the call goes on
abbrev pub GoesOn : Option Got → Got → Pair → Pair → Type 0 → Type 0
GoesOn (Some answer) got mid q More = (got ≡ answer) × (q ≡ mid)
GoesOn None got mid q More = More

-- the list is followed until bytes came down or an answer is due; where none is left, all is carried
abbrev pub Follows : List Happening → ℕ → Pair → Got → Pair → Type 0
Follows [] room p got q = Carries room p got q
Follows (happening ∷ rest) room p got q =
    (answer : Option Got) × (mid : Pair) × Befalls happening rest p answer mid
    × GoesOn answer got mid q (IfNone mid.down.waiting (Follows rest room mid got q) (Gives room mid got q))

abbrev pub GetsPair : Pair → ℕ → Got → Pair → Type 0
GetsPair p room got q = IfNone p.down.waiting (Follows p.list room p got q) (Gives room p got q)
