-- A list of happenings is followed one by one.
use Rattle.std.proofs.Common.{◌≡◌, ◌≢◌, ℕ, ◌<◌, Bool, true, false, List, [], ◌∷◌, length, drop, Some, None, refl, sym, ap, subst, inl, inr, arith, slice_get}
use Rattle.cc_meaning.specs.declared.travel.Happening.{Happening}
use Rattle.cc_meaning.specs.declared.travel.Happening.TheVariants.{Up, Down, NotYet, Cut, Fail, CloneStops}
use Rattle.cc_link.specs.declared.link.Sent.{Sent}
use Rattle.cc_link.specs.declared.link.Got.{Got}
use Rattle.cc_link.specs.declared.link.Got.TheVariants as gets
use Rattle.cc_pair.specs.Pairs.{Pair, with_list}
use Rattle.cc_pair.specs.Clones.{GoesUp}
use Rattle.cc_pair.specs.Calls.{TakesAll, SendsBy, SendsPair, Gives, Befalls, IfNone, Carries, Follows, GetsPair}

pub first_is : {A : Type 0} (list : List A) (first : A) → slice_get list 0 ≡ Some first → list ≡ first ∷ drop 1 list
first_is [] first e = absurd cc
first_is (x ∷ xs) first e = let same : x ≡ first = cc in ap (λ y. y ∷ xs) same

pub none_first : {A : Type 0} (list : List A) → slice_get list 0 ≡ None → list ≡ []
none_first [] e = refl
none_first (x ∷ xs) e = absurd cc

pub some_first : {A : Type 0} (list : List A) (first : A) → slice_get list 0 ≡ Some first → 0 < length list
some_first [] first e = absurd cc
some_first (x ∷ xs) first e = omega arith

pub list_falls : {A : Type 0} (list : List A) (first : A) → slice_get list 0 ≡ Some first → length (drop 1 list) < length list
list_falls [] first e = absurd cc
list_falls (x ∷ xs) first e = omega arith

-- ---- sending

pub sends_first : (p : Pair) (first : Happening) → slice_get p.list 0 ≡ Some first → (bytes : List ℕ) (answer : Sent) (q : Pair) →
    SendsBy (first ∷ drop 1 p.list) p bytes answer q → SendsPair p bytes answer q
sends_first p first e bytes answer q h = subst (λ (list : List Happening). SendsBy list p bytes answer q) (sym (first_is p.list first e)) h

pub sends_last : (p : Pair) → slice_get p.list 0 ≡ None → (bytes : List ℕ) (answer : Sent) (q : Pair) → TakesAll p bytes answer q → SendsPair p bytes answer q
sends_last p e bytes answer q h = subst (λ (list : List Happening). SendsBy list p bytes answer q) (sym (none_first p.list e)) h

-- ---- receiving

pub at_none : (xs : List ℕ) (P Q : Type 0) → xs ≡ [] → P → IfNone xs P Q
at_none [] P Q e h = h
at_none (b ∷ bs) P Q e h = absurd cc

pub at_some : (xs : List ℕ) (P Q : Type 0) → length xs ≢ 0 → Q → IfNone xs P Q
at_some [] P Q e h = absurd (e refl)
at_some (b ∷ bs) P Q e h = h

-- the list behind a happening that isn't answered
up_list : (b : Bool) (n : ℕ) (p q : Pair) → GoesUp b n p q → q.list ≡ p.list
up_list true n p q e = ap (λ (r : Pair). r.list) e
up_list false n p q h = ap (λ (r : Pair). r.list) h.2

pub list_behind : (first : Happening) (rest : List Happening) (p mid : Pair) → Befalls first rest p None mid → mid.list ≡ rest
list_behind (Up n) rest p mid (inl h) = up_list p.deaf n (with_list rest p) mid h.1
list_behind (Up n) rest p mid (inr h) = absurd (let e : None ≡ Some gets.Memory = h.0 in cc)
list_behind (Down n) rest p mid (inl h) = ap (λ (r : Pair). r.list) h.1
list_behind (Down n) rest p mid (inr h) = absurd (let e : None ≡ Some gets.Memory = h.0 in cc)
list_behind NotYet rest p mid h = absurd (let e : None ≡ Some gets.NotYet = h.0 in cc)
list_behind Fail rest p mid h = absurd (let e : None ≡ Some gets.Failed = h.0 in cc)
list_behind Cut rest p mid h = absurd (let e : None ≡ Some gets.End = h.0 in cc)
list_behind CloneStops rest p mid h = ap (λ (r : Pair). r.list) h.1

by_first : (p : Pair) (first : Happening) (room : ℕ) → p.down.waiting ≡ [] → slice_get p.list 0 ≡ Some first → (got : Got) (q : Pair) →
    Follows (first ∷ drop 1 p.list) room p got q → GetsPair p room got q
by_first p first room none e got q h =
    at_none p.down.waiting (Follows p.list room p got q) (Gives room p got q) none
    (subst (λ (list : List Happening). Follows list room p got q) (sym (first_is p.list first e)) h)

pub follow_on : (p mid : Pair) (first : Happening) (room : ℕ) → p.down.waiting ≡ [] → slice_get p.list 0 ≡ Some first → Befalls first (drop 1 p.list) p None mid →
    (got : Got) (q : Pair) → GetsPair mid room got q → GetsPair p room got q
follow_on p mid first room none e befalls got q h =
    let behind : IfNone mid.down.waiting (Follows (drop 1 p.list) room mid got q) (Gives room mid got q) =
    subst (λ (list : List Happening). IfNone mid.down.waiting (Follows list room mid got q) (Gives room mid got q)) (list_behind first (drop 1 p.list) p mid befalls) h in
    by_first p first room none e got q (None, mid, befalls, behind)

pub follow_answers : (p q : Pair) (first : Happening) (room : ℕ) → p.down.waiting ≡ [] → slice_get p.list 0 ≡ Some first → (got : Got) →
    Befalls first (drop 1 p.list) p (Some got) q → GetsPair p room got q
follow_answers p q first room none e got befalls = by_first p first room none e got q (Some got, q, befalls, (refl, refl))

pub follow_carries : (p q : Pair) (room : ℕ) → p.down.waiting ≡ [] → slice_get p.list 0 ≡ None → (got : Got) → Carries room p got q → GetsPair p room got q
follow_carries p q room none e got h =
    at_none p.down.waiting (Follows p.list room p got q) (Gives room p got q) none
    (subst (λ (list : List Happening). Follows list room p got q) (sym (none_first p.list e)) h)

pub follow_gives : (p q : Pair) (room : ℕ) → length p.down.waiting ≢ 0 → (got : Got) → Gives room p got q → GetsPair p room got q
follow_gives p q room some got h = at_some p.down.waiting (Follows p.list room p got q) (Gives room p got q) some h
