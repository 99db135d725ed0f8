-- What the calls' answers say of the bytes, of the counts, and of a prompt link.
use Rattle.std.proofs.Common.{◌≡◌, ◌≢◌, ℕ, ◌<◌, min, Bool, true, false, List, [], ◌∷◌, ◌++◌, length, take, drop, Option, Some, None, refl, sym, ap, ◌∙◌, subst, inl, inr, arith, append_assoc}
use Rattle.std.proofs.lemmas.List.{take_all, drop_all, length-take, append-nil}
use Rattle.std.proofs.lemmas.Option.{same_Some}
use Rattle.cc_meaning.specs.declared.travel.Happening.{Happening}
use Rattle.cc_meaning.specs.declared.travel.Happening.TheVariants.{Up, Down, NotYet, Cut, Fail, CloneStops}
use Rattle.cc_meaning_clone.specs.Plain.{IsVerdict}
use Rattle.cc_link.specs.Links.{Known, Counts, NeverFall, Sends, Gets}
use Rattle.cc_link.specs.Honest.{at_start, said_to, LinkOwes, TakesSome, GivesSome}
use Rattle.cc_link.specs.declared.link.Sent.{Sent}
use Rattle.cc_link.specs.declared.link.Sent.TheVariants as sends
use Rattle.cc_link.specs.declared.link.Got.{Got}
use Rattle.cc_link.specs.declared.link.Got.TheVariants as gets
use Rattle.cc_pair.specs.Pairs.{Pair, known_of, with_list, deafened, with_fault, with_stall, with_wait, with_end, with_sent, brought_down, with_given}
use Rattle.cc_pair.specs.Clones.{GoesUp, IsRefused}
use Rattle.cc_pair.specs.Calls.{TakesAll, SendsBy, SendsPair, Gives, Befalls, IfNone, Finds, BringsAll, Carries, GoesOn, Follows, GetsPair}
use Rattle.cc_pair.specs.Fair.{all_said, IsFair, IsPrompt}
use Rattle.cc_pair.specs.Counting.{Fit, one_fault}
use Rattle.cc_pair.proofs.Pieces.{all_stay}

same_counts : (k : Counts) → NeverFall k k
same_counts k = record { faults = omega arith; stalls = omega arith; waits = omega arith; ends = omega arith; carried = omega arith }

-- ---- dialing

pub fault_is_more : (k : Counts) → Fit k → NeverFall k (one_fault k)
fault_is_more k fit = record { faults = omega (arith, fit.faults); stalls = omega arith; waits = omega arith; ends = omega arith; carried = omega arith }

-- ---- sending

abbrev SendsWell : Pair → List ℕ → Sent → Pair → Type 0
SendsWell p bytes answer q = Sends (known_of p) p.counts bytes answer (known_of q) q.counts × NeverFall p.counts q.counts

takes_well : (p q : Pair) (bytes : List ℕ) (answer : Sent) → Fit p.counts → 0 < length bytes → TakesAll p bytes answer q → SendsWell p bytes answer q
takes_well p q bytes (sends.Took n) fit some h =
    let known : known_of (with_sent bytes p) ≡ record { sent = Some ((p.up.passed ++ p.up.waiting) ++ take n bytes); got = Some p.down.passed } =
    ap (λ (xs : List ℕ). record { sent = Some xs; got = Some p.down.passed }) (sym (append_assoc p.up.passed p.up.waiting bytes) ∙ ap (λ (xs : List ℕ). (p.up.passed ++ p.up.waiting) ++ xs) (sym (take_all n bytes (omega (arith, h.0))))) in
    let all : length bytes ≡ n = sym h.0 in
    subst (λ (r : Pair). SendsWell p bytes (sends.Took n) r) (sym h.1)
    ((known, omega (arith, h.0), omega (arith, h.0), omega (arith, h.0)), record { faults = omega arith; stalls = omega arith; waits = omega arith; ends = omega arith; carried = omega (arith, fit.carried) })
takes_well p q bytes sends.NotYet fit some h = absurd h
takes_well p q bytes sends.Failed fit some h = absurd h
takes_well p q bytes sends.Memory fit some h = subst (λ (r : Pair). SendsWell p bytes sends.Memory r) (sym h) (refl, same_counts p.counts)

answers_well : (p q r : Pair) (bytes : List ℕ) (answer other : Sent) → (answer ≡ other) × (q ≡ r) → SendsWell p bytes other r → SendsWell p bytes answer q
answers_well p q r bytes answer other e h = subst (λ (a : Sent). SendsWell p bytes a q) (sym e.0) (subst (λ (x : Pair). SendsWell p bytes other x) (sym e.1) h)

sends_well : (list : List Happening) (p q : Pair) (bytes : List ℕ) (answer : Sent) → Fit p.counts → 0 < length bytes → SendsBy list p bytes answer q → SendsWell p bytes answer q
sends_well [] p q bytes answer fit some h = takes_well p q bytes answer fit some h
sends_well (CloneStops ∷ rest) p q bytes answer fit some h = sends_well rest (deafened (with_list rest p)) q bytes answer fit some h
sends_well (NotYet ∷ rest) p q bytes answer fit some h =
    answers_well p q (with_stall (with_list rest p)) bytes answer sends.NotYet h
    ((refl, omega arith), record { faults = omega arith; stalls = omega (arith, fit.stalls); waits = omega arith; ends = omega arith; carried = omega arith })
sends_well (Fail ∷ rest) p q bytes answer fit some h =
    answers_well p q (with_fault (with_list rest p)) bytes answer sends.Failed h
    ((refl, omega arith), record { faults = omega (arith, fit.faults); stalls = omega arith; waits = omega arith; ends = omega arith; carried = omega arith })
sends_well (Cut ∷ rest) p q bytes answer fit some h =
    answers_well p q (with_fault p) bytes answer sends.Failed h
    ((refl, omega arith), record { faults = omega (arith, fit.faults); stalls = omega arith; waits = omega arith; ends = omega arith; carried = omega arith })
sends_well (Up n ∷ rest) p q bytes answer fit some h = takes_well p q bytes answer fit some h
sends_well (Down n ∷ rest) p q bytes answer fit some h = takes_well p q bytes answer fit some h

pub sends_clause : (p q : Pair) (bytes : List ℕ) (answer : Sent) → Fit p.counts → 0 < length bytes → SendsPair p bytes answer q → SendsWell p bytes answer q
sends_clause p q bytes answer fit some h = sends_well p.list p q bytes answer fit some h

-- a prompt link takes all
prompt_takes : (p q : Pair) (bytes : List ℕ) (answer : Sent) → IsPrompt p → SendsPair p bytes answer q → TakesAll p bytes answer q
prompt_takes p q bytes answer prompt h = subst (λ (list : List Happening). SendsBy list p bytes answer q) prompt.nothing_comes h

pub takes_some : (p q : Pair) (bytes : List ℕ) (answer : Sent) → IsPrompt p → SendsPair p bytes answer q → TakesSome answer
takes_some p q bytes answer prompt h = by answer (prompt_takes p q bytes answer prompt h)
  where
    by : (a : Sent) → TakesAll p bytes a q → TakesSome a
    by (sends.Took n) t = tt
    by sends.NotYet t = absurd t
    by sends.Failed t = absurd t
    by sends.Memory t = tt

pub stays_prompt : (p q : Pair) (bytes : List ℕ) (answer : Sent) → IsPrompt p → SendsPair p bytes answer q → IsFair q → answer ≢ sends.Memory → IsPrompt q
stays_prompt p q bytes answer prompt h fair other = by answer (prompt_takes p q bytes answer prompt h) other
  where
    by : (a : Sent) → TakesAll p bytes a q → a ≢ sends.Memory → IsPrompt q
    by (sends.Took n) t o = record { fair = fair; nothing_comes = ap (λ (r : Pair). r.list) t.1 ∙ prompt.nothing_comes; hears = ap (λ (r : Pair). r.deaf) t.1 ∙ prompt.hears }
    by sends.NotYet t o = absurd t
    by sends.Failed t o = absurd t
    by sends.Memory t o = absurd (o refl)

-- ---- receiving

if_none : (R : Type 0) (xs : List ℕ) (P Q : Type 0) → (xs ≡ [] → P → R) → (0 < length xs → Q → R) → IfNone xs P Q → R
if_none R [] P Q f g h = f refl h
if_none R (b ∷ bs) P Q f g h = g (omega arith) h

abbrev GetsWell : Pair → ℕ → Got → Pair → Type 0
GetsWell p room got q = Gets (known_of p) p.counts room got (known_of q) q.counts × NeverFall p.counts q.counts

-- what is told of the bytes, and the counts, are as before
abbrev Kept : Pair → Pair → Type 0
Kept p q = (known_of q ≡ known_of p) × (q.counts ≡ p.counts)

since_kept : (p mid q : Pair) (room : ℕ) (got : Got) → Kept p mid → GetsWell mid room got q → GetsWell p room got q
since_kept p mid q room got kept h =
    subst (λ (k : Counts). Gets (known_of p) k room got (known_of q) q.counts × NeverFall k q.counts) kept.1
    (subst (λ (k : Known). Gets k mid.counts room got (known_of q) q.counts × NeverFall mid.counts q.counts) kept.0 h)

fits_kept : (p mid : Pair) → Kept p mid → Fit p.counts → Fit mid.counts
fits_kept p mid kept fit = subst (λ (k : Counts). Fit k) (sym kept.1) fit

kept_up : (n : ℕ) (p : Pair) → record { sent = Some ((p.up.passed ++ take n p.up.waiting) ++ drop n p.up.waiting); got = Some p.down.passed } ≡ known_of p
kept_up n p = ap (λ (xs : List ℕ). record { sent = Some xs; got = Some p.down.passed }) (all_stay n p.up)

up_keeps : (b : Bool) (n : ℕ) (p q : Pair) → GoesUp b n p q → Kept p q
up_keeps true n p q e = (ap known_of e, ap (λ (r : Pair). r.counts) e)
up_keeps false n p q h = (ap known_of h.2 ∙ kept_up n p, ap (λ (r : Pair). r.counts) h.2)

refused_keeps : (b : Bool) (n : ℕ) (p q : Pair) → IsRefused b n p q → Kept p q
refused_keeps true n p q h = absurd h
refused_keeps false n p q h = (ap known_of h.2 ∙ kept_up n p, ap (λ (r : Pair). r.counts) h.2)

gets_nothing : (p q : Pair) (room : ℕ) (got : Got) → got ≡ gets.Memory → Kept p q → GetsWell p room got q
gets_nothing p q room got e kept =
    subst (λ (g : Got). GetsWell p room g q) (sym e) (kept.0, subst (λ (k : Counts). NeverFall p.counts k) (sym kept.1) (same_counts p.counts))

got_well : (p q r : Pair) (room : ℕ) (got other : Got) → (got ≡ other) × (q ≡ r) → GetsWell p room other r → GetsWell p room got q
got_well p q r room got other e h = subst (λ (g : Got). GetsWell p room g q) (sym e.0) (subst (λ (x : Pair). GetsWell p room other x) (sym e.1) h)

gives_well : (p q : Pair) (room : ℕ) (got : Got) → Fit p.counts → 0 < room → 0 < length p.down.waiting → Gives room p got q → GetsWell p room got q
gives_well p q room (gets.Bytes bytes) fit some waits h =
    let known : known_of (with_given room p) ≡ record { sent = Some (p.up.passed ++ p.up.waiting); got = Some (p.down.passed ++ bytes) } =
    ap (λ (xs : List ℕ). record { sent = Some (p.up.passed ++ p.up.waiting); got = Some (p.down.passed ++ xs) }) (sym h.0) in
    let size : length bytes ≡ min room (length p.down.waiting) = ap length h.0 ∙ length-take room p.down.waiting in
    subst (λ (r : Pair). GetsWell p room (gets.Bytes bytes) r) (sym h.1)
    ((known, omega (arith, size), omega (arith, size), omega arith), record { faults = omega arith; stalls = omega arith; waits = omega arith; ends = omega arith; carried = omega (arith, fit.carried) })
gives_well p q room gets.NotYet fit some waits h = absurd h
gives_well p q room gets.End fit some waits h = absurd h
gives_well p q room gets.Failed fit some waits h = absurd h
gives_well p q room gets.Memory fit some waits h = gets_nothing p q room gets.Memory refl (ap known_of h, ap (λ (r : Pair). r.counts) h)

waits_well : (p : Pair) (room : ℕ) → Fit p.counts → GetsWell p room gets.NotYet (with_wait p)
waits_well p room fit = ((refl, omega arith), record { faults = omega arith; stalls = omega arith; waits = omega (arith, fit.waits); ends = omega arith; carried = omega arith })

fails_well : (p : Pair) (room : ℕ) → Fit p.counts → GetsWell p room gets.Failed (with_fault p)
fails_well p room fit = ((refl, omega arith), record { faults = omega (arith, fit.faults); stalls = omega arith; waits = omega arith; ends = omega arith; carried = omega arith })

ends_well : (p : Pair) (room : ℕ) → Fit p.counts → GetsWell p room gets.End (with_end p)
ends_well p room fit = ((refl, omega arith), record { faults = omega arith; stalls = omega arith; waits = omega arith; ends = omega (arith, fit.ends); carried = omega arith })

finds_well : (p q : Pair) (room : ℕ) (got : Got) → Fit p.counts → 0 < room → Finds room p got q → GetsWell p room got q
finds_well p q room got fit some h =
    if_none (GetsWell p room got q) p.down.waiting ((got ≡ gets.NotYet) × (q ≡ with_wait p)) (Gives room p got q)
    (λ none e. got_well p q (with_wait p) room got gets.NotYet e (waits_well p room fit)) (λ waits g. gives_well p q room got fit some waits g) h

brings_well : (p q : Pair) (room : ℕ) (got : Got) → Fit p.counts → 0 < room → BringsAll room p got q → GetsWell p room got q
brings_well p q room got fit some (inl h) = gets_nothing p q room got h.0 (ap known_of h.1, ap (λ (r : Pair). r.counts) h.1)
brings_well p q room got fit some (inr h) = finds_well (brought_down (length p.clone.said) p) q room got fit some h

carries_well : (p q : Pair) (room : ℕ) (got : Got) → Fit p.counts → 0 < room → Carries room p got q → GetsWell p room got q
carries_well p q room got fit some (inl h) =
    let kept = up_keeps p.deaf (length p.up.waiting) p h.0 h.1 in
    since_kept p h.0 q room got kept (brings_well h.0 q room got (fits_kept p h.0 kept fit) some h.2)
carries_well p q room got fit some (inr h) = gets_nothing p q room got h.0 (refused_keeps p.deaf (length p.up.waiting) p q h.1)

-- a happening that isn't answered keeps what is told and the counts
none_keeps : (first : Happening) (rest : List Happening) (p mid : Pair) → Befalls first rest p None mid → Kept p mid
none_keeps (Up n) rest p mid (inl h) = up_keeps p.deaf n (with_list rest p) mid h.1
none_keeps (Up n) rest p mid (inr h) = absurd (let e : None ≡ Some gets.Memory = h.0 in cc)
none_keeps (Down n) rest p mid (inl h) = (ap known_of h.1, ap (λ (r : Pair). r.counts) h.1)
none_keeps (Down n) rest p mid (inr h) = absurd (let e : None ≡ Some gets.Memory = h.0 in cc)
none_keeps NotYet rest p mid h = absurd (let e : None ≡ Some gets.NotYet = h.0 in cc)
none_keeps Fail rest p mid h = absurd (let e : None ≡ Some gets.Failed = h.0 in cc)
none_keeps Cut rest p mid h = absurd (let e : None ≡ Some gets.End = h.0 in cc)
none_keeps CloneStops rest p mid h = (ap known_of h.1, ap (λ (r : Pair). r.counts) h.1)

some_well : (first : Happening) (rest : List Happening) (p q : Pair) (room : ℕ) (got : Got) → Fit p.counts → Befalls first rest p (Some got) q → GetsWell p room got q
some_well (Up n) rest p q room got fit (inl h) = absurd (let e : Some got ≡ None = h.0 in cc)
some_well (Up n) rest p q room got fit (inr h) = gets_nothing p q room got (same_Some got gets.Memory h.0) (refused_keeps p.deaf n (with_list rest p) q h.1)
some_well (Down n) rest p q room got fit (inl h) = absurd (let e : Some got ≡ None = h.0 in cc)
some_well (Down n) rest p q room got fit (inr h) = gets_nothing p q room got (same_Some got gets.Memory h.0) (ap known_of h.1, ap (λ (r : Pair). r.counts) h.1)
some_well NotYet rest p q room got fit h = got_well p q (with_wait (with_list rest p)) room got gets.NotYet (same_Some got gets.NotYet h.0, h.1) (waits_well (with_list rest p) room fit)
some_well Fail rest p q room got fit h = got_well p q (with_fault (with_list rest p)) room got gets.Failed (same_Some got gets.Failed h.0, h.1) (fails_well (with_list rest p) room fit)
some_well Cut rest p q room got fit h = got_well p q (with_end p) room got gets.End (same_Some got gets.End h.0, h.1) (ends_well p room fit)
some_well CloneStops rest p q room got fit h = absurd (let e : Some got ≡ None = h.0 in cc)

follows_well : (list : List Happening) (p q : Pair) (room : ℕ) (got : Got) → Fit p.counts → 0 < room → Follows list room p got q → GetsWell p room got q
follows_well [] p q room got fit some h = carries_well p q room got fit some h
follows_well (first ∷ rest) p q room got fit some h = by h.0 h.1 h.2 h.3 (λ mid fits f. follows_well rest mid q room got fits some f)
  where
    by : (answer : Option Got) (mid : Pair) → Befalls first rest p answer mid →
        GoesOn answer got mid q (IfNone mid.down.waiting (Follows rest room mid got q) (Gives room mid got q)) →
        ((r : Pair) → Fit r.counts → Follows rest room r got q → GetsWell r room got q) → GetsWell p room got q
    by None mid befalls more behind =
        let kept = none_keeps first rest p mid befalls in
        let fits = fits_kept p mid kept fit in
        since_kept p mid q room got kept
        (if_none (GetsWell mid room got q) mid.down.waiting (Follows rest room mid got q) (Gives room mid got q)
        (λ none f. behind mid fits f) (λ waits g. gives_well mid q room got fits some waits g) more)
    by (Some answer) mid befalls e behind = got_well p q mid room got answer e (some_well first rest p mid room answer fit befalls)

pub gets_clause : (p q : Pair) (room : ℕ) (got : Got) → Fit p.counts → 0 < room → GetsPair p room got q → GetsWell p room got q
gets_clause p q room got fit some h =
    if_none (GetsWell p room got q) p.down.waiting (Follows p.list room p got q) (Gives room p got q)
    (λ none f. follows_well p.list p q room got fit some f) (λ waits g. gives_well p q room got fit some waits g) h

-- ---- a prompt link receives

-- the list stays empty, and the clone isn't deaf where there was memory
abbrev StillHears : Pair → Got → Pair → Type 0
StillHears p got q = (q.list ≡ p.list) × (got ≢ gets.Memory → q.deaf ≡ p.deaf)

gives_still : (p q : Pair) (room : ℕ) (got : Got) → Gives room p got q → StillHears p got q
gives_still p q room (gets.Bytes bytes) h = (ap (λ (r : Pair). r.list) h.1, λ o. ap (λ (r : Pair). r.deaf) h.1)
gives_still p q room gets.NotYet h = absurd h
gives_still p q room gets.End h = absurd h
gives_still p q room gets.Failed h = absurd h
gives_still p q room gets.Memory h = (ap (λ (r : Pair). r.list) h, λ o. absurd (o refl))

finds_still : (p q : Pair) (room : ℕ) (got : Got) → Finds room p got q → StillHears p got q
finds_still p q room got h =
    if_none (StillHears p got q) p.down.waiting ((got ≡ gets.NotYet) × (q ≡ with_wait p)) (Gives room p got q)
    (λ none e. (ap (λ (r : Pair). r.list) e.1, λ o. ap (λ (r : Pair). r.deaf) e.1)) (λ waits g. gives_still p q room got g) h

up_still : (b : Bool) (n : ℕ) (p q : Pair) → GoesUp b n p q → (q.list ≡ p.list) × (q.deaf ≡ p.deaf)
up_still true n p q e = (ap (λ (r : Pair). r.list) e, ap (λ (r : Pair). r.deaf) e)
up_still false n p q h = (ap (λ (r : Pair). r.list) h.2, ap (λ (r : Pair). r.deaf) h.2)

refused_list : (b : Bool) (n : ℕ) (p q : Pair) → IsRefused b n p q → q.list ≡ p.list
refused_list true n p q h = absurd h
refused_list false n p q h = ap (λ (r : Pair). r.list) h.2

brings_still : (p q : Pair) (room : ℕ) (got : Got) → BringsAll room p got q → StillHears p got q
brings_still p q room got (inl h) = (ap (λ (r : Pair). r.list) h.1, λ o. absurd (o h.0))
brings_still p q room got (inr h) = finds_still (brought_down (length p.clone.said) p) q room got h

carries_still : (p q : Pair) (room : ℕ) (got : Got) → Carries room p got q → StillHears p got q
carries_still p q room got (inl h) =
    let up = up_still p.deaf (length p.up.waiting) p h.0 h.1 in
    let behind = brings_still h.0 q room got h.2 in
    (behind.0 ∙ up.0, λ o. behind.1 o ∙ up.1)
carries_still p q room got (inr h) = (refused_list p.deaf (length p.up.waiting) p q h.1, λ o. absurd (o h.0))

prompt_carries : (p q : Pair) (room : ℕ) (got : Got) → IsPrompt p → GetsPair p room got q → IfNone p.down.waiting (Carries room p got q) (Gives room p got q)
prompt_carries p q room got prompt h =
    subst (λ (list : List Happening). IfNone p.down.waiting (Follows list room p got q) (Gives room p got q)) prompt.nothing_comes h

pub gets_prompt : (p q : Pair) (room : ℕ) (got : Got) → IsPrompt p → GetsPair p room got q → IsFair q → got ≢ gets.Memory → IsPrompt q
gets_prompt p q room got prompt h fair other =
    let still = if_none (StillHears p got q) p.down.waiting (Carries room p got q) (Gives room p got q)
    (λ none c. carries_still p q room got c) (λ waits g. gives_still p q room got g) (prompt_carries p q room got prompt h) in
    record { fair = fair; nothing_comes = still.0 ∙ prompt.nothing_comes; hears = still.1 other ∙ prompt.hears }

-- ---- what is owed is given

gives_some : (p q : Pair) (room : ℕ) (got : Got) → Gives room p got q → GivesSome got
gives_some p q room (gets.Bytes bytes) h = tt
gives_some p q room gets.NotYet h = absurd h
gives_some p q room gets.End h = absurd h
gives_some p q room gets.Failed h = absurd h
gives_some p q room gets.Memory h = tt

memory_is_some : (got : Got) → got ≡ gets.Memory → GivesSome got
memory_is_some got e = subst (λ (g : Got). GivesSome g) (sym e) tt

-- where all went up, all came down and nothing of it is left, nothing is owed
nothing_owed : (p mid : Pair) → LinkOwes (known_of p) → p.deaf ≡ false → GoesUp false (length p.up.waiting) p mid →
    (brought_down (length mid.clone.said) mid).down.waiting ≡ [] → IsFair (brought_down (length mid.clone.said) mid) → ⊥
nothing_owed p mid owed hears up none fair =
    let r = brought_down (length mid.clone.said) mid in
    let owes = owed.owes in
    let sent : p.up.passed ++ p.up.waiting ≡ owed.sent = same_Some _ _ (ap (λ (k : Known). k.sent) owed.is_told) in
    let got : p.down.passed ≡ owed.got = same_Some _ _ (ap (λ (k : Known). k.got) owed.is_told) in
    let passed : r.up.passed ≡ owed.sent = ap (λ (x : Pair). x.up.passed) up.2 ∙ ap (λ (xs : List ℕ). p.up.passed ++ xs) (take_all (length p.up.waiting) p.up.waiting (omega arith)) ∙ sent in
    let deaf : r.deaf ≡ false = ap (λ (x : Pair). x.deaf) up.2 ∙ hears in
    let right : IsVerdict at_start r.up.passed owes.verdict = subst (λ (xs : List ℕ). IsVerdict at_start xs owes.verdict) (sym passed) owes.is_right in
    let said : said_to owes.verdict r.up.passed ≡ all_said r.clone r.down = ap (λ t. t.said) (fair.hears deaf owes.verdict right) in
    let left : r.clone.said ≡ [] = drop_all (length mid.clone.said) mid.clone.said (omega arith) in
    let down : r.down.passed ≡ owed.got = ap (λ (x : Pair). x.down.passed) up.2 ∙ got in
    let all : all_said r.clone r.down ≡ owed.got =
    ap (λ (xs : List ℕ). r.down.passed ++ (xs ++ r.clone.said)) none ∙ ap (λ (xs : List ℕ). r.down.passed ++ xs) left ∙ append-nil r.down.passed ∙ down in
    let whole : said_to owes.verdict owed.sent ≡ owed.got = ap (λ (xs : List ℕ). said_to owes.verdict xs) (sym passed) ∙ said ∙ all in
    omega (arith, owes.more, ap length whole)

finds_owed : (p mid q : Pair) (room : ℕ) (got : Got) → LinkOwes (known_of p) → p.deaf ≡ false → GoesUp false (length p.up.waiting) p mid → IsFair q →
    Finds room (brought_down (length mid.clone.said) mid) got q → GivesSome got
finds_owed p mid q room got owed hears up fair h =
    let r = brought_down (length mid.clone.said) mid in
    if_none (GivesSome got) r.down.waiting ((got ≡ gets.NotYet) × (q ≡ with_wait r)) (Gives room r got q)
    (λ none e. absurd (nothing_owed p mid owed hears up none (subst (λ (x : Pair). IsFair x) e.1 fair)))
    (λ waits g. gives_some r q room got g) h

carries_owed : (p q : Pair) (room : ℕ) (got : Got) → LinkOwes (known_of p) → p.deaf ≡ false → IsFair q → Carries room p got q → GivesSome got
carries_owed p q room got owed hears fair (inl h) = by h.2
  where
    up : GoesUp false (length p.up.waiting) p h.0
    up = subst (λ (b : Bool). GoesUp b (length p.up.waiting) p h.0) hears h.1

    by : BringsAll room h.0 got q → GivesSome got
    by (inl e) = memory_is_some got e.0
    by (inr f) = finds_owed p h.0 q room got owed hears up fair f
carries_owed p q room got owed hears fair (inr h) = memory_is_some got h.0

pub gives_owed : (p q : Pair) (room : ℕ) (got : Got) → IsPrompt p → GetsPair p room got q → IsFair q → LinkOwes (known_of p) → GivesSome got
gives_owed p q room got prompt h fair owed =
    if_none (GivesSome got) p.down.waiting (Carries room p got q) (Gives room p got q)
    (λ none c. carries_owed p q room got owed prompt.hears fair c) (λ waits g. gives_some p q room got g) (prompt_carries p q room got prompt h)
