-- Texts that were seen.
use Rattle.std.proofs.Common.{◌≡◌, ℕ, zero, suc, ◌+◌, ◌<◌, ◌≤◌, Bool, true, false, List, [], ◌∷◌, ◌++◌, length, take, drop, get_or, map, refl, ap, sym, ◌∙◌, subst, add-one, drop-cons, arith}
use Rattle.std.specs.Prelude.{if◌then◌else◌, ◌||◌, not}
use Rattle.std.specs.List.{list_any}
use Rattle.std.specs.Str.{bytes_eq}
use Rattle.std.specs.HashSet.{contains_text}
use Rattle.std.proofs.lemmas.Grind.{common_steps}
use Rattle.std.proofs.lemmas.List.{drop_all}
use Rattle.cc_meaning_script.specs.declared.listed.ListedAnswer.{ListedAnswer}
use Rattle.cc_meaning_script.specs.declared.listed.ListedClass.{ListedClass}
use Rattle.cc_meaning_script.specs.Listed.{is_among, is_answered, repeats_after, repeats, contradicts}
use Rattle.cc_script.specs.Seen.{Texts, Holds, HoldsMembers}

among_more : (text other : List ℕ) (before : List (List ℕ)) → is_among other (before ++ text ∷ []) ≡ (if bytes_eq text other then true else is_among other before)
among_more text other [] = grind (arith, common_steps)
among_more text other (b ∷ before) = grind (arith, common_steps, among_more text other before)

pub holds_more : (before : List (List ℕ)) (text : List ℕ) (old new : Texts) → Holds before old →
    ((other : List ℕ) → contains_text new other ≡ (if bytes_eq text other then true else contains_text old other)) → Holds (before ++ text ∷ []) new
holds_more before text old new holds grown other =
    grown other ∙ ap (λ (b : Bool). if bytes_eq text other then true else b) (holds other) ∙ sym (among_more text other before)

-- ---- pairs

-- the members of the first pairs
abbrev pub members_to : ℕ → List ListedAnswer → List (List ℕ)
members_to i pairs = map (λ (pair : ListedAnswer). pair.member) (take i pairs)

-- So far no member stands twice, and the set has those of the first pairs.
abbrev pub SeenTo : ℕ → List ListedAnswer → Texts → Type 0
SeenTo i pairs set = (repeats pairs ≡ repeats_after (members_to i pairs) (drop i pairs)) × Holds (members_to i pairs) set

members_more : (pairs : List ListedAnswer) (i : ℕ) (pair : ListedAnswer) → i < length pairs → pair ≡ get_or pairs i pair → members_to (i + 1) pairs ≡ members_to i pairs ++ pair.member ∷ []
members_more [] i pair h is = absurd (omega (arith, h))
members_more (p ∷ pairs) zero pair h is = ap (λ (q : ListedAnswer). q.member ∷ []) (sym is)
members_more (p ∷ pairs) (suc i) pair h is =
    rw add-one (ap (λ (xs : List (List ℕ)). p.member ∷ xs) (rw add-one at (members_more pairs i pair (omega (arith, h)) is)))

split_at : (pairs : List ListedAnswer) (i : ℕ) (pair : ListedAnswer) → i < length pairs → pair ≡ get_or pairs i pair → drop i pairs ≡ pair ∷ drop (i + 1) pairs
split_at pairs i pair h is = rw (add-one, drop-cons pairs i pair) (ap (λ (p : ListedAnswer). p ∷ drop (suc i) pairs) (sym is))

after_here : (pairs : List ListedAnswer) (i : ℕ) (pair : ListedAnswer) → i < length pairs → pair ≡ get_or pairs i pair →
    repeats_after (members_to i pairs) (drop i pairs) ≡ (is_among pair.member (members_to i pairs) || repeats_after (members_to (i + 1) pairs) (drop (i + 1) pairs))
after_here pairs i pair h is =
    ap (repeats_after (members_to i pairs)) (split_at pairs i pair h is)
    ∙ ap (λ (xs : List (List ℕ)). is_among pair.member (members_to i pairs) || repeats_after xs (drop (i + 1) pairs)) (sym (members_more pairs i pair h is))

pub seen_none : (pairs : List ListedAnswer) (set : Texts) → ((text : List ℕ) → contains_text set text ≡ false) → SeenTo 0 pairs set
seen_none pairs set empty = (refl, empty)

pub seen_more : (pairs : List ListedAnswer) (i : ℕ) (pair : ListedAnswer) (old new : Texts) → i < length pairs → pair ≡ get_or pairs i pair → SeenTo i pairs old →
    true ≡ not (contains_text old pair.member) →
    ((other : List ℕ) → contains_text new other ≡ (if bytes_eq pair.member other then true else contains_text old other)) → SeenTo (i + 1) pairs new
seen_more pairs i pair old new h is seen fresh grown = (
  seen.0 ∙ after_here pairs i pair h is ∙ ap (λ (b : Bool). b || repeats_after (members_to (i + 1) pairs) (drop (i + 1) pairs)) (sym (seen.1 pair.member) ∙ unseen (contains_text old pair.member) fresh),
  subst (λ (xs : List (List ℕ)). Holds xs new) (sym (members_more pairs i pair h is)) (holds_more (members_to i pairs) pair.member old new seen.1 grown),
)
  where
    unseen : (b : Bool) → true ≡ not b → b ≡ false
    unseen true e = absurd cc
    unseen false e = refl

pub seen_twice : (pairs : List ListedAnswer) (i : ℕ) (pair : ListedAnswer) (old : Texts) → i < length pairs → pair ≡ get_or pairs i pair → SeenTo i pairs old →
    false ≡ not (contains_text old pair.member) → repeats pairs ≡ true
seen_twice pairs i pair old h is seen stale =
    seen.0 ∙ after_here pairs i pair h is ∙ ap (λ (b : Bool). b || repeats_after (members_to (i + 1) pairs) (drop (i + 1) pairs)) (sym (seen.1 pair.member) ∙ known (contains_text old pair.member) stale)
  where
    known : (b : Bool) → false ≡ not b → b ≡ true
    known true e = refl
    known false e = absurd cc

among_members : (text : List ℕ) (pairs : List ListedAnswer) (i : ℕ) → length pairs ≤ i → is_among text (members_to i pairs) ≡ is_answered text pairs
among_members text [] zero h = refl
among_members text [] (suc i) h = refl
among_members text (p ∷ pairs) zero h = absurd (omega (arith, h))
among_members text (p ∷ pairs) (suc i) h = ap (λ (b : Bool). bytes_eq p.member text || b) (among_members text pairs i (omega (arith, h)))

pub seen_all : (pairs : List ListedAnswer) (i : ℕ) (set : Texts) → length pairs ≤ i → SeenTo i pairs set → HoldsMembers pairs set
seen_all pairs i set h seen = (
  seen.0 ∙ ap (repeats_after (members_to i pairs)) (drop_all i pairs h),
  λ text. seen.1 text ∙ among_members text pairs i h,
)

-- ---- a class

any_same : {A : Type 0} (f g : A → Bool) (xs : List A) → ((x : A) → f x ≡ g x) → list_any f xs ≡ list_any g xs
any_same f g [] same = refl
any_same f g (x ∷ xs) same = ap (λ b. b || list_any f xs) (same x) ∙ ap (λ b. g x || b) (any_same f g xs same)

pub contradiction : (class : ListedClass) (set : Texts) → HoldsMembers class.free set →
    (list_any (contains_text set) class.unpinned || list_any (λ (pair : ListedAnswer). contains_text set pair.member) class.answers) ≡ contradicts class
contradiction class set holds =
    ap (λ b. b || list_any (λ (pair : ListedAnswer). contains_text set pair.member) class.answers) (any_same (contains_text set) (λ text. is_answered text class.free) class.unpinned holds.1)
    ∙ ap (λ b. list_any (λ text. is_answered text class.free) class.unpinned || b)
    (any_same (λ (pair : ListedAnswer). contains_text set pair.member) (λ (pair : ListedAnswer). is_answered pair.member class.free) class.answers (λ pair. holds.1 pair.member))
    ∙ ap (λ b. b || list_any (λ text. is_answered text class.free) class.unpinned || list_any (λ (pair : ListedAnswer). is_answered pair.member class.free) class.answers) (sym holds.0)

pub contradicted : (class : ListedClass) → repeats class.free ≡ true → true ≡ contradicts class
contradicted class twice = ap (λ b. b || list_any (λ text. is_answered text class.free) class.unpinned || list_any (λ (pair : ListedAnswer). is_answered pair.member class.free) class.answers) (sym twice)
