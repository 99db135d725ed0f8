-- The first thing of each name, one thing more at a time.
use Rattle.std.proofs.Common.{◌≡◌, ◌≢◌, ◌⊎◌, inl, inr, ℕ, suc, ◌-◌, ◌<◌, ◌≤◌, Bool, true, false, ◌&&◌, not, List, [], ◌∷◌, ◌++◌, length, map, get_or, refl, sym, ap, subst, ◌∙◌, arith}
use Rattle.std.specs.Prelude.{Contains}
use Rattle.std.specs.List.{filter}
use Rattle.std.specs.List.Sorted.{IsStableBy, ties}
use Rattle.std.specs.Cmp.Lexicographic.{slice_cmp}
use Rattle.std.specs.Ordering.{nat_cmp, is_lt}
use Rattle.std.specs.declared.cmp.Ordering.TheVariants.{Less, Equal}
use Rattle.std.proofs.lemmas.Cmp.{nat_list_cmp_total, tied_itself}
use Rattle.std.proofs.lemmas.List.{length-map, get_or-map}
use Rattle.std.proofs.lemmas.List.Elements.{Contains-push_cases}
use Rattle.cc_meaning.specs.Order.{IsBefore, IsRising}
use Rattle.cc_names.specs.InOrder.{AreInOrder, IsBehindLast}
use Rattle.cc_names.proofs.Ordered.{same_name, none_in_order}
use Rattle.cc_meaning_program.specs.Searches.{First}
use Rattle.cc_members.specs.FirstInOrder.{AreFirst}

-- ---- lists

pub contains_head : {A : Type 0} (x : A) (xs : List A) → Contains (x ∷ xs) x
contains_head x xs = (0, omega arith, refl)

pub contains_tail : {A : Type 0} (x : A) (xs : List A) (y : A) → Contains xs y → Contains (x ∷ xs) y
contains_tail x xs y (k, within, is) = (suc k, omega arith, is)

-- ---- the first one

pub first_so : {A : Type 0} {is_so : A → Type 0} (xs : List A) (x : A) → First is_so xs x → is_so x
first_so _ x (First.here so) = so
first_so _ x (First.later {xs = tail} not rest) = first_so tail x rest

pub first_more : {A : Type 0} {is_so : A → Type 0} (xs ys : List A) (x : A) → First is_so xs x → First is_so (xs ++ ys) x
first_more _ ys x (First.here so) = First.here so
first_more _ ys x (First.later {xs = tail} not rest) = First.later not (first_more tail ys x rest)

-- the last is the first where none of the others is so
pub first_at_end : {A : Type 0} {is_so : A → Type 0} (xs : List A) (x : A) → ((other : A) → Contains xs other → ¬ is_so other) → is_so x → First is_so (xs ++ x ∷ []) x
first_at_end [] x none so = First.here so
first_at_end (y ∷ xs) x none so = First.later (none y (contains_head y xs)) (first_at_end xs x (λ other there. none other (contains_tail y xs other there)) so)

-- ---- one more thing

all_before : (names : List (List ℕ)) (name : List ℕ) → IsRising names → ((last : List ℕ) → 0 < length names → IsBefore (get_or names (length names - 1) last) name) →
    (k : ℕ) (d : List ℕ) → k < length names → IsBefore (get_or names k d) name
all_before names name rise last k d within = from (cases k (length names - 1))
  where
    cases : (i j : ℕ) → (i < j) ⊎ (j ≤ i)
    cases i j = grind arith

    from : (k < length names - 1) ⊎ (length names - 1 ≤ k) → IsBefore (get_or names k d) name
    from (inl before) = nat_list_cmp_total.trans (get_or names k d) (get_or names (length names - 1) d) name (rise k (length names - 1) d before (omega (arith, within))) (last d (omega (arith, within)))
    from (inr at) = let e : length names - 1 ≡ k = omega (arith, within, at) in subst (λ (i : ℕ). IsBefore (get_or names i d) name) e (last d (omega (arith, within)))

pub first_none : {A : Type 0} (name : A → List ℕ) → AreFirst name [] []
first_none name item none = absurd (omega (arith, none.1))

pub none_first : {A : Type 0} (name : A → List ℕ) → AreInOrder name [] [] × AreFirst name [] []
none_first name = (none_in_order name, first_none name)

before_itself : (name : List ℕ) → IsBefore name name → ⊥
before_itself name before = absurd (let e = sym (tied_itself nat_list_cmp_total name) ∙ before in cc)

-- a name that comes behind all that are kept is none of those given
pub first_behind : {A : Type 0} (name : A → List ℕ) (given kept : List A) (item : A) → AreInOrder name given kept → AreFirst name given kept → IsBehindLast name kept item →
    AreFirst name (given ++ item ∷ []) (kept ++ item ∷ [])
first_behind {A} name given kept item are first behind x here = from (Contains-push_cases kept item x here)
  where
    last_name : (n : List ℕ) → 0 < length (map name kept) → IsBefore (get_or (map name kept) (length (map name kept) - 1) n) (name item)
    last_name n some =
        let same : length (map name kept) ≡ length kept = length-map kept name in
        let e = get_or-map name kept (length kept - 1) item n (omega (arith, some, same)) in
        let place : length kept - 1 ≡ length (map name kept) - 1 = omega (arith, same) in
        subst (λ (i : ℕ). IsBefore (get_or (map name kept) i n) (name item)) place (rw e (behind item (omega (arith, some, same))))

    other : (y : A) → Contains given y → name y ≢ name item
    other y there same =
        let (k, within, is) = are.named y there in
        let before = all_before (map name kept) (name item) are.rise last_name k (name y) within in
        before_itself (name item) (subst (λ n. IsBefore n (name item)) (is ∙ same) before)

    from : Contains kept x ⊎ (item ≡ x) → First (λ (other : A). name other ≡ name x) (given ++ item ∷ []) x
    from (inl there) = first_more given (item ∷ []) x (first x there)
    from (inr is) = subst (λ y. First (λ (other : A). name other ≡ name y) (given ++ item ∷ []) y) is (first_at_end given item other refl)

pub first_left_out : {A : Type 0} (name : A → List ℕ) (given kept : List A) (item : A) → AreFirst name given kept → AreFirst name (given ++ item ∷ []) kept
first_left_out name given kept item first x here = first_more given (item ∷ []) x (first x here)

-- ---- a stable sort

-- the first that passes is the first of those that pass
first_kept : {A : Type 0} (is_so : A → Type 0) (test : A → Bool) → ((y : A) → is_so y → test y ≡ true) → ((y : A) → test y ≡ true → is_so y) →
    (xs ys : List A) (x : A) → filter test ys ≡ filter test xs → First is_so ys x → First is_so xs x
first_kept {A} is_so test passes so xs ys x same first = back xs (subst (λ (kept : List A). First is_so kept x) same (there ys first))
  where
    there_by : (y : A) (zs : List A) (b : Bool) → test y ≡ b → First is_so (filter test zs) x → ¬ is_so y → First is_so (filter test (y ∷ zs)) x
    there_by y zs true is rest not = absurd (not (so y is))
    there_by y zs false is rest not = rw is rest

    there : (zs : List A) → First is_so zs x → First is_so (filter test zs) x
    there _ (First.here {xs = tail} is) = let e : test x ≡ true = passes x is in rw e (First.here is)
    there _ (First.later {x = y} {xs = tail} not rest) = there_by y tail (test y) refl (there tail rest) not

    head_by : (y : A) (zs : List A) → is_so y → First is_so (y ∷ filter test zs) x → First is_so (y ∷ zs) x
    head_by y zs is (First.here also) = First.here also
    head_by y zs is (First.later not rest) = absurd (not is)

    back_by : (y : A) (zs : List A) (b : Bool) → (First is_so (filter test zs) x → First is_so zs x) → test y ≡ b → First is_so (filter test (y ∷ zs)) x → First is_so (y ∷ zs) x
    back_by y zs true on is rest = head_by y zs (so y is) (rw is at rest)
    back_by y zs false on is rest = First.later (λ (yes : is_so y). absurd (let e = sym is ∙ passes y yes in cc)) (on (rw is at rest))

    back : (zs : List A) → First is_so (filter test zs) x → First is_so zs x
    back [] none = none
    back (y ∷ zs) rest = back_by y zs (test y) (back zs) refl rest

pub first_of_stable : {A : Type 0} (name : A → List ℕ) (given sorted kept : List A) → IsStableBy (λ x y. is_lt (slice_cmp nat_cmp (name x) (name y))) given sorted → AreFirst name sorted kept → AreFirst name given kept
first_of_stable {A} name given sorted kept stable first x here =
    first_kept (λ (other : A). name other ≡ name x) (ties (λ (a : A) (b : A). is_lt (slice_cmp nat_cmp (name a) (name b))) x) passes so given sorted x (stable x) (first x here)
  where
    itself : slice_cmp nat_cmp (name x) (name x) ≡ Equal
    itself = tied_itself nat_list_cmp_total (name x)

    passes : (y : A) → name y ≡ name x → ties (λ (a : A) (b : A). is_lt (slice_cmp nat_cmp (name a) (name b))) x y ≡ true
    passes y same = rw (same, itself) refl

    parts : (a b : Bool) → (not a && not b) ≡ true → (a ≡ false) × (b ≡ false)
    parts true b e = absurd cc
    parts false true e = absurd cc
    parts false false e = (refl, refl)

    so : (y : A) → ties (λ (a : A) (b : A). is_lt (slice_cmp nat_cmp (name a) (name b))) x y ≡ true → name y ≡ name x
    so y tied =
        let (one, other) = parts _ _ tied in
        same_name (name y) (name x) (λ before. absurd (let e : is_lt Less ≡ false = ap is_lt (sym before) ∙ other in cc)) (λ before. absurd (let e : is_lt Less ≡ false = ap is_lt (sym before) ∙ one in cc))
