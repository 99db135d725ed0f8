-- Things in the order of their names, one more at a time.
use Rattle.std.proofs.Common.{◌≡◌, ◌⊎◌, ◌↔◌, inl, inr, ℕ, ◌+◌, ◌-◌, ◌<◌, ◌≤◌, false, List, [], ◌∷◌, ◌++◌, length, map, get_or, take, refl, sym, ap, subst, ◌∙◌, arith}
use Rattle.std.specs.Prelude.{Contains}
use Rattle.std.specs.List.Sorted.{IsPermutation, IsSortedByKey}
use Rattle.std.specs.Cmp.Lexicographic.{slice_cmp}
use Rattle.std.specs.Ordering.{nat_cmp, is_lt, ordering_reverse}
use Rattle.std.specs.declared.cmp.Ordering.{Ordering}
use Rattle.std.specs.declared.cmp.Ordering.TheVariants.{Less, Equal, Greater}
use Rattle.std.proofs.lemmas.Cmp.{nat_list_cmp_total}
use Rattle.std.proofs.lemmas.List.{length-append, map_push, length-map, get_or-map, get_or-take, length-take, take_more, get_or_default}
use Rattle.std.proofs.lemmas.List.Elements.{Contains-get_or, Contains-push, Contains-push_cases, Contains-append_left}
use Rattle.std.proofs.lemmas.List.Quantifiers.{all_pairs_push}
use Rattle.std.proofs.lemmas.List.Sorted.{ranks_by, sorted_far, Contains-permutation, IsPermutation-sym, length_permutation}
use Rattle.std.proofs.lemmas.Map.Lookups.{exact_bytes}
use Rattle.cc_meaning.specs.Order.{IsBefore, IsRising}
use Rattle.cc_names.specs.InOrder.{AreInOrder, IsBehindLast}

-- ---- lists

pub contains_mapped : {A B : Type 0} (f : A → B) (xs : List A) (x : A) → Contains xs x → Contains (map f xs) (f x)
contains_mapped f xs x (k, within, is) =
    let inside : k < length (map f xs) = omega (arith, length-map xs f, within) in
    (k, inside, get_or-map f xs k x (f x) within ∙ ap f is)

-- what an image contains is the image of something
pub mapped_from : {A B : Type 0} (f : A → B) (xs : List A) (y : B) → Contains (map f xs) y → (x : A) × Contains xs x × (f x ≡ y)
mapped_from f [] y (k, within, is) = absurd (omega arith)
mapped_from f (x ∷ xs) y (k, within, is) =
    let inside : k < length (x ∷ xs) = omega (arith, length-map (x ∷ xs) f, within) in
    (get_or (x ∷ xs) k x, Contains-get_or (x ∷ xs) k x inside, sym (get_or-map f (x ∷ xs) k x y inside) ∙ is)

-- one more of a list's first
pub one_taken : {A : Type 0} (P : List A → Type 0) (xs : List A) (i : ℕ) (x : A) → i < length xs → x ≡ get_or xs i x → P (take i xs ++ x ∷ []) → P (take (i + 1) xs)
one_taken P xs i x within is p = subst P (sym (take_more xs i x within ∙ ap (λ y. take i xs ++ y ∷ []) (sym is))) p

-- the numbers below one more
pub rows_more : (rows : List ℕ) (n : ℕ) → ((row : ℕ) → Contains rows row ↔ (row < n)) → (row : ℕ) → Contains (rows ++ n ∷ []) row ↔ (row < n + 1)
rows_more rows n are row = (λ here. below (Contains-push_cases rows n row here), λ within. there (cases row n within))
  where
    below : Contains rows row ⊎ (n ≡ row) → row < n + 1
    below (inl here) = let less = (are row).0 here in omega arith
    below (inr is) = omega arith

    cases : (i j : ℕ) → i < j + 1 → (i < j) ⊎ (j ≡ i)
    cases i j h = grind arith

    there : (row < n) ⊎ (n ≡ row) → Contains (rows ++ n ∷ []) row
    there (inl less) = Contains-append_left rows (n ∷ []) row ((are row).1 less)
    there (inr is) = subst (Contains (rows ++ n ∷ [])) is (Contains-push rows n)

-- ---- names

before_or_behind : (a b : List ℕ) → (o p : Ordering) → slice_cmp nat_cmp a b ≡ o → slice_cmp nat_cmp b a ≡ p → (IsBefore a b → ⊥) → (IsBefore b a → ⊥) → a ≡ b
before_or_behind a b Less p is other not_before not_behind = absurd (not_before is)
before_or_behind a b Equal p is other not_before not_behind = exact_bytes a b is
before_or_behind a b Greater p is other not_before not_behind = absurd (not_behind (nat_list_cmp_total.antisymm b a ∙ ap ordering_reverse is))

pub same_name : (a b : List ℕ) → (IsBefore a b → ⊥) → (IsBefore b a → ⊥) → a ≡ b
same_name a b not_before not_behind = before_or_behind a b (slice_cmp nat_cmp a b) (slice_cmp nat_cmp b a) refl refl not_before not_behind

all_before : (names : List (List ℕ)) (name : List ℕ) → IsRising names → ((last : List ℕ) → 0 < length names → IsBefore (get_or names (length names - 1) last) name) →
    (k : ℕ) (d : List ℕ) → k < length names → IsBefore (get_or names k d) name
all_before names name rise last k d within = from (cases k (length names - 1))
  where
    cases : (i j : ℕ) → (i < j) ⊎ (j ≤ i)
    cases i j = grind arith

    from : (k < length names - 1) ⊎ (length names - 1 ≤ k) → IsBefore (get_or names k d) name
    from (inl before) = nat_list_cmp_total.trans (get_or names k d) (get_or names (length names - 1) d) name (rise k (length names - 1) d before (omega (arith, within))) (last d (omega (arith, within)))
    from (inr at) = let e : length names - 1 ≡ k = omega (arith, within, at) in subst (λ (i : ℕ). IsBefore (get_or names i d) name) e (last d (omega (arith, within)))

-- ---- one more thing

pub none_in_order : {A : Type 0} (name : A → List ℕ) → AreInOrder name [] []
none_in_order name = record {
  rise = λ i j d below within. absurd (omega arith);
  among = λ item none. none;
  named = λ item none. absurd (omega (arith, none.1));
  few = omega arith;
}

-- a thing whose name comes behind the last is put at the end
pub one_behind : {A : Type 0} (name : A → List ℕ) (given kept : List A) (item : A) → AreInOrder name given kept → IsBehindLast name kept item → AreInOrder name (given ++ item ∷ []) (kept ++ item ∷ [])
one_behind {A} name given kept item are behind =
    let last : (n : List ℕ) → 0 < length (map name kept) → IsBefore (get_or (map name kept) (length (map name kept) - 1) n) (name item) = λ n some. last_name n some in
    record {
      rise = rw map_push (all_pairs_push IsBefore (map name kept) (name item) are.rise (all_before (map name kept) (name item) are.rise last));
      among = λ x here. among x (Contains-push_cases kept item x here);
      named = λ x here. rw map_push (named x (Contains-push_cases given item x here));
      few = omega (arith, are.few, length-append kept (item ∷ []), length-append given (item ∷ []));
    }
  where
    last_name : (n : List ℕ) → 0 < length (map name kept) → IsBefore (get_or (map name kept) (length (map name kept) - 1) n) (name item)
    last_name n some =
        let same : length (map name kept) ≡ length kept = length-map kept name in
        let e = get_or-map name kept (length kept - 1) item n (omega (arith, some, same)) in
        let place : length kept - 1 ≡ length (map name kept) - 1 = omega (arith, same) in
        subst (λ (i : ℕ). IsBefore (get_or (map name kept) i n) (name item)) place (rw e (behind item (omega (arith, some, same))))

    among : (x : A) → Contains kept x ⊎ (item ≡ x) → Contains (given ++ item ∷ []) x
    among x (inl here) = Contains-append_left given (item ∷ []) x (are.among x here)
    among x (inr is) = subst (Contains (given ++ item ∷ [])) is (Contains-push given item)

    named : (x : A) → Contains given x ⊎ (item ≡ x) → Contains (map name kept ++ name item ∷ []) (name x)
    named x (inl here) = Contains-append_left (map name kept) (name item ∷ []) (name x) (are.named x here)
    named x (inr is) = subst (λ n. Contains (map name kept ++ name item ∷ []) n) (ap name is) (Contains-push (map name kept) (name item))

-- a thing whose name is that of one that is there is left out
pub one_left_out : {A : Type 0} (name : A → List ℕ) (given kept : List A) (item : A) → AreInOrder name given kept →
    (last : A) × Contains kept last × (IsBefore (name last) (name item) → ⊥) →
    ((other : A) → Contains given other → IsBefore (name item) (name other) → ⊥) → AreInOrder name (given ++ item ∷ []) kept
one_left_out {A} name given kept item are (last, here, not_before) not_behind =
    record {
      rise = are.rise;
      among = λ x there. Contains-append_left given (item ∷ []) x (are.among x there);
      named = λ x there. named x (Contains-push_cases given item x there);
      few = omega (arith, are.few, length-append given (item ∷ []));
    }
  where
    named : (x : A) → Contains given x ⊎ (item ≡ x) → Contains (map name kept) (name x)
    named x (inl there) = are.named x there
    named x (inr is) =
        let same : name last ≡ name x = same_name (name last) (name item) not_before (not_behind last (are.among last here)) ∙ ap name is in
        subst (Contains (map name kept)) same (contains_mapped name kept last here)

-- ---- sorted

not_less : (o : Ordering) → is_lt o ≡ false → o ≡ Less → ⊥
not_less o is less = absurd (let e : is_lt Less ≡ false = ap is_lt (sym less) ∙ is in cc)

-- nothing before a place of a sorted list comes behind what stands there
pub sorted_before : {A : Type 0} (name : A → List ℕ) (sorted : List A) → IsSortedByKey name (slice_cmp nat_cmp) sorted → (i : ℕ) (item : A) → i < length sorted → item ≡ get_or sorted i item →
    (other : A) → Contains (take i sorted) other → IsBefore (name item) (name other) → ⊥
sorted_before name sorted up i item within is other (k, inside, there) =
    let below : k < i = omega (arith, inside, within, length-take i sorted) in
    let at : get_or (take i sorted) k other ≡ get_or sorted k other = get_or-take i sorted k other below in
    let far = sorted_far (λ x y. is_lt (slice_cmp nat_cmp (name x) (name y))) (ranks_by nat_list_cmp_total name) sorted up k i item (omega arith) within in
    let here : get_or sorted k item ≡ other = get_or_default sorted k item other (omega (arith, below, within)) ∙ sym at ∙ there in
    let first : is_lt (slice_cmp nat_cmp (name (get_or sorted i item)) (name other)) ≡ false = subst (λ b. is_lt (slice_cmp nat_cmp (name (get_or sorted i item)) (name b)) ≡ false) here far in
    let second : is_lt (slice_cmp nat_cmp (name item) (name other)) ≡ false = subst (λ a. is_lt (slice_cmp nat_cmp (name a) (name other)) ≡ false) (sym is) first in
    not_less (slice_cmp nat_cmp (name item) (name other)) second

-- what is in order of a list is so of the list in any other order
pub of_moved : {A : Type 0} (name : A → List ℕ) (given sorted kept : List A) → IsPermutation given sorted → AreInOrder name sorted kept → AreInOrder name given kept
of_moved name given sorted kept moved are = record {
  rise = are.rise;
  among = λ x here. Contains-permutation sorted given x (IsPermutation-sym given sorted moved) (are.among x here);
  named = λ x there. are.named x (Contains-permutation given sorted x moved there);
  few = omega (arith, are.few, length_permutation given sorted moved);
}
