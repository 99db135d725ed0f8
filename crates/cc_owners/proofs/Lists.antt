-- What stands in lists, and the first that is so.
use Rattle.std.proofs.Common.{◌≡◌, ◌⊎◌, inl, inr, ℕ, zero, suc, ◌+◌, ◌<◌, ◌≤◌, List, [], ◌∷◌, ◌++◌, length, get_or, map, take, Some, slice_get, refl, sym, ap, subst, ◌∙◌, arith}
use Rattle.std.proofs.lemmas.List.{length-map}
use Rattle.cc_meaning_program.specs.Searches.{First, NoneOf}
use Rattle.cc_meaning_program.specs.Outlines.{AreNumbersOf}

pub data Among {A : Type 0} : List A → A → Type 0 where
  first : {x : A} {xs : List A} → Among (x ∷ xs) x
  later : {x y : A} {xs : List A} → Among xs x → Among (y ∷ xs) x

pub some_is : {A : Type 0} (x y : A) → Some x ≡ Some y → x ≡ y
some_is x y e = cc

-- ---- parts

pub in_front : {A : Type 0} (xs ys : List A) (x : A) → Among xs x → Among (xs ++ ys) x
in_front _ ys x (first {xs = xs}) = first
in_front _ ys x (later {xs = xs} is) = later (in_front xs ys x is)

pub at_end : {A : Type 0} (xs : List A) (x : A) → Among (xs ++ x ∷ []) x
at_end [] x = first
at_end (y ∷ ys) x = later (at_end ys x)

pub record Parted {A : Type 0} (all : List A) (x : A) : Type 0 where
  pub before : List A
  pub behind : List A
  pub is : all ≡ before ++ x ∷ behind

pub parted : {A : Type 0} (all : List A) (x : A) → Among all x → Parted all x
parted _ x (first {xs = xs}) = record { before = []; behind = xs; is = refl }
parted _ x (later {y = y} {xs = xs} is) =
    let p = parted xs x is in
    record { before = y ∷ p.before; behind = p.behind; is = ap (λ l. y ∷ l) p.is }

pub together : {A : Type 0} (xs ys zs : List A) → (xs ++ ys) ++ zs ≡ xs ++ (ys ++ zs)
together [] ys zs = refl
together (x ∷ xs) ys zs = ap (λ l. x ∷ l) (together xs ys zs)

pub ends_empty : {A : Type 0} (xs : List A) → xs ++ [] ≡ xs
ends_empty [] = refl
ends_empty (x ∷ xs) = ap (λ l. x ∷ l) (ends_empty xs)

pub length_both : {A : Type 0} (xs ys : List A) → length (xs ++ ys) ≡ length xs + length ys
length_both [] ys = omega arith
length_both (x ∷ xs) ys = omega (arith, length_both xs ys)

-- an element of two lists, one behind the other, stands in the first or in the second
abbrev pub InFirst : {A : Type 0} → List A → List A → List A → A → List A → Type 0
InFirst {A} xs ys a v t = (rest : List A) × (xs ≡ a ++ v ∷ rest) × (t ≡ rest ++ ys)

abbrev pub InSecond : {A : Type 0} → List A → List A → List A → A → List A → Type 0
InSecond {A} xs ys a v t = (start : List A) × (ys ≡ start ++ v ∷ t) × (a ≡ xs ++ start)

pub which : {A : Type 0} (xs ys a : List A) (v : A) (t : List A) → xs ++ ys ≡ a ++ v ∷ t → InFirst xs ys a v t ⊎ InSecond xs ys a v t
which [] ys a v t e = inr (a, e, refl)
which (x ∷ xs) ys [] v t e =
    let head : x ≡ v = cc in
    let tail : xs ++ ys ≡ t = cc in
    inl (xs, ap (λ h. h ∷ xs) head, sym tail)
which (x ∷ xs) ys (y ∷ a) v t e =
    let head : x ≡ y = cc in
    let tail : xs ++ ys ≡ a ++ v ∷ t = cc in
    from head (which xs ys a v t tail)
  where
    from : x ≡ y → InFirst xs ys a v t ⊎ InSecond xs ys a v t → InFirst (x ∷ xs) ys (y ∷ a) v t ⊎ InSecond (x ∷ xs) ys (y ∷ a) v t
    from head (inl (rest, one, two)) = inl (rest, (ap (λ h. h ∷ xs) head ∙ ap (λ l. y ∷ l) one), two)
    from head (inr (start, one, two)) = inr (start, one, (ap (λ h. h ∷ a) (sym head) ∙ ap (λ l. x ∷ l) two))

-- ---- none and the first

module _ {A : Type 0} (is_so : A → Type 0) where
  pub none_of_both : (xs ys : List A) → NoneOf is_so xs → NoneOf is_so ys → NoneOf is_so (xs ++ ys)
  none_of_both [] ys none others = others
  none_of_both (x ∷ xs) ys none others = (none.0, none_of_both xs ys none.1 others)

  pub none_in_front : (xs ys : List A) → NoneOf is_so (xs ++ ys) → NoneOf is_so xs
  none_in_front [] ys none = tt
  none_in_front (x ∷ xs) ys none = (none.0, none_in_front xs ys none.1)

  pub none_behind : (xs ys : List A) → NoneOf is_so (xs ++ ys) → NoneOf is_so ys
  none_behind [] ys none = none
  none_behind (x ∷ xs) ys none = none_behind xs ys none.1

  pub not_this : (xs : List A) (x : A) → Among xs x → NoneOf is_so xs → ¬ is_so x
  not_this _ x (first {xs = xs}) none = none.0
  not_this _ x (later {xs = xs} is) none = not_this xs x is none.1

  pub first_behind : (xs ys : List A) (x : A) → NoneOf is_so xs → First is_so ys x → First is_so (xs ++ ys) x
  first_behind [] ys x none is = is
  first_behind (y ∷ xs) ys x none is = First.later none.0 (first_behind xs ys x none.1 is)

  pub first_in_front : (xs ys : List A) (x : A) → First is_so xs x → First is_so (xs ++ ys) x
  first_in_front _ ys x (First.here {xs = xs} so) = First.here so
  first_in_front _ ys x (First.later {xs = xs} not rest) = First.later not (first_in_front xs ys x rest)

  pub none_yet : (xs : List A) → NoneOf is_so (take 0 xs)
  none_yet [] = tt
  none_yet (x ∷ xs) = tt

  pub none_more : (xs : List A) (i : ℕ) (x : A) → slice_get xs i ≡ Some x → NoneOf is_so (take i xs) → ¬ is_so x → NoneOf is_so (take (i + 1) xs)
  none_more [] i x there none not = absurd cc
  none_more (y ∷ xs) zero x there none not =
      let same : x ≡ y = cc in
      (subst (λ z. ¬ is_so z) same not, none_yet xs)
  none_more (y ∷ xs) (suc i) x there none not =
      let next : suc (i + 1) ≡ suc i + 1 = omega arith in
      subst (λ n. NoneOf is_so (take n (y ∷ xs))) next (none.0, none_more xs i x there none.1 not)

  pub none_taken : (xs : List A) (i : ℕ) → length xs ≤ i → NoneOf is_so (take i xs) → NoneOf is_so xs
  none_taken [] i past none = tt
  none_taken (y ∷ xs) zero past none = absurd (omega arith)
  none_taken (y ∷ xs) (suc i) past none = (none.0, none_taken xs i (omega (arith, past)) none.1)

  pub first_at : (xs : List A) (i : ℕ) (x : A) → slice_get xs i ≡ Some x → NoneOf is_so (take i xs) → is_so x → First is_so xs x
  first_at [] i x there none so = absurd cc
  first_at (y ∷ xs) zero x there none so =
      let same : x ≡ y = cc in
      subst (λ z. First is_so (z ∷ xs) x) same (First.here so)
  first_at (y ∷ xs) (suc i) x there none so = First.later none.0 (first_at xs i x there none.1 so)

-- ---- lists of numbers

pub map_both : {A B : Type 0} (f : A → B) (xs ys : List A) → map f (xs ++ ys) ≡ map f xs ++ map f ys
map_both f [] ys = refl
map_both f (x ∷ xs) ys = ap (λ l. f x ∷ l) (map_both f xs ys)

pub numbers_both : (names xs ys : List (List ℕ)) (ns ms : List ℕ) → AreNumbersOf names xs ns → AreNumbersOf names ys ms → AreNumbersOf names (xs ++ ys) (ns ++ ms)
numbers_both names xs ys ns ms one other = map_both (slice_get names) ns ms ∙ (ap (λ l. l ++ map (slice_get names) ms) one ∙ (ap (λ l. map Some xs ++ l) other ∙ sym (map_both Some xs ys)))

pub number_at : (names order : List (List ℕ)) (numbers : List ℕ) (i d : ℕ) → AreNumbersOf names order numbers → i < length numbers → (name : List ℕ) × (slice_get order i ≡ Some name) × (slice_get names (get_or numbers i d) ≡ Some name)
number_at names order [] i d are within = absurd (omega arith)
number_at names [] (n ∷ ns) i d are within = absurd cc
number_at names (x ∷ xs) (n ∷ ns) zero d are within = let e : slice_get names n ≡ Some x = cc in (x, refl, e)
number_at names (x ∷ xs) (n ∷ ns) (suc i) d are within = let rest : map (slice_get names) ns ≡ map Some xs = cc in number_at names xs ns i d rest (omega (arith, within))

pub as_many : (names order : List (List ℕ)) (numbers : List ℕ) → AreNumbersOf names order numbers → length order ≡ length numbers
as_many names order numbers are = sym (length-map order Some) ∙ (ap length (sym are) ∙ length-map numbers (slice_get names))

pub pushed : {A : Type 0} (xs : List A) (x : A) (at : ℕ) (y : A) → slice_get (xs ++ x ∷ []) at ≡ Some y → (slice_get xs at ≡ Some y) ⊎ ((at ≡ length xs) × (x ≡ y))
pushed [] x zero y there = inr (refl, some_is x y there)
pushed [] x (suc at) y there = absurd cc
pushed (z ∷ xs) x zero y there = inl there
pushed (z ∷ xs) x (suc at) y there = elim (pushed xs x at y there) [ inl old ↦ inl old | inr (last, same) ↦ inr (ap suc last, same) ]
