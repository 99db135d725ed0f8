-- Comparing texts that are given piece by piece.
use Rattle.std.proofs.Common.{◌≡◌, ◌⊎◌, inl, inr, ℕ, zero, suc, ◌+◌, ◌≤◌, Bool, true, false, ◌==◌, List, [], ◌∷◌, ◌++◌, length, take, drop, Some, None, slice_get, refl, sym, ap, ◌∙◌, append_assoc, add-one, arith}
use Rattle.std.specs.Cmp.Lexicographic.{slice_cmp}
use Rattle.std.specs.Ordering.{nat_cmp, ordering_then, is_eq}
use Rattle.std.specs.declared.cmp.Ordering.{Ordering}
use Rattle.std.specs.declared.cmp.Ordering.TheVariants.{Less, Equal, Greater}
use Rattle.std.proofs.lemmas.Bool.Decides.{nat_tests}
use Rattle.std.proofs.lemmas.Cmp.{nat_list_cmp_total, tied_itself}
use Rattle.std.proofs.lemmas.List.{take-append-drop, length-take}
use Rattle.cc_names.specs.Pieces.{joined, joined_from}

-- ---- empty

pub is_empty_by : (xs : List ℕ) (b : Bool) → b ≡ (length xs == 0) → b ≡ true → xs ≡ []
is_empty_by [] b test is = refl
is_empty_by (x ∷ xs) b test is =
    let e : (length (x ∷ xs) == 0) ≡ true = sym test ∙ is in
    let none : length (x ∷ xs) ≡ 0 = grind (arith, nat_tests) in
    absurd (omega arith)

pub is_some_by : (xs : List ℕ) (b : Bool) → b ≡ (length xs == 0) → b ≡ false → xs ≡ [] → ⊥
is_some_by [] b test is none = let e : true ≡ false = sym test ∙ is in cc
is_some_by (x ∷ xs) b test is none = cc

-- ---- pieces

behind_piece : (pieces : List (List ℕ)) (at : ℕ) (piece : List ℕ) → slice_get pieces at ≡ Some piece → joined (drop at pieces) ≡ joined_from pieces piece (suc at)
behind_piece [] at piece there = absurd cc
behind_piece (p ∷ ps) zero piece there = let same : p ≡ piece = cc in ap (λ q. q ++ joined ps) same
behind_piece (p ∷ ps) (suc n) piece there = behind_piece ps n piece there

pub next_piece : (pieces : List (List ℕ)) (at : ℕ) (piece : List ℕ) → slice_get pieces at ≡ Some piece → joined (drop at pieces) ≡ joined_from pieces piece (at + 1)
next_piece pieces at piece there = behind_piece pieces at piece there ∙ ap (λ (n : ℕ). joined_from pieces piece n) (sym (add-one at))

pub no_piece : (pieces : List (List ℕ)) (at : ℕ) → slice_get pieces at ≡ None → joined (drop at pieces) ≡ []
no_piece [] zero there = refl
no_piece [] (suc n) there = refl
no_piece (p ∷ ps) zero there = absurd cc
no_piece (p ∷ ps) (suc n) there = no_piece ps n there

pub in_two : (pieces : List (List ℕ)) (n : ℕ) → joined pieces ≡ joined (take n pieces) ++ joined (drop n pieces)
in_two [] zero = refl
in_two [] (suc n) = refl
in_two (p ∷ ps) zero = refl
in_two (p ∷ ps) (suc n) = ap (λ rest. p ++ rest) (in_two ps n) ∙ sym (append_assoc p (joined (take n ps)) (joined (drop n ps)))

-- ---- fronts

then_then : (a b c : Ordering) → ordering_then (ordering_then a b) c ≡ ordering_then a (ordering_then b c)
then_then Less b c = refl
then_then Equal b c = refl
then_then Greater b c = refl

-- fronts of one length are compared first
pub by_fronts : (a b x y : List ℕ) → length a ≡ length b → slice_cmp nat_cmp (a ++ x) (b ++ y) ≡ ordering_then (slice_cmp nat_cmp a b) (slice_cmp nat_cmp x y)
by_fronts [] [] x y same = refl
by_fronts [] (v ∷ vs) x y same = absurd (omega arith)
by_fronts (u ∷ us) [] x y same = absurd (omega arith)
by_fronts (u ∷ us) (v ∷ vs) x y same =
    ap (ordering_then (nat_cmp u v)) (by_fronts us vs x y (omega arith)) ∙ sym (then_then (nat_cmp u v) (slice_cmp nat_cmp us vs) (slice_cmp nat_cmp x y))

-- what two texts begin with alike doesn't tell them apart
pub by_rest : (front x y : List ℕ) → slice_cmp nat_cmp (front ++ x) (front ++ y) ≡ slice_cmp nat_cmp x y
by_rest front x y = by_fronts front front x y refl ∙ ap (λ o. ordering_then o (slice_cmp nat_cmp x y)) (tied_itself nat_list_cmp_total front)

pub behind_same : (these those : List (List ℕ)) (n : ℕ) → take n these ≡ take n those → slice_cmp nat_cmp (joined these) (joined those) ≡ slice_cmp nat_cmp (joined (drop n these)) (joined (drop n those))
behind_same these those n same =
    let first : joined these ≡ joined (take n those) ++ joined (drop n these) = in_two these n ∙ ap (λ front. joined front ++ joined (drop n these)) same in
    rw (first, in_two those n) (by_rest (joined (take n those)) (joined (drop n these)) (joined (drop n those)))

-- ---- comparing

-- what is left of two texts compares as the whole of them, and none of them is at the end of a piece that isn't its last
pub record Compares (these those : List (List ℕ)) (here : List ℕ) (next_here : ℕ) (there : List ℕ) (next_there : ℕ) : Type 0 where
  pub same : slice_cmp nat_cmp (joined_from these here next_here) (joined_from those there next_there) ≡ slice_cmp nat_cmp (joined these) (joined those)
  pub here_ended : here ≡ [] → joined_from these here next_here ≡ []
  pub there_ended : there ≡ [] → joined_from those there next_there ≡ []

-- at the place behind the first pieces, which are the same
pub starts : (these those : List (List ℕ)) (start : ℕ) (here : List ℕ) (next_here : ℕ) (there : List ℕ) (next_there : ℕ) → take start these ≡ take start those →
    joined_from these here next_here ≡ joined_from these [] start → joined_from those there next_there ≡ joined_from those [] start →
    (here ≡ [] → joined_from these here next_here ≡ []) → (there ≡ [] → joined_from those there next_there ≡ []) → Compares these those here next_here there next_there
starts these those start here next_here there next_there same at_here at_there here_ended there_ended = record {
  same = rw (at_here, at_there) (sym (behind_same these those start same));
  here_ended = here_ended;
  there_ended = there_ended;
}

split : (pieces : List (List ℕ)) (rest : List ℕ) (next n : ℕ) → joined_from pieces rest next ≡ take n rest ++ joined_from pieces (drop n rest) next
split pieces rest next n = ap (λ r. r ++ joined (drop next pieces)) (sym (take-append-drop n rest)) ∙ append_assoc (take n rest) (drop n rest) (joined (drop next pieces))

-- fronts of one length, and then what is behind them
both_split : (these those : List (List ℕ)) (here : List ℕ) (next_here : ℕ) (there : List ℕ) (next_there n : ℕ) → Compares these those here next_here there next_there → n ≤ length here → n ≤ length there →
    slice_cmp nat_cmp (joined these) (joined those)
    ≡ ordering_then (slice_cmp nat_cmp (take n here) (take n there)) (slice_cmp nat_cmp (joined_from these (drop n here) next_here) (joined_from those (drop n there) next_there))
both_split these those here next_here there next_there n compares a b =
    let lengths : length (take n here) ≡ length (take n there) = omega (arith, length-take n here, length-take n there) in
    sym compares.same ∙ rw (split these here next_here n, split those there next_there n)
    (by_fronts (take n here) (take n there) (joined_from these (drop n here) next_here) (joined_from those (drop n there) next_there) lengths)

not_equal : (o p : Ordering) → is_eq o ≡ false → o ≡ ordering_then o p
not_equal Less p is = refl
not_equal Equal p is = absurd cc
not_equal Greater p is = refl

equal : (o : Ordering) → is_eq o ≡ true → o ≡ Equal
equal Less is = absurd cc
equal Equal is = refl
equal Greater is = absurd cc

-- fronts that differ decide
pub decided : (these those : List (List ℕ)) (here : List ℕ) (next_here : ℕ) (there : List ℕ) (next_there n : ℕ) (o : Ordering) → Compares these those here next_here there next_there → n ≤ length here → n ≤ length there →
    o ≡ slice_cmp nat_cmp (take n here) (take n there) → is_eq o ≡ false → o ≡ slice_cmp nat_cmp (joined these) (joined those)
decided these those here next_here there next_there n o compares a b is other =
    let p = slice_cmp nat_cmp (joined_from these (drop n here) next_here) (joined_from those (drop n there) next_there) in
    not_equal o p other ∙ ap (λ q. ordering_then q p) is ∙ sym (both_split these those here next_here there next_there n compares a b)

-- behind fronts that are equal it goes on
pub goes_on : (these those : List (List ℕ)) (here : List ℕ) (next_here : ℕ) (there : List ℕ) (next_there n : ℕ) (o : Ordering) → Compares these those here next_here there next_there → n ≤ length here → n ≤ length there →
    o ≡ slice_cmp nat_cmp (take n here) (take n there) → is_eq o ≡ true →
    (here' : List ℕ) (next_here' : ℕ) (there' : List ℕ) (next_there' : ℕ) → joined_from these here' next_here' ≡ joined_from these (drop n here) next_here → joined_from those there' next_there' ≡ joined_from those (drop n there) next_there →
    (here' ≡ [] → joined_from these here' next_here' ≡ []) → (there' ≡ [] → joined_from those there' next_there' ≡ []) → Compares these those here' next_here' there' next_there'
goes_on these those here next_here there next_there n o compares a b is same here' next_here' there' next_there' at_here at_there here_ended there_ended = record {
  same =
      let p = slice_cmp nat_cmp (joined_from these (drop n here) next_here) (joined_from those (drop n there) next_there) in
      let fronts : slice_cmp nat_cmp (take n here) (take n there) ≡ Equal = sym is ∙ equal o same in
      rw (at_here, at_there) (sym (both_split these those here next_here there next_there n compares a b ∙ ap (λ q. ordering_then q p) fronts));
  here_ended = here_ended;
  there_ended = there_ended;
}

less_than_some : (n : ℕ) → nat_cmp 0 (suc n) ≡ Less
less_than_some n = grind (arith, nat_tests)

more_than_none : (n : ℕ) → nat_cmp (suc n) 0 ≡ Greater
more_than_none n = grind (arith, nat_tests)

-- where one has ended, the lengths of what is left decide
left_over : (x y here there : List ℕ) → (here ≡ [] → x ≡ []) → (there ≡ [] → y ≡ []) → (here ≡ []) ⊎ (there ≡ []) → (u v : List ℕ) → x ≡ here ++ u → y ≡ there ++ v → slice_cmp nat_cmp x y ≡ nat_cmp (length here) (length there)
left_over x y [] [] ended other one u v left right = rw (ended refl, other refl) refl
left_over x y [] (t ∷ ts) ended other one u v left right = rw (ended refl, right) (sym (less_than_some (length ts)))
left_over x y (h ∷ hs) [] ended other one u v left right = rw (left, other refl) (sym (more_than_none (length hs)))
left_over x y (h ∷ hs) (t ∷ ts) ended other (inl none) u v left right = absurd cc
left_over x y (h ∷ hs) (t ∷ ts) ended other (inr none) u v left right = absurd cc

pub ends : (these those : List (List ℕ)) (here : List ℕ) (next_here : ℕ) (there : List ℕ) (next_there : ℕ) (o : Ordering) → Compares these those here next_here there next_there →
    (here ≡ []) ⊎ (there ≡ []) → o ≡ nat_cmp (length here) (length there) → o ≡ slice_cmp nat_cmp (joined these) (joined those)
ends these those here next_here there next_there o compares one is =
    is ∙ sym (left_over (joined_from these here next_here) (joined_from those there next_there) here there compares.here_ended compares.there_ended one
    (joined (drop next_here these)) (joined (drop next_there those)) refl refl) ∙ compares.same
