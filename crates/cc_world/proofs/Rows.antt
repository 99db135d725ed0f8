-- A row that has a place for each text or class, and the list of what was made.
use Rattle.std.proofs.Common.{◌≡◌, ℕ, zero, suc, ◌+◌, ◌<◌, ◌≤◌, List, [], ◌∷◌, length, replicate, Option, Some, None, IfSome, slice_get, slice_set, refl, sym, subst, arith}
use Rattle.std.proofs.lemmas.List.{length-set}
use Rattle.std.proofs.lemmas.Grind.{common_steps}
use Rattle.cc_meaning_world.specs.Changes.{number_for}
use Rattle.cc_world.specs.Noted.{noted, RisesFrom, Rises, made_from, made_in, InRange, NamesBelow}

-- ---- reading

-- what is below the first number of a list isn't in it
absent : (places : List (Option ℕ)) (from what : ℕ) → what < from → number_for what (made_from from places) ≡ None
unfolding number_for
absent [] from what h = refl
absent (None ∷ rest) from what h = absent rest (suc from) what (omega (arith, h))
absent (Some n ∷ rest) from what h = grind (arith, common_steps, absent rest (suc from) what (omega (arith, h)))

number_from : (places : List (Option ℕ)) (from at what : ℕ) (found : Option ℕ) → what ≡ from + at → slice_get places at ≡ Some found → number_for what (made_from from places) ≡ found
unfolding number_for
number_from [] from at what found e h = grind (arith, common_steps)
number_from (None ∷ rest) from zero what found e h = grind (arith, common_steps, absent rest (suc from) what (omega (arith, e)))
number_from (None ∷ rest) from (suc at) what found e h = number_from rest (suc from) at what found (omega (arith, e)) h
number_from (Some n ∷ rest) from zero what found e h = grind (arith, common_steps)
number_from (Some n ∷ rest) from (suc at) what found e h = grind (arith, common_steps, number_from rest (suc from) at what found (omega (arith, e)) h)

pub number_in : (places : List (Option ℕ)) (at : ℕ) (found : Option ℕ) → slice_get places at ≡ Some found → number_for at (made_in places) ≡ found
number_in places at found h = number_from places 0 at at found (omega arith) h

-- ---- the order

pub row_rises : (places : List (Option ℕ)) → Rises (made_in places)
row_rises places = from_number places 0
  where
    lower : (places : List (Option ℕ)) (low from : ℕ) → low ≤ from → RisesFrom low (made_from from places)
    lower [] low from h = tt
    lower (None ∷ rest) low from h = lower rest low (suc from) (omega (arith, h))
    lower (Some n ∷ rest) low from h = (omega (arith, h), lower rest (suc from) (suc from) (omega arith))

    from_number : (places : List (Option ℕ)) (from : ℕ) → RisesFrom from (made_from from places)
    from_number places from = lower places from from (omega arith)

-- ---- writing

-- what is below the first number of a list is noted in front
in_front : (places : List (Option ℕ)) (from what number : ℕ) → what < from → noted what number (made_from from places) ≡ record { what = what; number = number } ∷ made_from from places
in_front [] from what number h = refl
in_front (None ∷ rest) from what number h = in_front rest (suc from) what number (omega (arith, h))
in_front (Some n ∷ rest) from what number h = grind (arith, common_steps)

noted_from : (places : List (Option ℕ)) (from at what number : ℕ) → what ≡ from + at → at < length places → made_from from (slice_set places at (Some number)) ≡ noted what number (made_from from places)
noted_from [] from at what number e h = absurd (omega (arith, h))
noted_from (None ∷ rest) from zero what number e h = grind (arith, common_steps, in_front rest (suc from) what number (omega (arith, e)))
noted_from (None ∷ rest) from (suc at) what number e h = noted_from rest (suc from) at what number (omega (arith, e)) (omega (arith, h))
noted_from (Some n ∷ rest) from zero what number e h = grind (arith, common_steps)
noted_from (Some n ∷ rest) from (suc at) what number e h = grind (arith, common_steps, noted_from rest (suc from) at what number (omega (arith, e)) (omega (arith, h)))

pub noted_in : (places : List (Option ℕ)) (at number : ℕ) → at < length places → made_in (slice_set places at (Some number)) ≡ noted at number (made_in places)
noted_in places at number h = noted_from places 0 at at number (omega arith) h

-- nothing was made at first
pub empty_row : (count : ℕ) → made_in (replicate count None) ≡ []
empty_row count = empty_from count 0
  where
    empty_from : (count from : ℕ) → made_from from (replicate count None) ≡ []
    empty_from zero from = refl
    empty_from (suc count) from = empty_from count (suc from)

-- a row keeps its places
pub same_room : (places : List (Option ℕ)) (at : ℕ) (entry : Option ℕ) → length (slice_set places at entry) ≡ length places
same_room places at entry = length-set places at entry

-- ---- what a row names

pub no_names : (count objects : ℕ) → NamesBelow objects (replicate count None)
no_names zero objects = tt
no_names (suc count) objects = no_names count objects

pub unnamed : (places : List (Option ℕ)) (count objects : ℕ) → places ≡ replicate count None → NamesBelow objects places
unnamed places count objects e = subst (NamesBelow objects) (sym e) (no_names count objects)

-- there are more objects
pub names_kept : (places : List (Option ℕ)) (objects more : ℕ) → NamesBelow objects places → objects ≤ more → NamesBelow more places
names_kept [] objects more h le = tt
names_kept (None ∷ rest) objects more h le = names_kept rest objects more h le
names_kept (Some n ∷ rest) objects more h le = (omega (arith, h.0, le), names_kept rest objects more h.1 le)

pub names_set : (places : List (Option ℕ)) (at objects number : ℕ) → NamesBelow objects places → number < objects → NamesBelow objects (slice_set places at (Some number))
names_set [] at objects number h below = tt
names_set (None ∷ rest) zero objects number h below = (below, h)
names_set (None ∷ rest) (suc at) objects number h below = names_set rest at objects number h below
names_set (Some n ∷ rest) zero objects number h below = (below, h.1)
names_set (Some n ∷ rest) (suc at) objects number h below = (h.0, names_set rest at objects number h.1 below)

pub named : (places : List (Option ℕ)) (at objects : ℕ) (found : Option ℕ) → NamesBelow objects places → slice_get places at ≡ Some found → IfSome found (λ id. id < objects)
named [] at objects found h e = absurd (cc)
named (None ∷ rest) zero objects found h e = subst (λ (f : Option ℕ). IfSome f (λ id. id < objects)) (let same : None ≡ found = cc in same) tt
named (None ∷ rest) (suc at) objects found h e = named rest at objects found h e
named (Some n ∷ rest) zero objects found h e = subst (λ (f : Option ℕ). IfSome f (λ id. id < objects)) (let same : Some n ≡ found = cc in same) h.0
named (Some n ∷ rest) (suc at) objects found h e = named rest at objects found h.1 e

in_range_from : (places : List (Option ℕ)) (from whats objects : ℕ) → NamesBelow objects places → from + length places ≤ whats → InRange whats objects (made_from from places)
in_range_from [] from whats objects h le = tt
in_range_from (None ∷ rest) from whats objects h le = in_range_from rest (suc from) whats objects h (omega (arith, le))
in_range_from (Some n ∷ rest) from whats objects h le = ((omega (arith, le), h.0), in_range_from rest (suc from) whats objects h.1 (omega (arith, le)))

pub row_in_range : (places : List (Option ℕ)) (objects : ℕ) → NamesBelow objects places → InRange (length places) objects (made_in places)
row_in_range places objects h = in_range_from places 0 (length places) objects h (omega arith)
