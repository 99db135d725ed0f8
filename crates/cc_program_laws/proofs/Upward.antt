-- What holds of each definition of sound classes, if it holds of one wherever it holds of those above.
use Rattle.std.proofs.Common.{◌≡◌, ◌≢◌, ◌⊎◌, inl, inr, ℕ, zero, suc, ◌<◌, ◌≤◌, List, [], ◌∷◌, length, refl, ap, subst, sym, arith}
use Rattle.std.proofs.lemmas.Bool.{cases_lt}
use Rattle.std.proofs.lemmas.Option.{slice_get_within}
use Rattle.cc_meaning.specs.declared.file.Ids.{Ids}
use Rattle.cc_meaning.specs.declared.file.RawClass.{RawClass}
use Rattle.cc_meaning_program.specs.Definitions.{Extends, Implements, IsAbove, next, further}
use Rattle.cc_meaning_program.specs.ClassFaults.{AreSound}

-- ---- numbers of a list

-- a number stands in a list
data Among : List ℕ → ℕ → Type 0 where
  first : {x : ℕ} {xs : List ℕ} → Among (x ∷ xs) x
  later : {x y : ℕ} {xs : List ℕ} → Among xs x → Among (y ∷ xs) x

-- a list without one element
abbrev Without : List ℕ → ℕ → Type 0
Without all left_out = (rest : List ℕ) × (length all ≡ suc (length rest)) × ((other : ℕ) → other ≢ left_out → Among all other → Among rest other)

tail_has : (x : ℕ) (xs : List ℕ) (other : ℕ) → other ≢ x → Among (x ∷ xs) other → Among xs other
tail_has x xs other apart first = absurd (apart refl)
tail_has x xs other apart (later is) = is

without : (all : List ℕ) (x : ℕ) → Among all x → Without all x
without [] x is = elim is [ ]
without (y ∷ xs) x first = (xs, refl, λ other apart is. tail_has y xs other apart is)
without (y ∷ xs) x (later is) = from (without xs x is)
  where
    keep : (rest : List ℕ) → ((other : ℕ) → other ≢ x → Among xs other → Among rest other) → (other : ℕ) → other ≢ x → Among (y ∷ xs) other → Among (y ∷ rest) other
    keep rest kept other apart first = first
    keep rest kept other apart (later is) = later (kept other apart is)

    from : Without xs x → Without (y ∷ xs) x
    from (rest, long, kept) = (y ∷ rest, ap suc long, keep rest kept)

none_among : (all : List ℕ) (x : ℕ) → Among all x → length all ≡ 0 → ⊥
none_among [] x is none = elim is [ ]
none_among (y ∷ xs) x is none = omega arith

-- the numbers below one
below : ℕ → List ℕ
below zero = []
below (suc n) = n ∷ below n

length_below : (n : ℕ) → length (below n) ≡ n
unfolding below
length_below zero = refl
length_below (suc n) = ap suc (length_below n)

below_has : (n number : ℕ) → number < n → Among (below n) number
unfolding below
below_has zero number less = absurd (omega arith)
below_has (suc n) number less = from (λ inside. below_has n number inside) (cases_lt number n)
  where
    from : (number < n → Among (below n) number) → (number < n) ⊎ (n ≤ number) → Among (n ∷ below n) number
    from lower (inl inside) = later (lower inside)
    from lower (inr last) = let e : n ≡ number = omega arith in subst (λ k. Among (k ∷ below n) number) (sym e) first

-- ---- steps

-- one step up, by the superclass or by an interface
abbrev pub Step : Ids → ℕ → ℕ → Type 0
Step ids number above = Extends ids number above ⊎ Implements ids number above

step_within : (ids : Ids) (from to : ℕ) → Step ids from to → to < length ids.classes
step_within ids from to (inl e) = slice_get_within ids.classes to e.defined.stated e.defined.there
step_within ids from to (inr e) = slice_get_within ids.classes to e.defined.stated e.defined.there

above_within : (ids : Ids) (from to : ℕ) → IsAbove ids from to → to < length ids.classes
above_within ids from to (next step) = step_within ids from to step
above_within ids from to (further {above = mid} step rest) = above_within ids mid to rest

-- where it holds of all one step above, it holds
abbrev pub Passes : Ids → (ℕ → Type 0) → Type 0
Passes ids holds = (number : ℕ) → ((above : ℕ) → Step ids number above → holds above) → holds number

-- a definition, and those above it
abbrev IsFrom : Ids → ℕ → ℕ → Type 0
IsFrom ids number top = (top ≡ number) ⊎ IsAbove ids number top

above_too : (ids : Ids) (number above top : ℕ) → Step ids number above → IsFrom ids above top → IsAbove ids number top
above_too ids number above top step (inl same) = subst (λ t. IsAbove ids number t) (sym same) (next step)
above_too ids number above top step (inr higher) = further step higher

-- by how many definitions there are at and above one: each step leaves one behind, for none is above itself
climb : (ids : Ids) (classes : List RawClass) → AreSound ids classes → (holds : ℕ → Type 0) → Passes ids holds → (n : ℕ) (all : List ℕ) → length all ≡ n →
    (number : ℕ) → ((top : ℕ) → IsFrom ids number top → Among all top) → holds number
climb ids classes sound holds passes zero all long number has = absurd (none_among all number (has number (inl refl)) long)
climb ids classes sound holds passes (suc n) all long number has =
    let (rest, longer, kept) = without all number (has number (inl refl)) in
    passes number (λ above step. climb ids classes sound holds passes n rest (omega (arith, long, longer)) above (λ top is.
    kept top (λ same. sound.ordered number (subst (λ t. IsAbove ids number t) same (above_too ids number above top step is)))
    (has top (inr (above_too ids number above top step is)))))

pub upward : (ids : Ids) (classes : List RawClass) → AreSound ids classes → (holds : ℕ → Type 0) → Passes ids holds → (number : ℕ) → number < length ids.classes → holds number
upward ids classes sound holds passes number within =
    climb ids classes sound holds passes (length ids.classes) (below (length ids.classes)) (length_below (length ids.classes)) number has
  where
    has : (top : ℕ) → IsFrom ids number top → Among (below (length ids.classes)) top
    has top (inl same) = below_has (length ids.classes) top (omega (arith, same, within))
    has top (inr higher) = below_has (length ids.classes) top (above_within ids number top higher)
