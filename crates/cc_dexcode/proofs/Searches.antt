-- A binary search finds the handler that begins at a place, since handlers begin one behind the other.
use Rattle.std.proofs.Common.{◌≡◌, ◌≢◌, ◌⊎◌, ⊎_elim, ℕ, zero, suc, ◌+◌, ◌<◌, ◌≤◌, true, false, eqb, List, [], ◌∷◌, length, get_or, Some, None, refl, arith}
use Rattle.std.specs.List.Sorted.{IsNonDecreasingBy, IsPartitionPoint}
use Rattle.std.specs.Ordering.{nat_cmp, ordering_index}
use Rattle.std.specs.declared.cmp.Ordering.TheVariants.{Less, Equal, Greater}
use Rattle.std.proofs.lemmas.Bool.Decides.{nat_tests}
use Rattle.cc_meaning_dex.specs.declared.items.Handler.{Handler}
use Rattle.cc_meaning_dex.specs.Tries.{RisesFrom, catches_at}

other : (a b : ℕ) → a ≢ b → eqb a b ≡ false
other a b h = grind (arith, nat_tests)

equal : (a b : ℕ) → a ≡ b → eqb a b ≡ true
equal a b h = grind (arith, nat_tests)

is_equal : (a b : ℕ) → nat_cmp a b ≡ Equal → a ≡ b
is_equal a b e = grind (arith, nat_tests)

is_below : (a b : ℕ) → nat_cmp a b ≡ Less → a ≢ b
is_below a b e = grind (arith, nat_tests)

is_above : (a b : ℕ) → nat_cmp a b ≡ Greater → a ≢ b
is_above a b e = grind (arith, nat_tests)

higher : (a b x : ℕ) → a ≤ b → ordering_index (nat_cmp a x) ≤ ordering_index (nat_cmp b x)
higher a b x le = grind (arith, nat_tests)

above_low : (handlers : List Handler) (low k : ℕ) (d : Handler) → RisesFrom low handlers → k < length handlers → low ≤ (get_or handlers k d).start
above_low [] low k d rises below = absurd (omega (arith, below))
above_low (handler ∷ handlers) low zero d rises below = rises.0
above_low (handler ∷ handlers) low (suc k) d rises below = omega (arith, rises.0, above_low handlers (handler.start + 1) k d rises.1 (omega (arith, below)))

rising : (handlers : List Handler) (low i j : ℕ) (d : Handler) → RisesFrom low handlers → i ≤ j → j < length handlers → (get_or handlers i d).start ≤ (get_or handlers j d).start
rising [] low i j d rises order below = absurd (omega (arith, below))
rising (handler ∷ handlers) low zero zero d rises order below = omega arith
rising (handler ∷ handlers) low zero (suc j) d rises order below = omega (arith, above_low handlers (handler.start + 1) j d rises.1 (omega (arith, below)))
rising (handler ∷ handlers) low (suc i) zero d rises order below = absurd (omega (arith, order))
rising (handler ∷ handlers) low (suc i) (suc j) d rises order below = rising handlers (handler.start + 1) i j d rises.1 (omega (arith, order)) (omega (arith, below))

found_at : (handlers : List Handler) (low start place : ℕ) (d : Handler) → RisesFrom low handlers → place < length handlers → (get_or handlers place d).start ≡ start →
    catches_at handlers start ≡ Some (get_or handlers place d).catches
unfolding catches_at
found_at [] low start place d rises below begun = absurd (omega (arith, below))
found_at (handler ∷ handlers) low start zero d rises below begun = rw (equal handler.start start begun) refl
found_at (handler ∷ handlers) low start (suc place) d rises below begun =
    let past = above_low handlers (handler.start + 1) place d rises.1 (omega (arith, below)) in
    rw (other handler.start start (λ e. omega (arith, e, past, begun))) (found_at handlers (handler.start + 1) start place d rises.1 (omega (arith, below)) begun)

absent_at : (handlers : List Handler) (start : ℕ) → ((k : ℕ) (d : Handler) → k < length handlers → (get_or handlers k d).start ≢ start) → catches_at handlers start ≡ None
unfolding catches_at
absent_at [] start none = refl
absent_at (handler ∷ handlers) start none =
    rw (other handler.start start (none 0 handler (omega arith))) (absent_at handlers start (λ k d below. none (suc k) d (omega (arith, below))))

pub found : (handlers : List Handler) (start place : ℕ) (d : Handler) → RisesFrom 0 handlers → place < length handlers →
    ((e : Handler) → nat_cmp (get_or handlers place e).start start ≡ Equal) → catches_at handlers start ≡ Some (get_or handlers place d).catches
found handlers start place d rises below same = found_at handlers 0 start place d rises below (is_equal (get_or handlers place d).start start (same d))

pub absent : (handlers : List Handler) (start place : ℕ) → RisesFrom 0 handlers →
    (IsNonDecreasingBy (λ (h : Handler). ordering_index (nat_cmp h.start start)) handlers → IsPartitionPoint (λ (h : Handler). nat_cmp h.start start ≡ Less) (λ (h : Handler). nat_cmp h.start start ≡ Greater) handlers place) →
    catches_at handlers start ≡ None
absent handlers start place rises split =
    let parts = split (λ i j d order below. higher (get_or handlers i d).start (get_or handlers j d).start start (rising handlers 0 i j d rises order below)) in
    absent_at handlers start (λ k d below. sides k d below parts (cases k))
  where
    cases : (k : ℕ) → (k < place) ⊎ (place ≤ k)
    cases k = grind arith

    sides : (k : ℕ) (d : Handler) → k < length handlers → IsPartitionPoint (λ (h : Handler). nat_cmp h.start start ≡ Less) (λ (h : Handler). nat_cmp h.start start ≡ Greater) handlers place →
        (k < place) ⊎ (place ≤ k) → (get_or handlers k d).start ≢ start
    sides k d below parts side = ⊎_elim
        (λ (before : k < place). is_below (get_or handlers k d).start start (parts.0 k d (omega arith) before))
        (λ (behind : place ≤ k). is_above (get_or handlers k d).start start (parts.1 k d behind below)) side
