-- How names stand to each other, unit by unit.
use Rattle.std.proofs.Common.{◌≡◌, ◌≢◌, ℕ, List, [], ◌∷◌, length, ◌==◌, refl, sym, ap, ◌∙◌}
use Rattle.std.specs.Ordering.{nat_cmp, ordering_then, ordering_reverse, ordering_index, is_lt}
use Rattle.std.proofs.lemmas.Cmp.{nat_list_cmp_total}
use Rattle.std.specs.Cmp.{IsTotalOrder}
use Rattle.cc_built_in.specs.BuiltInMethods.{is_before}
use Rattle.cc_meaning_plain.specs.Program.{main_name}
use Rattle.std.specs.declared.cmp.Ordering.{Ordering}
use Rattle.std.specs.declared.cmp.Ordering.TheVariants.{Less, Equal, Greater}
use Rattle.std.specs.Cmp.Lexicographic.{slice_cmp}

-- the first name goes on where the second one ends
pub is_longer : (name other : List ℕ) (unit : ℕ) (units : List ℕ) (o : Ordering) → name ≡ unit ∷ units → other ≡ [] → slice_cmp nat_cmp name other ≡ o → Greater ≡ o
is_longer name other unit units o e f same = sym (rw (e, f) refl) ∙ same

by_first : (order rest : Ordering) → order ≢ Equal → order ≡ ordering_then order rest
by_first Less rest h = refl
by_first Equal rest h = absurd (h refl)
by_first Greater rest h = refl

-- the first units differ
pub differs : (name other : List ℕ) (unit byte : ℕ) (units bytes : List ℕ) (order o : Ordering) → name ≡ unit ∷ units → other ≡ byte ∷ bytes → order ≡ nat_cmp unit byte → order ≢ Equal →
    slice_cmp nat_cmp name other ≡ o → order ≡ o
differs name other unit byte units bytes order o e f is h same =
    by_first order (slice_cmp nat_cmp units bytes) h ∙ ap (λ (x : Ordering). ordering_then x (slice_cmp nat_cmp units bytes)) is ∙ sym (rw (e, f) refl) ∙ same

-- the first units are the same
pub goes_on : (name other : List ℕ) (unit byte : ℕ) (units bytes : List ℕ) (order o : Ordering) → name ≡ unit ∷ units → other ≡ byte ∷ bytes → order ≡ nat_cmp unit byte → order ≡ Equal →
    slice_cmp nat_cmp name other ≡ o → slice_cmp nat_cmp units bytes ≡ o
goes_on name other unit byte units bytes order o e f is h same =
    ap (λ (x : Ordering). ordering_then x (slice_cmp nat_cmp units bytes)) (sym h ∙ is) ∙ sym (rw (e, f) refl) ∙ same

-- the first name has ended
pub are_equal : (name other : List ℕ) (o : Ordering) → name ≡ [] → other ≡ [] → slice_cmp nat_cmp name other ≡ o → Equal ≡ o
are_equal name other o e f same = sym (rw (e, f) refl) ∙ same

pub is_shorter : (name other : List ℕ) (o : Ordering) → name ≡ [] → length other ≢ 0 → slice_cmp nat_cmp name other ≡ o → Less ≡ o
is_shorter name [] o e f same = absurd (f refl)
is_shorter name (b ∷ other) o e f same = sym (rw e refl) ∙ same

-- the one stands before the other where the other stands behind it
pub before_is : (name other : List ℕ) (o : Ordering) → o ≡ slice_cmp nat_cmp other name → is_before name other ≡ (ordering_index o == 2)
before_is name other o e = ap is_lt (nat_list_cmp_total.antisymm name other ∙ ap ordering_reverse (sym e)) ∙ by o
  where
    by : (x : Ordering) → is_lt (ordering_reverse x) ≡ (ordering_index x == 2)
    by Less = refl
    by Equal = refl
    by Greater = refl

-- the one stands before the other where it is less
pub before_main_is : (name other : List ℕ) (o : Ordering) → o ≡ slice_cmp nat_cmp name other → other ≡ main_name → (ordering_index o == 0) ≡ is_before name main_name
before_main_is name other o e main = by o ∙ ap is_lt (e ∙ ap (slice_cmp nat_cmp name) main)
  where
    by : (x : Ordering) → (ordering_index x == 0) ≡ is_lt x
    by Less = refl
    by Equal = refl
    by Greater = refl
