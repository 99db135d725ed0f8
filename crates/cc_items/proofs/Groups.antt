-- A number in LEB128 is put group by group.
use Rattle.std.proofs.Common.{◌≡◌, ℕ, zero, suc, ◌+◌, ◌-◌, ◌/◌, ◌%◌, ◌^◌, ◌<◌, ◌≤◌, Bool, true, false, List, [], ◌∷◌, ◌++◌, length, refl, sym, ap, ◌∙◌, arith, length-append, append_assoc}
use Rattle.std.specs.Prelude.{nat_le, nat_lt, if◌then◌else◌}
use Rattle.std.proofs.lemmas.Bool.{lt-ltb, le-ltb}
use Rattle.std.proofs.lemmas.Nat.{div_below}
use Rattle.std.proofs.Math.Nat.{pow-suc}
use Rattle.cc_meaning_builder.specs.Forms.{uleb_form, uleb_within, sleb_within}

-- the groups so far, and what is left in at most so many groups and one more, are the whole
pub record UlebLeft (bytes : List ℕ) (rest whole : ℕ) : Type 0 where
  pub more : ℕ
  pub shows : bytes ++ uleb_within more rest ≡ uleb_form whole
  pub small : rest < 128 ^ suc more
  pub room : length bytes + more ≡ 4

pub uleb_start : (n : ℕ) → n < 2 ^ 32 → UlebLeft [] n n
uleb_start n small = record { more = 4; shows = refl; small = omega (arith, small); room = refl }

last_is : (more n : ℕ) → n < 128 → uleb_within more n ≡ n ∷ []
unfolding uleb_within
last_is zero n small = let is : n % 128 ≡ n = omega arith in ap (λ (b : ℕ). b ∷ []) is
last_is (suc more) n small = rw (lt-ltb n 128 small) refl

next_is : (more n : ℕ) → 128 ≤ n → uleb_within (suc more) n ≡ (128 + n % 128) ∷ uleb_within more (n / 128)
unfolding uleb_within
next_is more n large = rw (le-ltb n 128 large) refl

step : (bytes : List ℕ) (rest whole more : ℕ) → 128 ≤ rest → bytes ++ uleb_within more rest ≡ uleb_form whole → rest < 128 ^ suc more → length bytes + more ≡ 4 →
    UlebLeft (bytes ++ (128 + rest % 128) ∷ []) (rest / 128) whole
step bytes rest whole zero large shows small room = absurd (omega (arith, small))
step bytes rest whole (suc more) large shows small room = record {
  more = more;
  shows = append_assoc bytes ((128 + rest % 128) ∷ []) (uleb_within more (rest / 128)) ∙ ap (λ (l : List ℕ). bytes ++ l) (sym (next_is more rest large)) ∙ shows;
  small = div_below rest 128 (128 ^ suc more) (omega arith) (omega (arith, small, pow-suc 128 (suc more)));
  room = omega (arith, room, length-append bytes ((128 + rest % 128) ∷ []));
}

pub uleb_more : (bytes : List ℕ) (rest whole : ℕ) → 128 ≤ rest → UlebLeft bytes rest whole → UlebLeft (bytes ++ (128 + rest % 128) ∷ []) (rest / 128) whole
uleb_more bytes rest whole large left = step bytes rest whole left.more large left.shows left.small left.room

pub uleb_end : (bytes : List ℕ) (rest whole : ℕ) → rest < 128 → UlebLeft bytes rest whole → bytes ++ rest ∷ [] ≡ uleb_form whole
uleb_end bytes rest whole small left = ap (λ (l : List ℕ). bytes ++ l) (sym (last_is left.more rest small)) ∙ left.shows

-- ---- SLEB128

-- one group holds the rest
abbrev pub is_last : Bool → ℕ → ℕ → Bool
is_last negative rest bound = if negative then nat_le (bound - 64) rest else nat_lt rest 64

last_group : (more n : ℕ) (negative : Bool) → is_last negative n (128 ^ (more + 2)) ≡ true → sleb_within (suc more) n negative ≡ n % 128 ∷ []
unfolding sleb_within
last_group more n negative is = rw is refl

next_group : (more n : ℕ) (negative : Bool) → is_last negative n (128 ^ (more + 2)) ≡ false → sleb_within (suc more) n negative ≡ (128 + n % 128) ∷ sleb_within more (n / 128) negative
unfolding sleb_within
next_group more n negative is = rw is refl

only_group : (n : ℕ) (negative : Bool) → sleb_within 0 n negative ≡ n % 128 ∷ []
unfolding sleb_within
only_group n negative = refl

large : (k : ℕ) → 64 ≤ 128 ^ suc k
large zero = omega arith
large (suc k) = omega (arith, large k, pow-suc 128 (suc k))

-- what a number may be is at least 64
pub bound_large : (bound counter : ℕ) → counter < 4 → bound ≡ 128 ^ (5 - counter) → 64 ≤ bound
bound_large bound counter below is =
    let power : 5 - counter ≡ suc (4 - counter) = omega (arith, below) in omega (arith, is, ap (λ (k : ℕ). 128 ^ k) power, large (4 - counter))

-- one group less may be left
pub bound_next : (bound counter : ℕ) → counter < 4 → bound ≡ 128 ^ (5 - counter) → bound / 128 ≡ 128 ^ (5 - (counter + 1))
bound_next bound counter below is =
    let power : 5 - counter ≡ suc (5 - (counter + 1)) = omega (arith, below) in
    omega (arith, is, ap (λ (k : ℕ). 128 ^ k) power, pow-suc 128 (5 - (counter + 1)))

bound_of : (negative : Bool) (rest bound counter : ℕ) (b : Bool) → counter < 4 → bound ≡ 128 ^ (5 - counter) → is_last negative rest bound ≡ b → is_last negative rest (128 ^ (3 - counter + 2)) ≡ b
bound_of negative rest bound counter b below bounded is =
    let power : 3 - counter + 2 ≡ 5 - counter = omega (arith, below) in
    ap (λ (k : ℕ). is_last negative rest k) (ap (λ (k : ℕ). 128 ^ k) power ∙ sym bounded) ∙ is

pub sleb_last : (bytes : List ℕ) (rest bound counter : ℕ) (negative : Bool) (whole : List ℕ) → counter < 4 → bytes ++ sleb_within (4 - counter) rest negative ≡ whole → bound ≡ 128 ^ (5 - counter) →
    is_last negative rest bound ≡ true → bytes ++ rest % 128 ∷ [] ≡ whole
sleb_last bytes rest bound counter negative whole below shows bounded is =
    let more : 4 - counter ≡ suc (3 - counter) = omega (arith, below) in
    ap (λ (l : List ℕ). bytes ++ l) (sym (last_group (3 - counter) rest negative (bound_of negative rest bound counter true below bounded is)))
    ∙ ap (λ (k : ℕ). bytes ++ sleb_within k rest negative) (sym more) ∙ shows

pub sleb_more : (bytes new : List ℕ) (rest bound counter : ℕ) (negative : Bool) (whole : List ℕ) → counter < 4 → bytes ++ sleb_within (4 - counter) rest negative ≡ whole → bound ≡ 128 ^ (5 - counter) →
    is_last negative rest bound ≡ false → new ≡ bytes ++ (128 + rest % 128) ∷ [] → new ++ sleb_within (4 - (counter + 1)) (rest / 128) negative ≡ whole
sleb_more bytes new rest bound counter negative whole below shows bounded is put =
    let more : 4 - counter ≡ suc (3 - counter) = omega (arith, below) in
    let less : 4 - (counter + 1) ≡ 3 - counter = omega (arith, below) in
    let group : List ℕ = (128 + rest % 128) ∷ [] in
    ap (λ (l : List ℕ). l ++ sleb_within (4 - (counter + 1)) (rest / 128) negative) put
    ∙ ap (λ (k : ℕ). (bytes ++ group) ++ sleb_within k (rest / 128) negative) less ∙ append_assoc bytes group (sleb_within (3 - counter) (rest / 128) negative)
    ∙ ap (λ (l : List ℕ). bytes ++ l) (sym (next_group (3 - counter) rest negative (bound_of negative rest bound counter false below bounded is)))
    ∙ ap (λ (k : ℕ). bytes ++ sleb_within k rest negative) (sym more) ∙ shows

pub sleb_end : (bytes : List ℕ) (rest counter : ℕ) (negative : Bool) (whole : List ℕ) → 4 ≤ counter → bytes ++ sleb_within (4 - counter) rest negative ≡ whole → bytes ++ rest % 128 ∷ [] ≡ whole
sleb_end bytes rest counter negative whole past shows =
    let none : 0 ≡ 4 - counter = omega (arith, past) in
    ap (λ (l : List ℕ). bytes ++ l) (sym (only_group rest negative)) ∙ ap (λ (k : ℕ). bytes ++ sleb_within k rest negative) none ∙ shows
