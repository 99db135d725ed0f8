-- Items that go over into others, one after another.
use Rattle.std.proofs.Common.{◌≡◌, ◌≢◌, ℕ, zero, suc, ◌+◌, ◌<◌, ◌≤◌, inl, inr, List, [], ◌∷◌, ◌++◌, length, take, get_or, set, Some, refl, sym, ap, ◌∙◌, subst, add-one, arith}
use Rattle.std.specs.Prelude.{slice_get}
use Rattle.std.proofs.Math.Seq.{take-suc}
use Rattle.std.proofs.lemmas.Bool.{cases_lt}
use Rattle.std.proofs.lemmas.List.{take_all, length-set}
use Rattle.std.proofs.lemmas.Option.{slice_get_read, slice_get_within, get_or_from_slice_get}
use Rattle.cc_meaning_program.specs.Members.{Pairs}

pub item_there : {A : Type 0} (items : List A) (place : ℕ) (item : A) → place < length items → item ≡ get_or items place item → slice_get items place ≡ Some item
item_there items place item h is = slice_get_read items (length items) place item refl h is

-- ---- into a new list

push_pair : {A B : Type 0} (holds : A → B → Type 0) (xs : List A) (ys : List B) (x : A) (y : B) → Pairs holds xs ys → holds x y → Pairs holds (xs ++ x ∷ []) (ys ++ y ∷ [])
push_pair holds _ _ x y Pairs.none one = Pairs.next one Pairs.none
push_pair holds _ _ x y (Pairs.next {xs = xs} {ys = ys} first rest) one = Pairs.next first (push_pair holds xs ys x y rest one)

-- what was made of the items before this place
pub record PairsBefore {A B : Type 0} (holds : A → B → Type 0) (items : List A) (place : ℕ) (made : List B) : Type 0 where
  pub each : Pairs holds (take place items) made

pub pairs_none : {A B : Type 0} (holds : A → B → Type 0) (items : List A) → PairsBefore holds items 0 []
pairs_none holds items = record { each = Pairs.none }

pub pairs_more : {A B : Type 0} (holds : A → B → Type 0) (items : List A) (place : ℕ) (item : A) (made : List B) (one : B) → slice_get items place ≡ Some item →
    holds item one → PairsBefore holds items place made → PairsBefore holds items (place + 1) (made ++ one ∷ [])
pairs_more {A} {B} holds items place item made one there_is good so_far =
    let h : place < length items = slice_get_within items place item there_is in
    let here : get_or items place item ≡ item = get_or_from_slice_get items place item item there_is in
    let front : take (place + 1) items ≡ take place items ++ item ∷ [] = rw (add-one, take-suc items place item h) (ap (λ (it : A). take place items ++ it ∷ []) here) in
    record { each = subst (λ (front : List A). Pairs holds front (made ++ one ∷ [])) (sym front) (push_pair holds (take place items) made item one so_far.each good) }

pub pairs_all : {A B : Type 0} (holds : A → B → Type 0) (items : List A) (place : ℕ) (made : List B) → length items ≤ place → PairsBefore holds items place made → Pairs holds items made
pairs_all {A} holds items place made all so_far = subst (λ (front : List A). Pairs holds front made) (take_all place items all) so_far.each

-- ---- in place

get_set_here : {A : Type 0} (xs : List A) (place : ℕ) (x : A) → place < length xs → slice_get (set xs place x) place ≡ Some x
get_set_here [] place x h = absurd (omega arith)
get_set_here (y ∷ ys) zero x h = refl
get_set_here (y ∷ ys) (suc place) x h = get_set_here ys place x (omega arith)

get_set_else : {A : Type 0} (xs : List A) (place other : ℕ) (x : A) → other ≢ place → slice_get (set xs place x) other ≡ slice_get xs other
get_set_else [] place other x h = refl
get_set_else (y ∷ ys) zero zero x h = absurd (h refl)
get_set_else (y ∷ ys) zero (suc other) x h = refl
get_set_else (y ∷ ys) (suc place) zero x h = refl
get_set_else (y ∷ ys) (suc place) (suc other) x h = get_set_else ys place other x (λ same. h (ap suc same))

-- the items before this place have gone over into others, and from there on none has
pub record ChangedBefore {A : Type 0} (holds : A → A → Type 0) (before now : List A) (place : ℕ) : Type 0 where
  pub long : length now ≡ length before
  pub changed : (earlier : ℕ) (x y : A) → earlier < place → slice_get before earlier ≡ Some x → slice_get now earlier ≡ Some y → holds x y
  pub rest : (later : ℕ) → place ≤ later → slice_get now later ≡ slice_get before later

pub changed_none : {A : Type 0} (holds : A → A → Type 0) (items : List A) → ChangedBefore holds items items 0
changed_none holds items = record { long = refl; changed = λ earlier x y h e f. absurd (omega arith); rest = λ later h. refl }

pub changed_more : {A : Type 0} (holds : A → A → Type 0) (before now : List A) (place : ℕ) (x y : A) → slice_get now place ≡ Some x → holds x y → ChangedBefore holds before now place →
    ChangedBefore holds before (set now place y) (place + 1)
changed_more {A} holds before now place x y there one so_far =
    let within : place < length now = slice_get_within now place x there in
    record {
      long = length-set now place y ∙ so_far.long;
      changed = λ earlier a b below was is. elim (cases_lt earlier place) [
        | inl first ↦
            let apart : earlier ≢ place = λ same. absurd (omega arith) in
            so_far.changed earlier a b first was (sym (get_set_else now place earlier y apart) ∙ is)
        | inr last ↦
            let here : earlier ≡ place = omega arith in
            let was_there : slice_get before earlier ≡ Some x = sym (so_far.rest earlier (omega arith)) ∙ ap (slice_get now) here ∙ there in
            let is_there : slice_get (set now place y) earlier ≡ Some y = ap (slice_get (set now place y)) here ∙ get_set_here now place y within in
            let first : x ≡ a = cc in
            let second : y ≡ b = cc in
            subst (λ (v : A). holds v b) first (subst (λ (v : A). holds x v) second one)
      ];
      rest = λ later above.
          let apart : later ≢ place = λ same. absurd (omega arith) in
          get_set_else now place later y apart ∙ so_far.rest later (omega arith);
    }

pairs_from_each : {A B : Type 0} (holds : A → B → Type 0) (xs : List A) (ys : List B) → length ys ≡ length xs → ((place : ℕ) (x : A) (y : B) → slice_get xs place ≡ Some x → slice_get ys place ≡ Some y → holds x y) → Pairs holds xs ys
pairs_from_each holds [] [] long each = Pairs.none
pairs_from_each holds [] (y ∷ ys) long each = absurd cc
pairs_from_each holds (x ∷ xs) [] long each = absurd cc
pairs_from_each holds (x ∷ xs) (y ∷ ys) long each = Pairs.next (each 0 x y refl refl) (pairs_from_each holds xs ys (let e : suc (length ys) ≡ suc (length xs) = long in omega arith) (λ place. each (suc place)))

pub changed_all : {A : Type 0} (holds : A → A → Type 0) (before now : List A) (place : ℕ) → length now ≤ place → ChangedBefore holds before now place → Pairs holds before now
changed_all holds before now place all so_far =
    pairs_from_each holds before now so_far.long (λ at x y was is. let within = slice_get_within now at y is in so_far.changed at x y (omega arith) was is)
