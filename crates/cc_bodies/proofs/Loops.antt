-- Items that are judged one after another.
use Rattle.std.proofs.Common.{◌≡◌, ℕ, ◌+◌, ◌<◌, ◌≤◌, inl, inr, List, [], ◌∷◌, ◌++◌, length, take, get_or, Some, refl, sym, ap, subst, add-one, arith}
use Rattle.std.specs.Prelude.{slice_get}
use Rattle.std.specs.List.{AllZip}
use Rattle.std.proofs.Math.Seq.{take-suc}
use Rattle.std.proofs.lemmas.Bool.{cases_lt}
use Rattle.std.proofs.lemmas.List.{take_all}
use Rattle.std.proofs.lemmas.Option.{slice_get_read, slice_get_within, get_or_from_slice_get}
use Rattle.cc_meaning.specs.declared.fault.ProgramFault.{ProgramFault}
use Rattle.cc_meaning_program.specs.BodyFaults.{FirstHas, NoneHas}

-- no item before this place has a fault
pub record NoneBefore {A : Type 0} (has : A → ProgramFault → Type 0) (items : List A) (place : ℕ) : Type 0 where
  pub before : (earlier : ℕ) (other : A) (another : ProgramFault) → earlier < place → slice_get items earlier ≡ Some other → ¬ has other another

pub none_yet : {A : Type 0} (has : A → ProgramFault → Type 0) (items : List A) → NoneBefore has items 0
none_yet has items = record { before = λ earlier other another h e f. omega arith }

pub item_there : {A : Type 0} (items : List A) (place : ℕ) (item : A) → place < length items → item ≡ get_or items place item → slice_get items place ≡ Some item
item_there items place item h is = slice_get_read items (length items) place item refl h is

pub none_more : {A : Type 0} (has : A → ProgramFault → Type 0) (items : List A) (place : ℕ) (item : A) → slice_get items place ≡ Some item →
    ((fault : ProgramFault) → ¬ has item fault) → NoneBefore has items place → NoneBefore has items (place + 1)
none_more {A} has items place item there_is none so_far =
    record {
      before = λ earlier other another below there f. elim (cases_lt earlier place) [
        | inl first ↦ so_far.before earlier other another first there f
        | inr last ↦
            let here : earlier ≡ place = omega arith in
            let moved : slice_get items earlier ≡ slice_get items place = ap (slice_get items) here in
            let same : other ≡ item = cc in
            none another (subst (λ (it : A). has it another) same f)
      ];
    }

pub first_here : {A : Type 0} (has : A → ProgramFault → Type 0) (items : List A) (place : ℕ) (item : A) (fault : ProgramFault) → slice_get items place ≡ Some item →
    NoneBefore has items place → has item fault → FirstHas has items fault
first_here has items place item fault there_is so_far f =
    record { place = place; item = item; there = there_is; faulty = f; before = so_far.before }

pub none_has : {A : Type 0} (has : A → ProgramFault → Type 0) (items : List A) (place : ℕ) → length items ≤ place → NoneBefore has items place → NoneHas has items
none_has has items place all so_far = λ earlier item fault there f.
    let within = slice_get_within items earlier item there in
    so_far.before earlier item fault (omega arith) there f

-- ---- what is read of each

push_zip : {A B : Type 0} (is : A → B → Type 0) (xs : List A) (ys : List B) (x : A) (y : B) → AllZip is xs ys → is x y → AllZip is (xs ++ x ∷ []) (ys ++ y ∷ [])
push_zip is [] [] x y all one = (one, tt)
push_zip is [] (z ∷ ys) x y all one = absurd all
push_zip is (w ∷ xs) [] x y all one = absurd all
push_zip is (w ∷ xs) (z ∷ ys) x y all one = (all.0, push_zip is xs ys x y all.1 one)

-- what was read of the items before this place
pub record ReadBefore {A B : Type 0} (is : A → B → Type 0) (items : List A) (place : ℕ) (read : List B) : Type 0 where
  pub each : AllZip is (take place items) read

pub none_read : {A B : Type 0} (is : A → B → Type 0) (items : List A) → ReadBefore is items 0 []
none_read is items = record { each = tt }

pub more_read : {A B : Type 0} (is : A → B → Type 0) (items : List A) (place : ℕ) (item : A) (read : List B) (one : B) → slice_get items place ≡ Some item →
    is item one → ReadBefore is items place read → ReadBefore is items (place + 1) (read ++ one ∷ [])
more_read {A} {B} is items place item read one there_is good so_far =
    let h : place < length items = slice_get_within items place item there_is in
    let here : get_or items place item ≡ item = get_or_from_slice_get items place item item there_is in
    let front : take (place + 1) items ≡ take place items ++ item ∷ [] = rw (add-one, take-suc items place item h) (ap (λ (it : A). take place items ++ it ∷ []) here) in
    record { each = subst (λ (front : List A). AllZip is front (read ++ one ∷ [])) (sym front) (push_zip is (take place items) read item one so_far.each good) }

pub all_read : {A B : Type 0} (is : A → B → Type 0) (items : List A) (place : ℕ) (read : List B) → length items ≤ place → ReadBefore is items place read → AllZip is items read
all_read {A} is items place read all so_far = subst (λ (front : List A). AllZip is front read) (take_all place items all) so_far.each

-- ---- what holds of each

-- of each item before this place
pub record EachBefore {A : Type 0} (is_so : A → Type 0) (items : List A) (place : ℕ) : Type 0 where
  pub each : (earlier : ℕ) (item : A) → earlier < place → slice_get items earlier ≡ Some item → is_so item

pub each_none : {A : Type 0} (is_so : A → Type 0) (items : List A) → EachBefore is_so items 0
each_none is_so items = record { each = λ earlier item h e. absurd (omega arith) }

pub each_more : {A : Type 0} (is_so : A → Type 0) (items : List A) (place : ℕ) (item : A) → slice_get items place ≡ Some item → is_so item → EachBefore is_so items place → EachBefore is_so items (place + 1)
each_more {A} is_so items place item there_is one so_far =
    record {
      each = λ earlier other below there. elim (cases_lt earlier place) [
        | inl first ↦ so_far.each earlier other first there
        | inr last ↦
            let here : earlier ≡ place = omega arith in
            let moved : slice_get items earlier ≡ slice_get items place = ap (slice_get items) here in
            let same : item ≡ other = cc in
            subst is_so same one
      ];
    }

pub each_all : {A : Type 0} (is_so : A → Type 0) (items : List A) (place : ℕ) → length items ≤ place → EachBefore is_so items place → (number : ℕ) (item : A) → slice_get items number ≡ Some item → is_so item
each_all is_so items place all so_far number item there =
    let within = slice_get_within items number item there in
    so_far.each number item (omega arith) there
