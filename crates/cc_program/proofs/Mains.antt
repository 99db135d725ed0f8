-- Main methods of classes, and of a file.
use Rattle.std.proofs.Common.{◌≡◌, ◌⊎◌, inl, inr, ℕ, zero, suc, ◌+◌, ◌<◌, ◌≤◌, Bool, true, false, List, [], ◌∷◌, length, cond, slice_index_or, Option, Some, None, refl, sym, ap, ◌∙◌, subst, arith}
use Rattle.std.specs.Prelude.{slice_get, find}
use Rattle.std.specs.Str.{bytes_eq}
use Rattle.std.proofs.lemmas.Option.{slice_get_within, slice_get-get_or, get_or_from_slice_get}
use Rattle.cc_meaning.specs.declared.file.ClassRow.{ClassRow}
use Rattle.cc_meaning.specs.declared.file.Ids.{Ids}
use Rattle.cc_meaning.specs.declared.file.RawClass.{RawClass}
use Rattle.cc_meaning.specs.declared.file.RawMethod.{RawMethod}
use Rattle.cc_meaning_program.specs.Named.{method_member, type_name}
use Rattle.cc_meaning_program.specs.Programs.{main_member}
use Rattle.cc_program.specs.Mains.{IsRunnable, IsMainAt, IsMainOf, IsWanted, NoMainBefore}

-- none of the methods before this place has the name of a main method
abbrev pub NoneNamedBefore : Ids → List RawMethod → ℕ → Type 0
NoneNamedBefore ids methods end = (place : ℕ) (d : RawMethod) → place < end → bytes_eq (method_member ids (slice_index_or methods place d).row) main_member ≡ false

find_at : {A : Type 0} (test : A → Bool) (xs : List A) (k : ℕ) (d : A) → k < length xs → ((j : ℕ) (e : A) → j < k → test (slice_index_or xs j e) ≡ false) → test (slice_index_or xs k d) ≡ true → find test xs ≡ Some (slice_index_or xs k d)
find_at test [] k d within none here = absurd (omega (arith, within))
find_at test (x ∷ xs) zero d within none here = ap (λ b. cond b (Some x) (find test xs)) here
find_at test (x ∷ xs) (suc k) d within none here =
    ap (λ b. cond b (Some x) (find test xs)) (none 0 d (omega arith)) ∙ find_at test xs k d (omega (arith, within)) (λ j e below. none (suc j) e (omega (arith, below))) here

find_none : {A : Type 0} (test : A → Bool) (xs : List A) → ((j : ℕ) (e : A) → j < length xs → test (slice_index_or xs j e) ≡ false) → find test xs ≡ None
find_none test [] none = refl
find_none test (x ∷ xs) none = ap (λ b. cond b (Some x) (find test xs)) (none 0 x (omega arith)) ∙ find_none test xs (λ j e below. none (suc j) e (omega (arith, below)))

some_same : {A : Type 0} (x y : A) → Some x ≡ Some y → x ≡ y
some_same x y e = cc

-- a method with the name of a main method, and the ones before it without
pub record IsFirstNamed (ids : Ids) (methods : List RawMethod) (place : ℕ) (method : RawMethod) : Type 0 where
  pub within : place < length methods
  pub none : NoneNamedBefore ids methods place
  pub is : method ≡ slice_index_or methods place method
  pub named : bytes_eq (method_member ids method.row) main_member ≡ true

found_first : (ids : Ids) (methods : List RawMethod) (place : ℕ) (method : RawMethod) → IsFirstNamed ids methods place method → find (λ (other : RawMethod). bytes_eq (method_member ids other.row) main_member) methods ≡ Some method
found_first ids methods place method first =
    find_at (λ (other : RawMethod). bytes_eq (method_member ids other.row) main_member) methods place method first.within first.none
    (ap (λ (other : RawMethod). bytes_eq (method_member ids other.row) main_member) (sym first.is) ∙ first.named)
    ∙ ap Some (sym first.is)

module _ (ids : Ids) (class : RawClass) where
  pub is_main : (place : ℕ) (method : RawMethod) → IsFirstNamed ids class.methods place method → IsRunnable method → IsMainAt ids class place
  is_main place method first runs = record {
    raw = method;
    there = slice_get-get_or class.methods place method first.within ∙ ap Some (sym first.is);
    found = found_first ids class.methods place method first;
    runs = runs;
  }

  -- the first of this name is no main method
  pub no_main : (place : ℕ) (method : RawMethod) → IsFirstNamed ids class.methods place method → (IsRunnable method → ⊥) → (other : ℕ) → IsMainAt ids class other → ⊥
  no_main place method first stuck other is = stuck (subst IsRunnable (some_same is.raw method (sym is.found ∙ found_first ids class.methods place method first)) is.runs)

  pub no_named : NoneNamedBefore ids class.methods (length class.methods) → (other : ℕ) → IsMainAt ids class other → ⊥
  no_named none other is =
      let missing = find_none (λ (method : RawMethod). bytes_eq (method_member ids method.row) main_member) class.methods none in
      let e : Some is.raw ≡ None = sym is.found ∙ missing in
      absurd cc

before_or_here : (j place : ℕ) → j < place + 1 → (j < place) ⊎ (j ≡ place)
before_or_here j place h = grind arith

-- a method inside a list stands there whatever it is asked for in its absence
same_inside : {A : Type 0} (xs : List A) (k : ℕ) (d e : A) → k < length xs → slice_index_or xs k d ≡ slice_index_or xs k e
same_inside xs k d e within = some_same _ _ (sym (slice_get-get_or xs k d within) ∙ slice_get-get_or xs k e within)

pub one_more : (ids : Ids) (methods : List RawMethod) (place : ℕ) (method : RawMethod) → place < length methods → NoneNamedBefore ids methods place → method ≡ slice_index_or methods place method → bytes_eq (method_member ids method.row) main_member ≡ false →
    NoneNamedBefore ids methods (place + 1)
one_more ids methods place method within none is other j e below = from (before_or_here j place below)
  where
    from : (j < place) ⊎ (j ≡ place) → bytes_eq (method_member ids (slice_index_or methods j e).row) main_member ≡ false
    from (inl before) = none j e before
    from (inr here) =
        let mine : slice_index_or methods j e ≡ method = ap (λ k. slice_index_or methods k e) here ∙ (same_inside methods place e method within ∙ sym is) in
        ap (λ (m : RawMethod). bytes_eq (method_member ids m.row) main_member) mine ∙ other

-- ---- definitions

module _ (ids : Ids) (classes : List RawClass) (asked : Option (List ℕ)) where
  pub main_there : (number : ℕ) (stated : ClassRow) (class : RawClass) → slice_get ids.classes number ≡ Some stated → slice_get classes number ≡ Some class → IsWanted asked (type_name ids stated.class) → (place : ℕ) → IsMainAt ids class place →
      IsMainOf ids classes asked number place
  main_there number stated class defined there wanted place has = record { stated = stated; defined = defined; class = class; there = there; wanted = wanted; has = has }

  pub none_there : (number : ℕ) (class : RawClass) → slice_get classes number ≡ Some class → ((place : ℕ) → IsMainAt ids class place → ⊥) → (place : ℕ) → IsMainOf ids classes asked number place → ⊥
  none_there number class there none place is = none place (subst (λ c. IsMainAt ids c place) (some_same is.class class (sym is.there ∙ there)) is.has)

  pub one_further : (number : ℕ) → NoMainBefore ids classes asked number → ((place : ℕ) → IsMainOf ids classes asked number place → ⊥) → NoMainBefore ids classes asked (number + 1)
  one_further number none here j place below is = from (before_or_here j number below)
    where
      from : (j < number) ⊎ (j ≡ number) → ⊥
      from (inl before) = none j place before is
      from (inr same) = here place (subst (λ k. IsMainOf ids classes asked k place) same is)

  pub to_the_end : (end count : ℕ) → count ≤ end → NoMainBefore ids classes asked end → NoMainBefore ids classes asked count
  to_the_end end count less none j place below is = none j place (omega (arith, below, less)) is
