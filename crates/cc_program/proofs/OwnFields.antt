-- The own fields of classes, field by field.
use Rattle.std.proofs.Common.{◌≡◌, ◌≢◌, ◌⊎◌, inl, inr, ℕ, suc, ◌+◌, ◌<◌, ◌≤◌, Bool, true, false, eqb, ◌&&◌, cond, List, [], ◌∷◌, ◌++◌, length, get_or, set, replicate, take, Option, Some, refl, sym, ap, ◌∙◌, subst, arith}
use Rattle.std.specs.Bool.{beq}
use Rattle.std.specs.Prelude.{slice_get}
use Rattle.std.proofs.lemmas.Bool.Decides.{nat_tests}
use Rattle.std.proofs.lemmas.Grind.{take_at_read}
use Rattle.std.proofs.lemmas.List.{length-replicate, get_or-replicate, get_or-set_other, get_or-set_same, length-set, append-nil, length-take}
use Rattle.std.proofs.lemmas.Option.{slice_get_within, slice_get-get_or, get_or_from_slice_get}
use Rattle.cc_meaning.specs.declared.program.Field.{Field}
use Rattle.cc_meaning_program.specs.Programs.{fields_from, is_number, same_truth}
use Rattle.cc_program.specs.Layouts.{own_fields, AreOwnFields}

-- ---- the fields of one class

from_more : (n : ℕ) (class : Option ℕ) (s : Bool) (xs : List Field) (f : Field) → fields_from n class s (xs ++ f ∷ []) ≡ fields_from n class s xs ++ fields_from (n + length xs) class s (f ∷ [])
unfolding fields_from
from_more n class s [] f = ap (λ k. fields_from k class s (f ∷ [])) (let e : n ≡ n + 0 = omega arith in e)
from_more n class s (x ∷ xs) f = from (is_number class x.class && same_truth x.is_static s) (from_more (suc n) class s xs f ∙ ap (λ k. fields_from (suc n) class s xs ++ fields_from k class s (f ∷ [])) (omega arith))
  where
    from : (b : Bool) → fields_from (suc n) class s (xs ++ f ∷ []) ≡ fields_from (suc n) class s xs ++ fields_from (n + length (x ∷ xs)) class s (f ∷ []) →
        cond b (n ∷ fields_from (suc n) class s (xs ++ f ∷ [])) (fields_from (suc n) class s (xs ++ f ∷ [])) ≡ cond b (n ∷ fields_from (suc n) class s xs) (fields_from (suc n) class s xs) ++ fields_from (n + length (x ∷ xs)) class s (f ∷ [])
    from true tail = ap (λ ys. n ∷ ys) tail
    from false tail = tail

one_own : (n class : ℕ) (s : Bool) (f : Field) → f.class ≡ class → f.is_static ≡ s → fields_from n (Some class) s (f ∷ []) ≡ n ∷ []
unfolding fields_from is_number same_truth
one_own n class s f same truth =
    let here : eqb class f.class ≡ true = grind (arith, nat_tests) in
    rw here (ap (λ b. cond b (n ∷ []) []) (truths f.is_static s truth))
  where
    truths : (a b : Bool) → a ≡ b → same_truth a b ≡ true
    truths true true e = refl
    truths true false e = absurd (cc)
    truths false true e = absurd (cc)
    truths false false e = refl

one_elsewhere : (n class : ℕ) (s : Bool) (f : Field) → f.class ≢ class → fields_from n (Some class) s (f ∷ []) ≡ []
unfolding fields_from is_number
one_elsewhere n class s f other =
    let here : eqb class f.class ≡ false = grind (arith, nat_tests) in
    rw here refl

one_other : (n class : ℕ) (s : Bool) (f : Field) → f.is_static ≢ s → fields_from n (Some class) s (f ∷ []) ≡ []
unfolding fields_from is_number same_truth
one_other n class s f other = from (eqb class f.class) (truths f.is_static s other)
  where
    from : (b : Bool) → same_truth f.is_static s ≡ false → cond (b && same_truth f.is_static s) (n ∷ []) [] ≡ []
    from true e = ap (λ b. cond b (n ∷ []) []) e
    from false e = refl

    truths : (a b : Bool) → a ≢ b → same_truth a b ≡ false
    truths true true e = absurd (e refl)
    truths true false e = refl
    truths false true e = refl
    truths false false e = absurd (e refl)

own_more : (s : Bool) (xs : List Field) (f : Field) (class : ℕ) (step : List ℕ) → fields_from (length xs) (Some class) s (f ∷ []) ≡ step → own_fields s (xs ++ f ∷ []) class ≡ own_fields s xs class ++ step
unfolding own_fields
own_more s xs f class step is = from_more 0 (Some class) s xs f ∙ ap (λ ys. fields_from 0 (Some class) s xs ++ ys) (ap (λ k. fields_from k (Some class) s (f ∷ [])) (omega arith) ∙ is)

own_same : (s : Bool) (xs : List Field) (f : Field) (class : ℕ) → fields_from (length xs) (Some class) s (f ∷ []) ≡ [] → own_fields s (xs ++ f ∷ []) class ≡ own_fields s xs class
own_same s xs f class none = own_more s xs f class [] none ∙ append-nil (own_fields s xs class)

-- ---- those of all classes

pub own_none : (s : Bool) (count : ℕ) → AreOwnFields s [] count (replicate count [])
unfolding own_fields fields_from
own_none s count = record {
  all = length-replicate count [];
  each = λ class listed is. sym (get_or_from_slice_get none class listed [] is) ∙ get_or-replicate count class [] [] (subst (λ k. class < k) (length-replicate count []) (slice_get_within none class listed is));
}
  where
    none : List (List ℕ)
    none = replicate count []

-- a field that isn't of the sort
own_skipped : (s : Bool) (xs : List Field) (f : Field) (count : ℕ) (own : List (List ℕ)) → AreOwnFields s xs count own → f.is_static ≢ s → AreOwnFields s (xs ++ f ∷ []) count own
own_skipped s xs f count own are other = record {
  all = are.all;
  each = λ class listed is. are.each class listed is ∙ sym (own_same s xs f class (one_other (length xs) class s f other));
}

-- one of no class that is there
own_past : (s : Bool) (xs : List Field) (f : Field) (count : ℕ) (own : List (List ℕ)) → AreOwnFields s xs count own → length own ≤ f.class → AreOwnFields s (xs ++ f ∷ []) count own
own_past s xs f count own are past = record {
  all = are.all;
  each = λ class listed is.
      let within = slice_get_within own class listed is in
      let apart : f.class ≢ class = λ e. absurd (omega (arith, e, within, past)) in
      are.each class listed is ∙ sym (own_same s xs f class (one_elsewhere (length xs) class s f apart));
}

same_or_not : (i j : ℕ) → (i ≡ j) ⊎ (i ≢ j)
same_or_not i j = grind arith

-- one that is added to those of its class
own_added : (s : Bool) (xs : List Field) (f : Field) (count : ℕ) (own new : List (List ℕ)) (listed : List ℕ) → AreOwnFields s xs count own → f.is_static ≡ s → slice_get own f.class ≡ Some listed →
    new ≡ set own f.class (listed ++ length xs ∷ []) → AreOwnFields s (xs ++ f ∷ []) count new
own_added s xs f count own new listed are truth there is = record {
  all = ap length is ∙ (length-set own f.class (listed ++ length xs ∷ []) ∙ are.all);
  each = λ class found got. at class found got (same_or_not f.class class);
}
  where
    changed : List (List ℕ)
    changed = set own f.class (listed ++ length xs ∷ [])

    at : (class : ℕ) (found : List ℕ) → slice_get new class ≡ Some found → (f.class ≡ class) ⊎ (f.class ≢ class) → found ≡ own_fields s (xs ++ f ∷ []) class
    at class found got (inl same) =
        let within = slice_get_within own f.class listed there in
        let read : get_or changed class [] ≡ found = get_or_from_slice_get changed class found [] (subst (λ ys. slice_get ys class ≡ Some found) is got) in
        let put : get_or changed class [] ≡ listed ++ length xs ∷ [] = subst (λ k. get_or changed k [] ≡ listed ++ length xs ∷ []) same (get_or-set_same own f.class (listed ++ length xs ∷ []) [] within) in
        let was : listed ≡ own_fields s xs class = subst (λ k. listed ≡ own_fields s xs k) same (are.each f.class listed there) in
        sym read ∙ (put ∙ (ap (λ ys. ys ++ length xs ∷ []) was ∙ sym (own_more s xs f class (length xs ∷ []) (one_own (length xs) class s f same truth))))
    at class found got (inr apart) =
        let within = slice_get_within new class found got in
        let long : length new ≡ length own = ap length is ∙ length-set own f.class (listed ++ length xs ∷ []) in
        let read : get_or changed class [] ≡ found = get_or_from_slice_get changed class found [] (subst (λ ys. slice_get ys class ≡ Some found) is got) in
        let kept : get_or changed class [] ≡ get_or own class [] = get_or-set_other own f.class class (listed ++ length xs ∷ []) [] (λ e. apart (sym e)) in
        let was : slice_get own class ≡ Some found = slice_get-get_or own class [] (omega arith) ∙ ap Some (sym kept ∙ read) in
        are.each class found was ∙ sym (own_same s xs f class (one_elsewhere (length xs) class s f apart))

there_or_past : (own : List (List ℕ)) (class : ℕ) → ((listed : List ℕ) × (slice_get own class ≡ Some listed)) ⊎ (length own ≤ class)
there_or_past own class = from (below class (length own))
  where
    below : (i j : ℕ) → (i < j) ⊎ (j ≤ i)
    below i j = grind arith

    from : (class < length own) ⊎ (length own ≤ class) → ((listed : List ℕ) × (slice_get own class ≡ Some listed)) ⊎ (length own ≤ class)
    from (inl within) = inl (get_or own class [], slice_get-get_or own class [] within)
    from (inr past) = inr past

-- ---- the loop over the fields

pub same_truths : (a b : Bool) → beq a b ≡ true → a ≡ b
same_truths true true e = refl
same_truths true false e = absurd (cc)
same_truths false true e = absurd (cc)
same_truths false false e = refl

pub other_truths : (a b : Bool) → beq a b ≡ false → a ≢ b
other_truths true true e = absurd (cc)
other_truths true false e = λ same. cc
other_truths false true e = λ same. cc
other_truths false false e = absurd (cc)

taken : (fields : List Field) (i : ℕ) (f : Field) → i < length fields → f ≡ get_or fields i f → take (i + 1) fields ≡ take i fields ++ f ∷ []
taken fields i f within is = (take_at_read fields i f within).1 ∙ ap (λ x. take i fields ++ x ∷ []) (sym is)

taken_long : (fields : List Field) (i : ℕ) → i < length fields → length (take i fields) ≡ i
taken_long fields i within = grind (arith, length-take)

pub own_kept : (s : Bool) (fields : List Field) (i : ℕ) (f : Field) (count : ℕ) (own : List (List ℕ)) → AreOwnFields s (take i fields) count own → i < length fields → f ≡ get_or fields i f → f.is_static ≢ s →
    AreOwnFields s (take (i + 1) fields) count own
own_kept s fields i f count own are within is other = subst (λ xs. AreOwnFields s xs count own) (sym (taken fields i f within is)) (own_skipped s (take i fields) f count own are other)

pub own_grown : (s : Bool) (fields : List Field) (i : ℕ) (f : Field) (count : ℕ) (own new : List (List ℕ)) → AreOwnFields s (take i fields) count own → i < length fields → f ≡ get_or fields i f → f.is_static ≡ s →
    ((listed : List ℕ) → slice_get own f.class ≡ Some listed → new ≡ set own f.class (listed ++ i ∷ [])) → (length own ≤ f.class → new ≡ own) → AreOwnFields s (take (i + 1) fields) count new
own_grown s fields i f count own new are within is truth added other = subst (λ xs. AreOwnFields s xs count new) (sym (taken fields i f within is)) (from (there_or_past own f.class))
  where
    from : ((listed : List ℕ) × (slice_get own f.class ≡ Some listed)) ⊎ (length own ≤ f.class) → AreOwnFields s (take i fields ++ f ∷ []) count new
    from (inl (listed, there)) =
        own_added s (take i fields) f count own new listed are truth there (added listed there ∙ ap (λ k. set own f.class (listed ++ k ∷ [])) (sym (taken_long fields i within)))
    from (inr past) = subst (λ ys. AreOwnFields s (take i fields ++ f ∷ []) count ys) (sym (other past)) (own_past s (take i fields) f count own are past)
