-- The values of fields, field by field.
use Rattle.std.proofs.Common.{◌≡◌, ◌⊎◌, inl, inr, ℕ, suc, ◌+◌, ◌<◌, ◌≤◌, true, false, List, [], ◌∷◌, ◌++◌, length, get_or, take, Option, Some, None, refl, sym, ap, ◌∙◌, subst, arith}
use Rattle.std.specs.Prelude.{slice_get, is_some, Contains}
use Rattle.std.proofs.lemmas.List.{length-append, length-take, get_or-take}
use Rattle.std.proofs.lemmas.Option.{slice_get_within, slice_get-get_or, get_or_from_slice_get}
use Rattle.cc_meaning.specs.declared.program.Field.{Field}
use Rattle.cc_meaning.specs.declared.program.StaticValue.{StaticValue}
use Rattle.cc_meaning.specs.declared.program.StaticValue.TheVariants as value
use Rattle.cc_meaning_program.specs.declared.plan.FieldPlan.{FieldPlan}
use Rattle.cc_meaning_program.specs.declared.plan.FieldSource.{FieldSource}
use Rattle.cc_meaning_program.specs.declared.plan.FieldSource.TheVariants as source
use Rattle.cc_program.specs.Values.{listed_for, listed_at, IsNumbered, Holds, AreHeld}
use Rattle.cc_program.proofs.Climbing.{at_cases}

-- ---- one value

pub unchanged : (texts : List ℕ) (listed : StaticValue) → ((row : ℕ) → listed ≡ value.Text row → ⊥) → IsNumbered texts listed listed
unchanged texts (value.Int number) other = IsNumbered.int
unchanged texts (value.Long number) other = IsNumbered.long
unchanged texts value.Null other = IsNumbered.null
unchanged texts (value.Text row) other = absurd (other row refl)

contained : {A : Type 0} (xs : List A) (place : ℕ) (x : A) → slice_get xs place ≡ Some x → Contains xs x
contained xs place x e = (place, slice_get_within xs place x e, get_or_from_slice_get xs place x x e)

pub listed_contained : (plans : List FieldPlan) (values : List StaticValue) (number : ℕ) (listed : StaticValue) → listed_at plans values number ≡ Some listed → Contains values listed
unfolding listed_at listed_for
listed_contained plans values number listed e = from (slice_get plans number) refl
  where
    at : (place : FieldSource) → listed_for values place ≡ Some listed → Contains values listed
    at (source.File place) is = contained values place listed is
    at source.Out is = absurd (cc)
    at (source.Outside row) is = absurd (cc)

    from : (o : Option FieldPlan) → slice_get plans number ≡ o → Contains values listed
    from None is = absurd (cc)
    from (Some plan) is = at plan.source (cc)

-- ---- the loop

pub record AreHeldTo (fields : List Field) (plans : List FieldPlan) (listed : List StaticValue) (texts own : List ℕ) (i kept : ℕ) (values : List StaticValue) : Type 0 where
  pub long : length values ≡ i
  pub low : kept ≤ i
  pub each : (place number : ℕ) (held : StaticValue) → slice_get own place ≡ Some number → slice_get values place ≡ Some held → Holds fields texts number (listed_at plans listed number) held
  pub all : (place number : ℕ) → slice_get own place ≡ Some number → kept ≤ place → place < i → listed_at plans listed number ≡ None
  pub last : (place number : ℕ) → suc place ≡ kept → slice_get own place ≡ Some number → listed_at plans listed number ≡ None → ⊥

some_is : (x y : ℕ) → Some x ≡ Some y → x ≡ y
some_is x y e = cc

module _ (fields : List Field) (plans : List FieldPlan) (listed : List StaticValue) (texts own : List ℕ) (i kept number : ℕ) (values new : List StaticValue) (found : Option StaticValue) (held : StaticValue) where
  module _ (to : AreHeldTo fields plans listed texts own i kept values) (there : slice_get own i ≡ Some number) (is : found ≡ listed_at plans listed number) (holds : Holds fields texts number found held) (grown : new ≡ values ++ held ∷ []) where
    long_more : length new ≡ i + 1
    long_more = let old = to.long in ap length grown ∙ (length-append values (held ∷ []) ∙ (omega arith))

    each_more : (place other : ℕ) (value : StaticValue) → slice_get own place ≡ Some other → slice_get new place ≡ Some value → Holds fields texts other (listed_at plans listed other) value
    each_more place other value at got = from (at_cases values held value place (ap (λ xs. slice_get xs place) (sym grown) ∙ got))
      where
        from : (slice_get values place ≡ Some value) ⊎ ((place ≡ length values) × (value ≡ held)) → Holds fields texts other (listed_at plans listed other) value
        from (inl old) = to.each place other value at old
        from (inr now) =
            let same : number ≡ other = some_is number other (sym there ∙ (ap (slice_get own) (sym (now.0 ∙ to.long)) ∙ at)) in
            subst (λ k. Holds fields texts k (listed_at plans listed k) value) same (subst (λ l. Holds fields texts number l value) is (subst (Holds fields texts number found) (sym now.1) holds))

    pub held_kept : found ≡ None → AreHeldTo fields plans listed texts own (i + 1) kept new
    held_kept none = record {
      long = long_more;
      low = let low = to.low in omega arith;
      each = each_more;
      all = λ place other at high less. from place other at high (cases place i less);
      last = to.last;
    }
      where
        cases : (a b : ℕ) → a < b + 1 → (a < b) ⊎ (a ≡ b)
        cases a b e = grind arith

        from : (place other : ℕ) → slice_get own place ≡ Some other → kept ≤ place → (place < i) ⊎ (place ≡ i) → listed_at plans listed other ≡ None
        from place other at high (inl below) = to.all place other at high below
        from place other at high (inr same) =
            let one : number ≡ other = some_is number other (sym there ∙ (ap (slice_get own) (sym same) ∙ at)) in
            ap (listed_at plans listed) (sym one) ∙ (sym is ∙ none)

    pub held_more : (count : ℕ) → is_some found ≡ true → count ≡ length new → AreHeldTo fields plans listed texts own (i + 1) count new
    held_more count some counted = record {
      long = long_more;
      low = let long = long_more in omega arith;
      each = each_more;
      all = λ place other at high less. let long = long_more in absurd (omega (arith, high, less, counted, long));
      last = λ place other ends at none.
          let long = long_more in
          let same : place ≡ i = omega arith in
          let one : number ≡ other = some_is number other (sym there ∙ (ap (slice_get own) (sym same) ∙ at)) in
          let nothing : found ≡ None = is ∙ (ap (listed_at plans listed) one ∙ none) in
          absurd (let no : is_some found ≡ false = ap is_some nothing in cc);
    }

get_take : {A : Type 0} (n : ℕ) (xs : List A) (k : ℕ) (x : A) → slice_get (take n xs) k ≡ Some x → slice_get xs k ≡ Some x
get_take n xs k x e =
    let within : k < length (take n xs) = slice_get_within (take n xs) k x e in
    let short : length (take n xs) ≤ length xs = grind (arith, length-take) in
    let low : k < n = grind (arith, length-take) in
    slice_get-get_or xs k x (omega arith) ∙ ap Some (sym (get_or-take n xs k x low) ∙ get_or_from_slice_get (take n xs) k x x e)

pub all_held : (fields : List Field) (plans : List FieldPlan) (listed : List StaticValue) (texts own : List ℕ) (i kept : ℕ) (values new : List StaticValue) → AreHeldTo fields plans listed texts own i kept values → i ≡ length own → new ≡ take kept values →
    AreHeld fields plans listed texts own new
all_held fields plans listed texts own i kept values new to whole cut = record {
  few = let low = to.low in let long = count in omega arith;
  each = λ place number held at got. to.each place number held at (get_take kept values place held (ap (λ xs. slice_get xs place) (sym cut) ∙ got));
  all = λ place number at high.
      let within = slice_get_within own place number at in
      let long = count in
      to.all place number at (omega arith) (omega arith);
  last = λ place number ends at. to.last place number (ends ∙ count) at;
}
  where
    count : length new ≡ kept
    count = let long = to.long in let low = to.low in ap length cut ∙ grind (arith, length-take)

pub text_numbered : (texts : List ℕ) (listed : StaticValue) (row : ℕ) → listed ≡ value.Text row → row < length texts → IsNumbered texts listed (value.Text (get_or texts row 0))
text_numbered texts listed row is within = subst (λ l. IsNumbered texts l (value.Text (get_or texts row 0))) (sym is) (IsNumbered.text (slice_get-get_or texts row 0 within))

pub not_some : {A : Type 0} (o : Option A) → is_some o ≡ false → o ≡ None
not_some None e = refl
not_some (Some x) e = absurd (cc)
