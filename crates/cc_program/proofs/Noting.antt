-- The methods that classes begin with, method by method.
use Rattle.std.proofs.Common.{◌≡◌, ◌≢◌, ◌⊎◌, inl, inr, ℕ, ◌+◌, ◌<◌, ◌≤◌, List, [], ◌∷◌, ◌++◌, length, get_or, set, take, replicate, Option, Some, None, sym, ap, ◌∙◌, subst, arith}
use Rattle.std.specs.Prelude.{slice_get}
use Rattle.std.proofs.lemmas.Grind.{take_at_read}
use Rattle.std.proofs.lemmas.List.{length-replicate, get_or-replicate, length-set, length-take}
use Rattle.std.proofs.lemmas.Option.{slice_get_within, get_or_from_slice_get}
use Rattle.cc_meaning.specs.declared.program.Method.{Method}
use Rattle.cc_program.specs.Initialisers.{Begins, IsInitialiser, AreInitialisers}
use Rattle.cc_program.proofs.Climbing.{at_cases, at_old, at_new}
use Rattle.cc_program.proofs.Settling.{get_set_same, get_set_other}

pub none_begins : (count : ℕ) → AreInitialisers [] count (replicate count None)
none_begins count = record {
  all = length-replicate count None;
  are = λ class number e. absurd (let no : None ≡ Some number = sym (get_or-replicate count class None None (subst (λ k. class < k) (length-replicate count None) (slice_get_within none class (Some number) e))) ∙ get_or_from_slice_get none class (Some number) None e in cc);
  none = λ class e number is. absurd (let no : None ≡ Some is.method = is.there in cc);
}
  where
    none : List (Option ℕ)
    none = replicate count None

some_is : {A : Type 0} (x y : A) → Some x ≡ Some y → x ≡ y
some_is x y e = cc

same_or_not : (i j : ℕ) → (i ≡ j) ⊎ (i ≢ j)
same_or_not i j = grind arith

module _ (methods : List Method) (method : Method) (count : ℕ) (found new : List (Option ℕ)) (are : AreInitialisers methods count found) where
  -- one of those before is one of all
  older : (class number : ℕ) → IsInitialiser methods class number → IsInitialiser (methods ++ method ∷ []) class number
  older class number is = record { method = is.method; there = at_old methods method is.method number is.there; of_class = is.of_class; begins = is.begins }

  -- one of all is one of those before, or the last
  cases : (class number : ℕ) → IsInitialiser (methods ++ method ∷ []) class number → IsInitialiser methods class number ⊎ ((number ≡ length methods) × (method.class ≡ class) × Begins method)
  cases class number is = from (at_cases methods method is.method number is.there)
    where
      from : (slice_get methods number ≡ Some is.method) ⊎ ((number ≡ length methods) × (is.method ≡ method)) → IsInitialiser methods class number ⊎ ((number ≡ length methods) × (method.class ≡ class) × Begins method)
      from (inl old) = inl (record { method = is.method; there = old; of_class = is.of_class; begins = is.begins })
      from (inr now) = inr (now.0, subst (λ (m : Method). m.class ≡ class) now.1 is.of_class, subst Begins now.1 is.begins)

  pub begun_kept : (Begins method → method.class < length found → ⊥) → AreInitialisers (methods ++ method ∷ []) count found
  begun_kept not = record {
    all = are.all;
    are = λ class number e. older class number (are.are class number e);
    none = λ class e number is. from class e number (cases class number is);
  }
    where
      from : (class : ℕ) → slice_get found class ≡ Some None → (number : ℕ) → IsInitialiser methods class number ⊎ ((number ≡ length methods) × (method.class ≡ class) × Begins method) → ⊥
      from class e number (inl old) = are.none class e number old
      from class e number (inr (last, same, begins)) = not begins (subst (λ k. k < length found) (sym same) (slice_get_within found class None e))

  pub begun_more : Begins method → method.class < length found → new ≡ set found method.class (Some (length methods)) → AreInitialisers (methods ++ method ∷ []) count new
  begun_more begins within put = record {
    all = ap length put ∙ (length-set found method.class (Some (length methods)) ∙ are.all);
    are = λ class number e. made class number e (same_or_not class method.class);
    none = λ class e. unmade class e (same_or_not class method.class);
  }
    where
      at_same : slice_get new method.class ≡ Some (Some (length methods))
      at_same = ap (λ xs. slice_get xs method.class) put ∙ get_set_same found method.class (Some (length methods)) within

      at_other : (class : ℕ) → class ≢ method.class → slice_get new class ≡ slice_get found class
      at_other class apart = ap (λ xs. slice_get xs class) put ∙ get_set_other found method.class class (Some (length methods)) apart

      made : (class number : ℕ) → slice_get new class ≡ Some (Some number) → (class ≡ method.class) ⊎ (class ≢ method.class) → IsInitialiser (methods ++ method ∷ []) class number
      made class number e (inl same) =
          let is : length methods ≡ number = some_is (length methods) number (some_is (Some (length methods)) (Some number) (sym at_same ∙ (ap (slice_get new) (sym same) ∙ e))) in
          record { method = method; there = ap (slice_get (methods ++ method ∷ [])) (sym is) ∙ at_new methods method; of_class = sym same; begins = begins }
      made class number e (inr apart) = older class number (are.are class number (sym (at_other class apart) ∙ e))

      unmade : (class : ℕ) → slice_get new class ≡ Some None → (class ≡ method.class) ⊎ (class ≢ method.class) → (number : ℕ) → ¬ IsInitialiser (methods ++ method ∷ []) class number
      unmade class e (inl same) number is = absurd (let no : Some (length methods) ≡ None = some_is (Some (length methods)) None (sym at_same ∙ (ap (slice_get new) (sym same) ∙ e)) in cc)
      unmade class e (inr apart) number is = from (cases class number is)
        where
          from : IsInitialiser methods class number ⊎ ((number ≡ length methods) × (method.class ≡ class) × Begins method) → ⊥
          from (inl old) = are.none class (sym (at_other class apart) ∙ e) number old
          from (inr (last, same, also)) = apart (sym same)

-- ---- the loop

module _ (methods : List Method) (i : ℕ) (method : Method) (count : ℕ) (found new : List (Option ℕ)) (are : AreInitialisers (take i methods) count found) (within : i < length methods) (is : method ≡ get_or methods i method) where
  taken : take (i + 1) methods ≡ take i methods ++ method ∷ []
  taken = (take_at_read methods i method within).1 ∙ ap (λ x. take i methods ++ x ∷ []) (sym is)

  long : length (take i methods) ≡ i
  long = grind (arith, length-take)

  pub skipped : ¬ Begins method → AreInitialisers (take (i + 1) methods) count found
  skipped not = subst (λ ms. AreInitialisers ms count found) (sym taken) (begun_kept (take i methods) method count found new are (λ begins there. not begins))

  pub noted : Begins method → (method.class < length found → new ≡ set found method.class (Some i)) → (length found ≤ method.class → new ≡ found) → AreInitialisers (take (i + 1) methods) count new
  noted begins put past = subst (λ ms. AreInitialisers ms count new) (sym taken) (from (cases_at method.class (length found)))
    where
      cases_at : (a b : ℕ) → (a < b) ⊎ (b ≤ a)
      cases_at a b = grind arith

      from : (method.class < length found) ⊎ (length found ≤ method.class) → AreInitialisers (take i methods ++ method ∷ []) count new
      from (inl there) = begun_more (take i methods) method count found new are begins there (put there ∙ ap (λ k. set found method.class (Some k)) (sym long))
      from (inr far) = subst (AreInitialisers (take i methods ++ method ∷ []) count) (sym (past far)) (begun_kept (take i methods) method count found new are (λ also there. absurd (omega (arith, there, far))))
