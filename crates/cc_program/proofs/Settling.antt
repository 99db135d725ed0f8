-- Layouts that come to stand, from the top down.
use Rattle.std.proofs.Common.{◌≡◌, ◌≢◌, ◌⊎◌, inl, inr, ℕ, suc, ◌+◌, ◌<◌, ◌≤◌, List, [], ◌∷◌, ◌++◌, length, set, Option, Some, None, refl, sym, ap, ◌∙◌, subst, arith}
use Rattle.std.specs.Prelude.{slice_get}
use Rattle.std.proofs.lemmas.List.{get_or-set_other, get_or-set_same, length-set, length-append}
use Rattle.std.proofs.lemmas.Option.{slice_get_within, slice_get-get_or, slice_get_past}
use Rattle.cc_meaning_program.specs.declared.outline.Outline.{Outline}
use Rattle.cc_program.specs.Layouts.{superclass_at, IsLayout, Stands, AreRight, LeadsUp, BeginsWith}
use Rattle.cc_program.proofs.Climbing.{at_cases, at_old, at_new}

-- ---- one layout

pub laid_out : (outlines : List Outline) (own : List (List ℕ)) (layouts : List (Option (List ℕ))) (class : ℕ) (inherited fields new : List ℕ) → AreRight outlines own layouts → (superclass_at outlines class ≡ None → inherited ≡ []) →
    ((above : ℕ) → superclass_at outlines class ≡ Some above → slice_get layouts above ≡ Some (Some inherited)) → slice_get own class ≡ Some fields → new ≡ inherited ++ fields → IsLayout outlines own class new
laid_out outlines own layouts class inherited fields new right top below there is = subst (IsLayout outlines own class) (sym is) (from (superclass_at outlines class) refl)
  where
    from : (up : Option ℕ) → superclass_at outlines class ≡ up → IsLayout outlines own class (inherited ++ fields)
    from None e = subst (λ xs. IsLayout outlines own class (xs ++ fields)) (sym (top e)) (IsLayout.top e there)
    from (Some above) e = IsLayout.under e (right.each above inherited (below above e)) there

-- ---- a place that is written

pub get_set_same : {A : Type 0} (xs : List A) (i : ℕ) (x : A) → i < length xs → slice_get (set xs i x) i ≡ Some x
get_set_same xs i x within = let long = length-set xs i x in slice_get-get_or (set xs i x) i x (omega arith) ∙ ap Some (get_or-set_same xs i x x within)

pub get_set_other : {A : Type 0} (xs : List A) (i j : ℕ) (x : A) → j ≢ i → slice_get (set xs i x) j ≡ slice_get xs j
get_set_other xs i j x apart = from (below j (length xs))
  where
    below : (a b : ℕ) → (a < b) ⊎ (b ≤ a)
    below a b = grind arith

    long : length (set xs i x) ≡ length xs
    long = length-set xs i x

    from : (j < length xs) ⊎ (length xs ≤ j) → slice_get (set xs i x) j ≡ slice_get xs j
    from (inl within) = slice_get-get_or (set xs i x) j x (omega (arith, long, within)) ∙ (ap Some (get_or-set_other xs i j x x apart) ∙ sym (slice_get-get_or xs j x within))
    from (inr past) = slice_get_past (set xs i x) j (omega (arith, long, past)) ∙ sym (slice_get_past xs j past)

same_or_not : (i j : ℕ) → (i ≡ j) ⊎ (i ≢ j)
same_or_not i j = grind arith

-- ---- one that comes to stand

module _ (outlines : List Outline) (own : List (List ℕ)) (layouts new : List (Option (List ℕ))) (path rest : List ℕ) (next : ℕ) (popped : path ≡ rest ++ next ∷ []) where
  last_there : slice_get path (length rest) ≡ Some next
  last_there = ap (λ xs. slice_get xs (length rest)) popped ∙ at_new rest next

  module _ (leads : LeadsUp outlines layouts path) where
    pub next_there : next < length outlines
    next_there = leads.there (length rest) next last_there

    pub above_stands : (above : ℕ) → superclass_at outlines next ≡ Some above → Stands layouts above
    above_stands above up = from (leads.onward (length rest) next above last_there up)
      where
        from : (slice_get path (suc (length rest)) ≡ Some above) ⊎ Stands layouts above → Stands layouts above
        from (inl past) =
            let within : suc (length rest) < length path = slice_get_within path (suc (length rest)) above past in
            let long : length path ≡ length rest + 1 = ap length popped ∙ length-append rest (next ∷ []) in
            absurd (omega (arith, within, long))
        from (inr stands) = stands

    module _ (fields : List ℕ) (right : AreRight outlines own layouts) (is : IsLayout outlines own next fields) (put : new ≡ set layouts next (Some fields)) where
      within : next < length layouts
      within = let all = right.all in let there = next_there in omega arith

      next_is : slice_get new next ≡ Some (Some fields)
      next_is = ap (λ xs. slice_get xs next) put ∙ get_set_same layouts next (Some fields) within

      next_stands : Stands new next
      next_stands = (fields, next_is)

      pub still_stands : (other : ℕ) → Stands layouts other → Stands new other
      still_stands other (layout, there) = from (same_or_not other next)
        where
          from : (other ≡ next) ⊎ (other ≢ next) → Stands new other
          from (inl same) = subst (Stands new) (sym same) next_stands
          from (inr apart) = (layout, ap (λ xs. slice_get xs other) put ∙ (get_set_other layouts next other (Some fields) apart ∙ there))

      pub still_right : AreRight outlines own new
      still_right = record {
        all = ap length put ∙ (length-set layouts next (Some fields) ∙ right.all);
        each = λ class layout there. each class layout there (same_or_not class next);
      }
        where
          inner : (a b : List ℕ) → Some (Some a) ≡ Some (Some b) → a ≡ b
          inner a b e = cc

          each : (class : ℕ) (layout : List ℕ) → slice_get new class ≡ Some (Some layout) → (class ≡ next) ⊎ (class ≢ next) → IsLayout outlines own class layout
          each class layout there (inl same) =
              let found : fields ≡ layout = inner fields layout (sym next_is ∙ (ap (slice_get new) (sym same) ∙ there)) in
              subst (λ k. IsLayout outlines own k layout) (sym same) (subst (IsLayout outlines own next) found is)
          each class layout there (inr apart) = right.each class layout (sym (get_set_other layouts next class (Some fields) apart) ∙ (ap (λ xs. slice_get xs class) (sym put) ∙ there))

      pub still_leads : LeadsUp outlines new rest
      still_leads = record {
        there = λ place class e. leads.there place class (before place class e);
        onward = λ place class above e up. from place above (leads.onward place class above (before place class e) up);
      }
        where
          before : (place class : ℕ) → slice_get rest place ≡ Some class → slice_get path place ≡ Some class
          before place class e = ap (λ xs. slice_get xs place) popped ∙ at_old rest next class place e

          last : (place above : ℕ) → (slice_get rest (suc place) ≡ Some above) ⊎ ((suc place ≡ length rest) × (above ≡ next)) → (slice_get rest (suc place) ≡ Some above) ⊎ Stands new above
          last place above (inl old) = inl old
          last place above (inr now) = inr (subst (Stands new) (sym now.1) next_stands)

          from : (place above : ℕ) → (slice_get path (suc place) ≡ Some above) ⊎ Stands layouts above → (slice_get rest (suc place) ≡ Some above) ⊎ Stands new above
          from place above (inl on) = last place above (at_cases rest next above (suc place) (ap (λ xs. slice_get xs (suc place)) (sym popped) ∙ on))
          from place above (inr stands) = inr (still_stands above stands)

      pub still_begins : (class : ℕ) → BeginsWith layouts path class → BeginsWith new rest class
      still_begins class begins = from begins
        where
          first : (slice_get rest 0 ≡ Some class) ⊎ ((0 ≡ length rest) × (class ≡ next)) → BeginsWith new rest class
          first (inl old) = inl old
          first (inr now) = inr (subst (Stands new) (sym now.1) next_stands)

          from : BeginsWith layouts path class → BeginsWith new rest class
          from (inl there) = first (at_cases rest next class 0 (ap (λ xs. slice_get xs 0) (sym popped) ∙ there))
          from (inr stands) = inr (still_stands class stands)

-- ---- the classes one by one

pub one_more : (layouts new : List (Option (List ℕ))) (n : ℕ) → ((other : ℕ) → other < n → Stands layouts other) → ((other : ℕ) → Stands layouts other → Stands new other) → Stands new n → (other : ℕ) → other < n + 1 → Stands new other
one_more layouts new n stand kept stands other less = from (cases other n less)
  where
    cases : (a b : ℕ) → a < b + 1 → (a < b) ⊎ (a ≡ b)
    cases a b e = grind arith

    from : (other < n) ⊎ (other ≡ n) → Stands new other
    from (inl below) = kept other (stand other below)
    from (inr same) = subst (Stands new) (sym same) stands
