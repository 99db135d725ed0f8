-- Lists that grow class by class.
use Rattle.std.proofs.Common.{◌≡◌, ◌≢◌, ◌⊎◌, inl, inr, ℕ, ◌+◌, ◌<◌, ◌≤◌, List, [], ◌∷◌, ◌++◌, length, get_or, set, Option, Some, None, refl, sym, ap, ◌∙◌, subst, arith}
use Rattle.std.specs.Prelude.{slice_get}
use Rattle.std.proofs.lemmas.List.{length-append}
use Rattle.std.proofs.lemmas.Option.{slice_get_read}
use Rattle.cc_meaning_program.specs.declared.outline.Outline.{Outline}
use Rattle.cc_program.specs.Layouts.{Stands, IsLayout, AreRight}
use Rattle.cc_program.proofs.Climbing.{at_cases}
use Rattle.cc_program.proofs.Settling.{get_set_other}

pub there_at : {A : Type 0} (xs : List A) (n m : ℕ) (x : A) → m ≡ n → n < length xs → x ≡ get_or xs n x → slice_get xs m ≡ Some x
there_at xs n m x same within is = ap (slice_get xs) same ∙ slice_get_read xs (length xs) n x refl within is

-- what stood at first stands still
pub stands_yet : (first now : List (Option (List ℕ))) (n m : ℕ) → m ≡ n → ((other : ℕ) → n ≤ other → slice_get now other ≡ slice_get first other) → Stands first n → Stands now m
stands_yet first now n m same rest (layout, there) = (layout, ap (slice_get now) same ∙ (rest n (omega arith) ∙ there))

pub taken_right : (outlines : List Outline) (own : List (List ℕ)) (first now : List (Option (List ℕ))) (n m : ℕ) (layout : List ℕ) → m ≡ n → ((other : ℕ) → n ≤ other → slice_get now other ≡ slice_get first other) →
    slice_get now m ≡ Some (Some layout) → AreRight outlines own first → IsLayout outlines own m layout
taken_right outlines own first now n m layout same rest taken right = right.each m layout (sym (rest m (omega arith)) ∙ taken)

pub rest_more : (first now new : List (Option (List ℕ))) (n m more : ℕ) → m ≡ n → more ≡ n + 1 → ((other : ℕ) → n ≤ other → slice_get now other ≡ slice_get first other) → new ≡ set now m None → (other : ℕ) → more ≤ other → slice_get new other ≡ slice_get first other
rest_more first now new n m more same next rest taken other high =
    let apart : other ≢ m = λ e. absurd (omega (arith, e, same, next, high)) in
    ap (λ xs. slice_get xs other) taken ∙ (get_set_other now m other None apart ∙ rest other (omega arith))

pub long_more : {A B : Type 0} (xs new : List A) (x : A) (ys : List B) (y : B) → length xs ≡ length ys → new ≡ xs ++ x ∷ [] → length new ≡ length (ys ++ y ∷ [])
long_more xs new x ys y same grown = ap length grown ∙ (length-append xs (x ∷ []) ∙ (ap (λ k. k + 1) same ∙ sym (length-append ys (y ∷ []))))

pub next_long : {A : Type 0} (ys : List A) (y : A) → length (ys ++ y ∷ []) ≡ length ys + 1
next_long ys y = length-append ys (y ∷ [])

-- what holds of each element holds with one more
pub each_more : {A : Type 0} (Made : ℕ → A → Type 0) (xs new : List A) (x : A) (m : ℕ) → m ≡ length xs → new ≡ xs ++ x ∷ [] → ((n : ℕ) (y : A) → slice_get xs n ≡ Some y → Made n y) → Made m x → (n : ℕ) (y : A) → slice_get new n ≡ Some y → Made n y
each_more Made xs new x m long grown made last n y e = from (at_cases xs x y n (ap (λ zs. slice_get zs n) (sym grown) ∙ e))
  where
    from : (slice_get xs n ≡ Some y) ⊎ ((n ≡ length xs) × (y ≡ x)) → Made n y
    from (inl old) = made n y old
    from (inr now) = subst (λ z. Made n z) (sym now.1) (subst (λ k. Made k x) (long ∙ sym now.0) last)
