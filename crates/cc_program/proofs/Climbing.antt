-- Going up from class to class.
use Rattle.std.proofs.Common.{◌≡◌, ◌⊎◌, inl, inr, ℕ, zero, suc, ◌+◌, ◌-◌, ◌<◌, ◌≤◌, Bool, true, false, eqb, List, [], ◌∷◌, ◌++◌, length, get_or, Option, Some, refl, sym, ap, ◌∙◌, subst, arith}
use Rattle.std.specs.Prelude.{slice_get}
use Rattle.std.specs.List.{list_any}
use Rattle.std.proofs.lemmas.Bool.Decides.{nat_tests}
use Rattle.std.proofs.lemmas.List.{length-append}
use Rattle.std.proofs.lemmas.Map.Keys.{IsDistinct-from_apart}
use Rattle.std.proofs.lemmas.Map.Steps.{length-le_from_distinct_below}
use Rattle.std.proofs.lemmas.Option.{slice_get_within, slice_get-get_or}
use Rattle.cc_meaning_program.specs.declared.outline.Outline.{Outline}
use Rattle.cc_program.specs.Layouts.{superclass_at, Falls, HasHeights, Stands, LeadsUp, BeginsWith}

-- ---- a list that grows by one

pub at_cases : {A : Type 0} (xs : List A) (x y : A) (k : ℕ) → slice_get (xs ++ x ∷ []) k ≡ Some y → (slice_get xs k ≡ Some y) ⊎ ((k ≡ length xs) × (y ≡ x))
at_cases [] x y zero e = inr (refl, cc)
at_cases [] x y (suc k) e = absurd (cc)
at_cases (z ∷ zs) x y zero e = inl e
at_cases (z ∷ zs) x y (suc k) e = elim (at_cases zs x y k e) [ inl old ↦ inl old | inr new ↦ inr (ap suc new.0, new.1) ]

pub at_old : {A : Type 0} (xs : List A) (x y : A) (k : ℕ) → slice_get xs k ≡ Some y → slice_get (xs ++ x ∷ []) k ≡ Some y
at_old [] x y k e = absurd (cc)
at_old (z ∷ zs) x y zero e = e
at_old (z ∷ zs) x y (suc k) e = at_old zs x y k e

pub at_new : {A : Type 0} (xs : List A) (x : A) → slice_get (xs ++ x ∷ []) (length xs) ≡ Some x
at_new [] x = refl
at_new (z ∷ zs) x = at_new zs x

-- ---- the way up

pub record Climbs (outlines : List Outline) (class : ℕ) (path : List ℕ) (next : Option ℕ) : Type 0 where
  pub there : (place other : ℕ) → slice_get path place ≡ Some other → other < length outlines
  pub onward : (place other above : ℕ) → slice_get path place ≡ Some other → superclass_at outlines other ≡ Some above → (slice_get path (suc place) ≡ Some above) ⊎ ((suc place ≡ length path) × (next ≡ Some above))
  pub begins : (slice_get path 0 ≡ Some class) ⊎ ((path ≡ []) × (next ≡ Some class))
  pub next_there : (above : ℕ) → next ≡ Some above → above < length outlines
  pub falls : (height : ℕ → ℕ) → Falls outlines height → (i j x y : ℕ) → i < j → slice_get path i ≡ Some x → slice_get path j ≡ Some y → height y < height x
  pub next_falls : (height : ℕ → ℕ) → Falls outlines height → (i x above : ℕ) → slice_get path i ≡ Some x → next ≡ Some above → height above < height x

pub climbs_first : (outlines : List Outline) (class : ℕ) → class < length outlines → Climbs outlines class [] (Some class)
climbs_first outlines class there = record {
  there = λ place other e. absurd (cc);
  onward = λ place other above e. absurd (cc);
  begins = inr (refl, refl);
  next_there = λ above e. let same : class ≡ above = cc in subst (λ k. k < length outlines) same there;
  falls = λ height falls i j x y less e. absurd (cc);
  next_falls = λ height falls i x above e. absurd (cc);
}

some_is : (x y : ℕ) → Some x ≡ Some y → x ≡ y
some_is x y e = cc

pub climbs_more : (outlines : List Outline) (class : ℕ) (path : List ℕ) (above : ℕ) → HasHeights outlines → Climbs outlines class path (Some above) → Climbs outlines class (path ++ above ∷ []) (superclass_at outlines above)
climbs_more outlines class path above heights climbs = record {
  there = λ place other e. there place other (at_cases path above other place e);
  onward = λ place other top e up. onward place other top (at_cases path above other place e) up;
  begins = begins climbs.begins;
  next_there = λ top e. heights.1.there above top e;
  falls = λ height falls i j x y less first second. lower height falls i j x y less (at_cases path above x i first) (at_cases path above y j second);
  next_falls = λ height falls i x top e up. lowest height falls i x top (at_cases path above x i e) up;
}
  where
    long : suc (length path) ≡ length (path ++ above ∷ [])
    long = let e = length-append path (above ∷ []) in omega arith

    there : (place other : ℕ) → (slice_get path place ≡ Some other) ⊎ ((place ≡ length path) × (other ≡ above)) → other < length outlines
    there place other (inl old) = climbs.there place other old
    there place other (inr new) = subst (λ k. k < length outlines) (sym new.1) (climbs.next_there above refl)

    was : (place top : ℕ) → (slice_get path (suc place) ≡ Some top) ⊎ ((suc place ≡ length path) × (Some above ≡ Some top)) → slice_get (path ++ above ∷ []) (suc place) ≡ Some top
    was place top (inl old) = at_old path above top (suc place) old
    was place top (inr new) = subst (λ k. slice_get (path ++ above ∷ []) k ≡ Some top) (sym new.0) (at_new path above ∙ new.1)

    onward : (place other top : ℕ) → (slice_get path place ≡ Some other) ⊎ ((place ≡ length path) × (other ≡ above)) → superclass_at outlines other ≡ Some top →
        (slice_get (path ++ above ∷ []) (suc place) ≡ Some top) ⊎ ((suc place ≡ length (path ++ above ∷ [])) × (superclass_at outlines above ≡ Some top))
    onward place other top (inl old) up = inl (was place top (climbs.onward place other top old up))
    onward place other top (inr new) up = inr (ap suc new.0 ∙ long, subst (λ k. superclass_at outlines k ≡ Some top) new.1 up)

    begins : (slice_get path 0 ≡ Some class) ⊎ ((path ≡ []) × (Some above ≡ Some class)) → (slice_get (path ++ above ∷ []) 0 ≡ Some class) ⊎ ((path ++ above ∷ [] ≡ []) × (superclass_at outlines above ≡ Some class))
    begins (inl old) = inl (at_old path above class 0 old)
    begins (inr new) = inl (subst (λ xs. slice_get (xs ++ above ∷ []) 0 ≡ Some class) (sym new.0) new.1)

    lower : (height : ℕ → ℕ) → Falls outlines height → (i j x y : ℕ) → i < j → (slice_get path i ≡ Some x) ⊎ ((i ≡ length path) × (x ≡ above)) → (slice_get path j ≡ Some y) ⊎ ((j ≡ length path) × (y ≡ above)) → height y < height x
    lower height falls i j x y less (inl first) (inl second) = climbs.falls height falls i j x y less first second
    lower height falls i j x y less (inl first) (inr second) = subst (λ k. height k < height x) (sym second.1) (climbs.next_falls height falls i x above first refl)
    lower height falls i j x y less (inr first) (inl second) = let within = slice_get_within path j y second in absurd (omega (arith, first.0, less, within))
    lower height falls i j x y less (inr first) (inr second) = absurd (omega (arith, first.0, second.0, less))

    lowest : (height : ℕ → ℕ) → Falls outlines height → (i x top : ℕ) → (slice_get path i ≡ Some x) ⊎ ((i ≡ length path) × (x ≡ above)) → superclass_at outlines above ≡ Some top → height top < height x
    lowest height falls i x top (inl old) up =
        let upper = falls.less above top up in
        let lower = climbs.next_falls height falls i x above old refl in
        omega arith
    lowest height falls i x top (inr new) up = subst (λ k. height top < height k) (sym new.1) (falls.less above top up)

-- ---- it ends

-- numbers of classes, none twice
pub few_steps : (outlines : List Outline) (class : ℕ) (path : List ℕ) (next : Option ℕ) → HasHeights outlines → Climbs outlines class path next → length path ≤ length outlines
few_steps outlines class path next (height, falls) climbs = length-le_from_distinct_below path (length outlines) (IsDistinct-from_apart eqb path apart) below
  where
    apart : (i j d : ℕ) → i < j → j < length path → eqb (get_or path i d) (get_or path j d) ≡ false
    apart i j d less within =
        let lower = climbs.falls height falls i j (get_or path i d) (get_or path j d) less (slice_get-get_or path i d (omega arith)) (slice_get-get_or path j d within) in
        unequal (get_or path i d) (get_or path j d) lower
      where
        unequal : (x y : ℕ) → height y < height x → eqb x y ≡ false
        unequal x y lower = from (eqb x y) refl
          where
            from : (b : Bool) → eqb x y ≡ b → b ≡ false
            from false e = refl
            from true e = let same : x ≡ y = grind (arith, nat_tests) in absurd (let none : height y < height y = subst (λ k. height y < height k) same lower in omega (arith, none))

    found : (xs : List ℕ) (q : ℕ) → list_any (eqb q) xs ≡ true → (place : ℕ) × (slice_get xs place ≡ Some q)
    found [] q e = absurd (cc)
    found (x ∷ xs) q e = from (eqb q x) refl (found xs q)
      where
        from : (b : Bool) → eqb q x ≡ b → (list_any (eqb q) xs ≡ true → (place : ℕ) × (slice_get xs place ≡ Some q)) → (place : ℕ) × (slice_get (x ∷ xs) place ≡ Some q)
        from true is rest = let same : x ≡ q = grind (arith, nat_tests) in (0, ap Some same)
        from false is rest = let tail : list_any (eqb q) xs ≡ true = cc in let at = rest tail in (suc at.0, at.1)

    below : (q : ℕ) → list_any (eqb q) path ≡ true → q < length outlines
    below q held = let at = found path q held in climbs.there at.0 q at.1

-- each step leaves fewer
pub fewer_left : (outlines : List Outline) (class : ℕ) (path new : List ℕ) (above : ℕ) (next : Option ℕ) → new ≡ path ++ above ∷ [] → HasHeights outlines → Climbs outlines class new next → length outlines - length new < length outlines - length path
fewer_left outlines class path new above next grown heights climbs =
    let few = few_steps outlines class new next heights climbs in
    let long : length new ≡ length path + 1 = ap length grown ∙ length-append path (above ∷ []) in
    omega arith

pub climbs_step : (outlines : List Outline) (class : ℕ) (path new : List ℕ) (next up : Option ℕ) (above : ℕ) → HasHeights outlines → Climbs outlines class path next → next ≡ Some above → new ≡ path ++ above ∷ [] → up ≡ superclass_at outlines above →
    Climbs outlines class new up
climbs_step outlines class path new next up above heights climbs is grown found =
    subst (λ o. Climbs outlines class new o) (sym found)
    (subst (λ xs. Climbs outlines class xs (superclass_at outlines above)) (sym grown) (climbs_more outlines class path above heights (subst (λ o. Climbs outlines class path o) is climbs)))

-- ---- at its end

-- what comes next stands, where there is such a class
pub Ends : List (Option (List ℕ)) → Option ℕ → Type 0
Ends layouts next = (above : ℕ) → next ≡ Some above → Stands layouts above

pub leads_up : (outlines : List Outline) (layouts : List (Option (List ℕ))) (class : ℕ) (path : List ℕ) (next : Option ℕ) → Climbs outlines class path next → Ends layouts next → LeadsUp outlines layouts path
unfolding Ends
leads_up outlines layouts class path next climbs ends = record {
  there = climbs.there;
  onward = λ place other above e up. elim (climbs.onward place other above e up) [ inl old ↦ inl old | inr new ↦ inr (ends above new.1) ];
}

pub begins_with : (outlines : List Outline) (layouts : List (Option (List ℕ))) (class : ℕ) (path : List ℕ) (next : Option ℕ) → Climbs outlines class path next → Ends layouts next → BeginsWith layouts path class
unfolding Ends
begins_with outlines layouts class path next climbs ends = elim climbs.begins [ inl old ↦ inl old | inr new ↦ inr (ends class new.1) ]
