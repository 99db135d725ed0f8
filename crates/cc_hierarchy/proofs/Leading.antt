-- Going up by numbers comes to an end where going up by names does.
use Rattle.std.proofs.Common.{◌≡◌, ◌⊎◌, inl, inr, ℕ, suc, ◌<◌, ◌≤◌, List, length, get_or, Option, Some, None, slice_get, refl, sym, ap, subst, arith}
use Rattle.std.specs.Prelude.{option_and_then}
use Rattle.std.proofs.lemmas.Option.{slice_get_cases, slice_get_within}
use Rattle.cc_meaning.specs.declared.file.Ids.{Ids}
use Rattle.cc_meaning_program.specs.Ancestry.{Ancestry, top, up, superclass_named}
use Rattle.cc_meaning_program.specs.Outlines.{AreOutlines, IsNumberOf}
use Rattle.cc_meaning_program.specs.declared.outline.Outline.{Outline}
use Rattle.cc_hierarchy.specs.FromTheTop.{superclass_at, Leads, top as stops, up as goes_up, ClassesLead}

there : {A : Type 0} (xs : List A) (k : ℕ) → k < length xs → (x : A) × (slice_get xs k ≡ Some x)
there {A = A} xs k within = from ((slice_get_cases xs k).1)
  where
    from : ((x : A) × (k < length xs) × (slice_get xs k ≡ Some x) × (get_or xs k x ≡ x)) ⊎ ((length xs ≤ k) × (slice_get xs k ≡ None)) → (x : A) × (slice_get xs k ≡ Some x)
    from (inl (x, inside, is, same)) = (x, is)
    from (inr (past, missing)) = absurd (omega arith)

none_numbered : (names : List (List ℕ)) (number : Option ℕ) → IsNumberOf names None number → number ≡ None
none_numbered names None is = refl
none_numbered names (Some number) is = absurd is

some_numbered : (names : List (List ℕ)) (name : List ℕ) (number : Option ℕ) → IsNumberOf names (Some name) number → (n : ℕ) × (number ≡ Some n) × (slice_get names n ≡ Some name)
some_numbered names name None is = absurd is
some_numbered names name (Some number) is = (number, refl, is)

-- the superclass of the class of a name, by its number
superclass_numbered : (ids : Ids) (names : List (List ℕ)) (outlines : List Outline) → AreOutlines ids names outlines → (number : ℕ) (name : List ℕ) → slice_get names number ≡ Some name →
    (number < length outlines) × IsNumberOf names (superclass_named ids name) (superclass_at outlines number)
unfolding superclass_at
superclass_numbered ids names outlines are number name named =
    let within : number < length outlines = omega (arith, are.all, slice_get_within names number name named) in
    let (outline, is) = there outlines number within in
    (within, subst (IsNumberOf names (superclass_named ids name)) (sym (ap (option_and_then (λ (outline : Outline). outline.superclass)) is)) (are.each number name outline named is).superclass)

leads_up : (ids : Ids) (names : List (List ℕ)) (outlines : List Outline) → AreOutlines ids names outlines → (name : List ℕ) (ancestors : List (List ℕ)) → Ancestry ids name ancestors → (number : ℕ) → slice_get names number ≡ Some name →
    (steps : ℕ) × Leads outlines number steps
leads_up ids names outlines are name ancestors (top is_top) number named =
    let (within, numbered) = superclass_numbered ids names outlines are number name named in
    (0, stops within (none_numbered names (superclass_at outlines number) (subst (λ o. IsNumberOf names o (superclass_at outlines number)) is_top numbered)))
leads_up ids names outlines are name ancestors (up {above = above} {rest = rest} next ancestry) number named =
    let (within, numbered) = superclass_numbered ids names outlines are number name named in
    let (n, is, placed) = some_numbered names above (superclass_at outlines number) (subst (λ o. IsNumberOf names o (superclass_at outlines number)) next numbered) in
    let (steps, on) = leads_up ids names outlines are above rest ancestry n placed in
    (suc steps, goes_up is on)

pub classes_lead : ClassesLead
classes_lead ids names outlines are ancestries class within =
    let (name, named) = there names class (omega (arith, within, are.all)) in
    let (ancestors, ancestry) = ancestries name in
    leads_up ids names outlines are name ancestors ancestry class named
