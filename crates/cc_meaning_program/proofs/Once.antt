-- A named member belongs to one class at most.
use Rattle.std.proofs.Common.{◌≡◌, ℕ, false, List, ◌∷◌, ◌++◌, Some, refl, sym, ap, ◌∙◌, subst}
use Rattle.std.specs.List.{flat_map}
use Rattle.cc_meaning.specs.declared.file.Ids.{Ids}
use Rattle.cc_meaning.specs.declared.file.RawClass.{RawClass}
use Rattle.cc_meaning_program.specs.Ancestry.{is_defined, interfaces_named, Ancestry, Superinterfaces}
use Rattle.cc_meaning_program.specs.Searches.{First, NoneOf, MethodOrder, FieldOrder}
use Rattle.cc_meaning_program.specs.Owners.{IsBeyond, DefinesMethod, DefinesField, Lists, MethodOwner, FieldOwner}
use Rattle.cc_meaning_program.specs.Laws.{OneMethodOwner, OneFieldOwner}

-- ---- the first one

pub first_once : {A : Type 0} {is_so : A → Type 0} (xs : List A) (x y : A) → First is_so xs x → First is_so xs y → x ≡ y
first_once _ x y (First.here so) (First.here also) = refl
first_once _ x y (First.here so) (First.later not rest) = absurd (not so)
first_once _ x y (First.later not rest) (First.here so) = absurd (not so)
first_once _ x y (First.later {x = head} {xs = tail} not rest) (First.later none others) = first_once tail x y rest others

first_is_none : {A : Type 0} {is_so : A → Type 0} (xs : List A) (x : A) → First is_so xs x → NoneOf is_so xs → ⊥
first_is_none _ x (First.here so) none = none.0 so
first_is_none _ x (First.later {xs = tail} not rest) none = first_is_none tail x rest none.1

some_once : {A : Type 0} (x y : A) → Some x ≡ Some y → x ≡ y
some_once x y e = cc

-- ---- orders

pub ancestry_once : (ids : Ids) (name : List ℕ) (these those : List (List ℕ)) → Ancestry ids name these → Ancestry ids name those → these ≡ those
ancestry_once ids name _ _ (Ancestry.top e) (Ancestry.top f) = refl
ancestry_once ids name _ _ (Ancestry.top e) (Ancestry.up f rest) = absurd (cc)
ancestry_once ids name _ _ (Ancestry.up e rest) (Ancestry.top f) = absurd (cc)
ancestry_once ids name _ _ (Ancestry.up {above = a} {rest = r} e rest) (Ancestry.up {above = b} {rest = s} f others) =
    ap (λ tail. name ∷ tail) (ancestry_once ids a r s rest (subst (λ above. Ancestry ids above s) (sym (some_once a b (sym e ∙ f))) others))

interfaces_once : (ids : Ids) (names these those : List (List ℕ)) → Superinterfaces ids names these → Superinterfaces ids names those → these ≡ those
interfaces_once ids _ _ _ Superinterfaces.none Superinterfaces.none = refl
interfaces_once ids _ _ _ (Superinterfaces.next {name = n} {rest = rest} {above = a} {behind = b} up on) (Superinterfaces.next {above = c} {behind = d} above behind) =
    let first = interfaces_once ids (interfaces_named ids n) a c up above in
    let second = interfaces_once ids rest b d on behind in
    ap (λ xs. n ∷ xs ++ b) first ∙ ap (λ ys. n ∷ c ++ ys) second

method_order_once : (ids : Ids) (named : List ℕ) (these those : List (List ℕ)) → MethodOrder ids named these → MethodOrder ids named those → these ≡ those
method_order_once ids named these those a b =
    let classes = ancestry_once ids named a.classes b.classes a.ancestry b.ancestry in
    let interfaces = interfaces_once ids (flat_map (interfaces_named ids) b.classes) a.interfaces b.interfaces (subst (λ up. Superinterfaces ids (flat_map (interfaces_named ids) up) a.interfaces) classes a.above) b.above in
    a.ordered ∙ (ap (λ up. up ++ a.interfaces) classes ∙ (ap (λ up. b.classes ++ up) interfaces ∙ sym b.ordered))

field_order_once : (ids : Ids) (named : List ℕ) (these those : List (List ℕ)) → FieldOrder ids named these → FieldOrder ids named those → these ≡ those
field_order_once ids named _ _ (FieldOrder.top {interfaces = a} e above) (FieldOrder.top {interfaces = b} f up) = ap (λ xs. named ∷ xs) (interfaces_once ids (interfaces_named ids named) a b above up)
field_order_once ids named _ _ (FieldOrder.top e above) (FieldOrder.up f up rest) = absurd (cc)
field_order_once ids named _ _ (FieldOrder.up e above rest) (FieldOrder.top f up) = absurd (cc)
field_order_once ids named _ _ (FieldOrder.up {above = a} {interfaces = these} {rest = r} e above rest) (FieldOrder.up {above = b} {interfaces = those} {rest = s} f up others) =
    let interfaces = interfaces_once ids (interfaces_named ids named) these those above up in
    let behind = field_order_once ids a r s rest (subst (λ top. FieldOrder ids top s) (sym (some_once a b (sym e ∙ f))) others) in
    ap (λ xs. named ∷ xs ++ r) interfaces ∙ ap (λ ys. named ∷ those ++ ys) behind

beyond_once : (ids : Ids) (named this that : List ℕ) → IsBeyond ids named this → IsBeyond ids named that → this ≡ that
beyond_once ids named this that a b =
    first_once b.classes this that (subst (λ classes. First (λ class. is_defined ids class ≡ false) classes this) (ancestry_once ids named a.classes b.classes a.ancestry b.ancestry) a.first) b.first

-- ---- owners

-- where the file has the method, and where it hasn't
method_of_file : (ids : Ids) (classes : List RawClass) (named member : List ℕ) (these those : List (List ℕ)) (owner : List ℕ) →
    MethodOrder ids named these → First (DefinesMethod ids classes member) these owner → MethodOrder ids named those → NoneOf (DefinesMethod ids classes member) those → ⊥
method_of_file ids classes named member these those owner a first b none =
    first_is_none those owner (subst (λ order. First (DefinesMethod ids classes member) order owner) (method_order_once ids named these those a b) first) none

-- what is listed from one class upward is listed from the same one
listed_once : (ids : Ids) (named member this that : List ℕ) (these those : List (List ℕ)) (owner other : List ℕ) → IsBeyond ids named this → IsBeyond ids named that →
    Ancestry ids this these → First (Lists ids this member) these owner → Ancestry ids that those → First (Lists ids that member) those other → owner ≡ other
listed_once ids named member this that these those owner other a b line first above second =
    let same = beyond_once ids named that this b a in
    let order = ancestry_once ids this those these (subst (λ class. Ancestry ids class those) same above) line in
    first_once these owner other first
    (subst (λ (classes : List (List ℕ)). First (Lists ids this member) classes other) order (subst (λ (class : List ℕ). First (Lists ids class member) those other) same second))

listed_or_not : (ids : Ids) (named member this that : List ℕ) (these those : List (List ℕ)) (owner : List ℕ) → IsBeyond ids named this → IsBeyond ids named that →
    Ancestry ids this these → First (Lists ids this member) these owner → Ancestry ids that those → NoneOf (Lists ids that member) those → ⊥
listed_or_not ids named member this that these those owner a b line first above none =
    let same = beyond_once ids named that this b a in
    let order = ancestry_once ids this those these (subst (λ class. Ancestry ids class those) same above) line in
    first_is_none these owner first
    (subst (λ (classes : List (List ℕ)). NoneOf (Lists ids this member) classes) order (subst (λ (class : List ℕ). NoneOf (Lists ids class member) those) same none))

pub one_method_owner : OneMethodOwner
one_method_owner ids classes named member this that (MethodOwner.defined {order = these} a first) (MethodOwner.defined {order = those} b second) =
    first_once those this that (subst (λ order. First (DefinesMethod ids classes member) order this) (method_order_once ids named these those a b) first) second
one_method_owner ids classes named member this that (MethodOwner.defined {order = these} a first) (MethodOwner.listed {order = those} b none beyond line listed) =
    absurd (method_of_file ids classes named member these those this a first b none)
one_method_owner ids classes named member this that (MethodOwner.defined {order = these} a first) (MethodOwner.outside {order = those} b none beyond line listed) =
    absurd (method_of_file ids classes named member these those this a first b none)
one_method_owner ids classes named member this that (MethodOwner.listed {order = those} b none beyond line listed) (MethodOwner.defined {order = these} a first) =
    absurd (method_of_file ids classes named member these those that a first b none)
one_method_owner ids classes named member this that (MethodOwner.listed {order = o} {above = these} {beyond = x} a none beyond line listed) (MethodOwner.listed {order = p} {above = those} {beyond = y} b not out above also) =
    listed_once ids named member x y these those this that beyond out line listed above also
one_method_owner ids classes named member this that (MethodOwner.listed {order = o} {above = these} {beyond = x} a none beyond line listed) (MethodOwner.outside {order = p} {above = those} b not out above unlisted) =
    absurd (listed_or_not ids named member x that these those this beyond out line listed above unlisted)
one_method_owner ids classes named member this that (MethodOwner.outside {order = those} b none beyond line listed) (MethodOwner.defined {order = these} a first) =
    absurd (method_of_file ids classes named member these those that a first b none)
one_method_owner ids classes named member this that (MethodOwner.outside {order = p} {above = those} b not out above unlisted) (MethodOwner.listed {order = o} {above = these} {beyond = x} a none beyond line listed) =
    absurd (listed_or_not ids named member x this these those that beyond out line listed above unlisted)
one_method_owner ids classes named member this that (MethodOwner.outside a none beyond line listed) (MethodOwner.outside b not out above unlisted) = beyond_once ids named this that beyond out

pub one_field_owner : OneFieldOwner
one_field_owner ids classes named member this that (FieldOwner.defined {order = these} a first) (FieldOwner.defined {order = those} b second) =
    first_once those this that (subst (λ order. First (DefinesField ids classes member) order this) (field_order_once ids named these those a b) first) second
one_field_owner ids classes named member this that (FieldOwner.defined {order = these} a first) (FieldOwner.beyond {order = those} b none out) =
    absurd (first_is_none those this (subst (λ order. First (DefinesField ids classes member) order this) (field_order_once ids named these those a b) first) none)
one_field_owner ids classes named member this that (FieldOwner.beyond {order = those} b none out) (FieldOwner.defined {order = these} a first) =
    absurd (first_is_none those that (subst (λ order. First (DefinesField ids classes member) order that) (field_order_once ids named these those a b) first) none)
one_field_owner ids classes named member this that (FieldOwner.beyond a none out) (FieldOwner.beyond b not beyond) = beyond_once ids named this that out beyond
