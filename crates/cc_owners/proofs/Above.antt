-- Interfaces, each followed by those above it.
use Rattle.std.proofs.Common.{◌≡◌, ◌⊎◌, inl, inr, ℕ, suc, ◌+◌, List, [], ◌∷◌, ◌++◌, length, refl, sym, ap, subst, ◌∙◌, arith}
use Rattle.cc_meaning.specs.declared.file.Ids.{Ids}
use Rattle.cc_meaning_program.specs.Ancestry.{interfaces_named, Superinterfaces, none, next}
use Rattle.cc_meaning_program.specs.Searches.{NoneOf}
use Rattle.cc_owners.proofs.Lists.{Among, Parted, parted, together, length_both, InFirst, InSecond, which, none_in_front, none_behind, not_this}

pub both : (ids : Ids) (xs ys above behind : List (List ℕ)) → Superinterfaces ids xs above → Superinterfaces ids ys behind → Superinterfaces ids (xs ++ ys) (above ++ behind)
both ids _ ys _ behind none others = others
both ids _ ys _ behind (next {name = name} {rest = rest} {above = a} {behind = b} up on) others =
    subst (λ l. Superinterfaces ids (name ∷ rest ++ ys) (name ∷ l)) (sym (together a b behind)) (next up (both ids rest ys b behind on others))

pub once : (ids : Ids) (names these those : List (List ℕ)) → Superinterfaces ids names these → Superinterfaces ids names those → these ≡ those
once ids _ _ _ none none = refl
once ids _ _ _ (next {name = n} {rest = rest} {above = a} {behind = b} up on) (next {above = c} {behind = d} above behind) =
    let front = once ids (interfaces_named ids n) a c up above in
    let back = once ids rest b d on behind in
    ap (λ xs. n ∷ xs ++ b) front ∙ ap (λ ys. n ∷ c ++ ys) back

-- what stands above the first of these, and what behind
pub record Begins (ids : Ids) (name : List ℕ) (rest all : List (List ℕ)) : Type 0 where
  pub above : List (List ℕ)
  pub behind : List (List ℕ)
  pub is : all ≡ name ∷ above ++ behind
  pub up : Superinterfaces ids (interfaces_named ids name) above
  pub on : Superinterfaces ids rest behind

pub begins : (ids : Ids) (name : List ℕ) (rest all : List (List ℕ)) → Superinterfaces ids (name ∷ rest) all → Begins ids name rest all
begins ids _ _ _ (next {name = n} {rest = rest} {above = a} {behind = b} up on) = record { above = a; behind = b; is = refl; up = up; on = on }

-- what stands above one of them follows it
pub record Follows (ids : Ids) (name : List ℕ) (tail : List (List ℕ)) : Type 0 where
  pub above : List (List ℕ)
  pub behind : List (List ℕ)
  pub up : Superinterfaces ids (interfaces_named ids name) above
  pub is : tail ≡ above ++ behind

pub follows : (ids : Ids) (names all before : List (List ℕ)) (name : List ℕ) (tail : List (List ℕ)) → Superinterfaces ids names all → all ≡ before ++ name ∷ tail → Follows ids name tail
follows ids _ _ [] name tail none e = absurd cc
follows ids _ _ (x ∷ before) name tail none e = absurd cc
follows ids _ _ [] name tail (next {name = n} {rest = rest} {above = a} {behind = b} up on) e =
    let head : n ≡ name = cc in
    let rest_is : a ++ b ≡ tail = cc in
    record { above = a; behind = b; up = subst (λ m. Superinterfaces ids (interfaces_named ids m) a) head up; is = sym rest_is }
follows ids _ _ (x ∷ before) name tail (next {name = n} {rest = rest} {above = a} {behind = b} up on) e =
    let rest_is : a ++ b ≡ before ++ name ∷ tail = cc in
    from (λ t split. follows ids (interfaces_named ids n) a before name t up split) (λ start split. follows ids rest b start name tail on split) (which a b before name tail rest_is)
  where
    from : ((t : List (List ℕ)) → a ≡ before ++ name ∷ t → Follows ids name t) → ((start : List (List ℕ)) → b ≡ start ++ name ∷ tail → Follows ids name tail) → InFirst a b before name tail ⊎ InSecond a b before name tail → Follows ids name tail
    from higher later (inl (t, one, two)) =
        let f = higher t one in
        record { above = f.above; behind = f.behind ++ b; up = f.up; is = two ∙ ap (λ l. l ++ b) f.is ∙ together f.above f.behind b }
    from higher later (inr (start, one, two)) = later start one

-- none is above itself
not_above_itself : (ids : Ids) (name : List ℕ) (above before behind : List (List ℕ)) → Superinterfaces ids (interfaces_named ids name) above → above ≡ before ++ name ∷ behind → ⊥
not_above_itself ids name above before behind up e =
    let f = follows ids (interfaces_named ids name) above before name behind up e in
    let same : f.above ≡ above = once ids (interfaces_named ids name) f.above above f.up up in
    let long : length above ≡ length before + suc (length behind) = ap length e ∙ length_both before (name ∷ behind) in
    let tail : length behind ≡ length f.above + length f.behind = ap length f.is ∙ length_both f.above f.behind in
    let whole : length f.above ≡ length above = ap length same in
    omega arith

-- What stands before an interface that is met again has all that is above it. So if none there is so, none above it is.
pub met_again : (ids : Ids) (is_so : List ℕ → Type 0) (names done : List (List ℕ)) (name : List ℕ) (above rest : List (List ℕ)) → Superinterfaces ids names (done ++ (name ∷ (above ++ rest))) →
    Superinterfaces ids (interfaces_named ids name) above → Among done name → NoneOf is_so done → NoneOf is_so (name ∷ above)
met_again ids is_so names done name above rest all up met clear = (not_this is_so done name met clear, from (which above f.behind p.behind name (above ++ rest) (sym reached)))
  where
    tail : List (List ℕ)
    tail = name ∷ (above ++ rest)

    p : Parted done name
    p = parted done name met

    split : done ++ tail ≡ p.before ++ (name ∷ (p.behind ++ tail))
    split = ap (λ l. l ++ tail) p.is ∙ together p.before (name ∷ p.behind) tail

    f : Follows ids name (p.behind ++ tail)
    f = follows ids names (done ++ tail) p.before name (p.behind ++ tail) all split

    reached : p.behind ++ (name ∷ (above ++ rest)) ≡ above ++ f.behind
    reached = f.is ∙ ap (λ l. l ++ f.behind) (once ids (interfaces_named ids name) f.above above f.up up)

    behind_none : NoneOf is_so p.behind
    behind_none = (none_behind is_so p.before (name ∷ p.behind) (subst (NoneOf is_so) p.is clear)).1

    from : InFirst above f.behind p.behind name (above ++ rest) ⊎ InSecond above f.behind p.behind name (above ++ rest) → NoneOf is_so above
    from (inl (t, one, two)) = absurd (not_above_itself ids name above p.behind t up one)
    from (inr (start, one, two)) = none_in_front is_so above start (subst (NoneOf is_so) two behind_none)
