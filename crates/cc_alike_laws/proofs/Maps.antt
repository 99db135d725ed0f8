-- Maps that grow, and what corresponds under them.
use Rattle.std.proofs.Common.{◌≡◌, ◌⊎◌, ℕ, zero, suc, ◌<◌, Bool, true, false, cond, List, ◌++◌, length, Option, Some, None, refl, inl, inr, slice_get, slice_set, replicate}
use Rattle.std.specs.Prelude.{nat_lt}
use Rattle.std.proofs.lemmas.Option.{slice_get_within}
use Rattle.cc_meaning.specs.declared.value.Made.{Made}
use Rattle.cc_meaning.specs.declared.value.Object.{Object}
use Rattle.cc_meaning.specs.declared.value.Object.TheVariants as object
use Rattle.cc_meaning.specs.declared.value.Value.{Value}
use Rattle.cc_meaning.specs.Words.{words_of}
use Rattle.cc_meaning_world.specs.World.{Locals}
use Rattle.cc_meaning_world.specs.Sorts.{sort_of}
use Rattle.cc_meaning_world.specs.Changes.{values_set, rebuilt, with_value, put_in, more_units}
use Rattle.cc_meaning_alike.specs.Maps.{Map, link, In, here, there, Extends}
use Rattle.cc_meaning_alike.specs.Worlds.{Each, nil, each, Both, neither, both, AlikeReference, nulls, linked, AlikeValue, ints, longs, refs, AlikeCell, unsets, highs, values, AlikeObject, outs, instances, arrays, texts, builders, constants, BothObjects, two, AlikeMade, AlikeLocals}

pub in_link : {f : Map} {a b c d : ℕ} → In (link a b f) c d → ((c ≡ a) × (d ≡ b)) ⊎ In f c d
in_link here = inl (refl, refl)
in_link (there i) = inr i

pub each_map : {A : Type 0} {R S : A → A → Type 0} {xs ys : List A} → ((x y : A) → R x y → S x y) → Each R xs ys → Each S xs ys
each_map h nil = nil
each_map h (each r rs) = each (h _ _ r) (each_map h rs)

pub both_map : {A : Type 0} {R S : A → A → Type 0} {x y : Option A} → ((x y : A) → R x y → S x y) → Both R x y → Both S x y
both_map h neither = neither
both_map h (both r) = both (h _ _ r)

pub grow_ref : {f g : Map} {o1 o2 : Option ℕ} → Extends f g → AlikeReference f o1 o2 → AlikeReference g o1 o2
grow_ref e nulls = nulls
grow_ref e (linked i) = linked (e _ _ i)

pub grow_value : {f g : Map} {v1 v2 : Value} → Extends f g → AlikeValue f v1 v2 → AlikeValue g v1 v2
grow_value e ints = ints
grow_value e longs = longs
grow_value e (refs r) = refs (grow_ref e r)

pub grow_values : {f g : Map} {vs1 vs2 : List Value} → Extends f g → Each (AlikeValue f) vs1 vs2 → Each (AlikeValue g) vs1 vs2
grow_values e nil = nil
grow_values e (each v vs) = each (grow_value e v) (grow_values e vs)

pub grow_pending : {f g : Map} {v1 v2 : Option Value} → Extends f g → Both (AlikeValue f) v1 v2 → Both (AlikeValue g) v1 v2
grow_pending e neither = neither
grow_pending e (both v) = both (grow_value e v)

grow_cell : {f g : Map} {c1 c2 : _} → Extends f g → AlikeCell f c1 c2 → AlikeCell g c1 c2
grow_cell e unsets = unsets
grow_cell e highs = highs
grow_cell e (values v) = values (grow_value e v)

pub grow_locals : {f g : Map} {l1 l2 : Locals} → Extends f g → AlikeLocals f l1 l2 → AlikeLocals g l1 l2
grow_locals e l = record { cells = each_map (λ x y r. grow_cell e r) l.cells; pending = grow_pending e l.pending }

pub grow_object : {f g : Map} {o1 o2 : Object} → Extends f g → AlikeObject f o1 o2 → AlikeObject g o1 o2
grow_object e outs = outs
grow_object e (instances vs) = instances (grow_values e vs)
grow_object e (arrays vs) = arrays (grow_values e vs)
grow_object e texts = texts
grow_object e builders = builders
grow_object e constants = constants

pub grow_both : {f g : Map} {x1 x2 : Option Object} → Extends f g → BothObjects f x1 x2 → BothObjects g x1 x2
grow_both e (two o) = two (grow_object e o)

pub grow_made : {f g : Map} {ms1 ms2 : List Made} → Extends f g → Each (AlikeMade f) ms1 ms2 → Each (AlikeMade g) ms1 ms2
grow_made e nil = nil
grow_made e (each m ms) = each (record { what = m.what; number = e _ _ m.number }) (grow_made e ms)

first_there : {f : Map} {x1 x2 : Option Object} → BothObjects f x1 x2 → (o : Object) × (x1 ≡ Some o)
first_there (two {o1 = o} r) = (o, refl)

second_there : {f : Map} {x1 x2 : Option Object} → BothObjects f x1 x2 → (o : Object) × (x2 ≡ Some o)
second_there (two {o2 = o} r) = (o, refl)

pub both_within : {f : Map} (xs ys : List Object) (a b : ℕ) → BothObjects f (slice_get xs a) (slice_get ys b) → (a < length xs) × (b < length ys)
both_within xs ys a b h =
    let x = first_there h in
    let y = second_there h in
    (slice_get_within xs a x.0 x.1, slice_get_within ys b y.0 y.1)

-- ---- lists

pub each_get : {A : Type 0} {R : A → A → Type 0} {xs ys : List A} (i : ℕ) → Each R xs ys → Both R (slice_get xs i) (slice_get ys i)
each_get i nil = neither
each_get zero (each r rs) = both r
each_get (suc i) (each r rs) = each_get i rs

pub each_set : {A : Type 0} {R : A → A → Type 0} {xs ys : List A} {x y : A} (i : ℕ) → Each R xs ys → R x y → Each R (slice_set xs i x) (slice_set ys i y)
each_set i nil v = nil
each_set zero (each u us) v = each v us
each_set (suc i) (each u us) v = each u (each_set i us v)

pub each_append : {A : Type 0} {R : A → A → Type 0} {us1 us2 vs1 vs2 : List A} → Each R us1 us2 → Each R vs1 vs2 → Each R (us1 ++ vs1) (us2 ++ vs2)
each_append nil vs = vs
each_append (each u us) vs = each u (each_append us vs)

pub each_same : {A : Type 0} {R : A → A → Type 0} (n : ℕ) (x : A) → R x x → Each R (replicate n x) (replicate n x)
each_same zero x r = nil
each_same (suc n) x r = each r (each_same n x r)

pub same_length : {A : Type 0} {R : A → A → Type 0} {xs ys : List A} → Each R xs ys → length xs ≡ length ys
same_length nil = refl
same_length (each v vs) = rw (same_length vs)

-- ---- what is the same of objects that correspond

pub same_words : {f : Map} {o1 o2 : Object} → AlikeObject f o1 o2 → words_of o1 ≡ words_of o2
same_words outs = refl
same_words (instances vs) = rw (same_length vs)
same_words (arrays vs) = rw (same_length vs)
same_words texts = refl
same_words builders = refl
same_words constants = refl

pub same_sort : {f : Map} {o1 o2 : Object} → AlikeObject f o1 o2 → sort_of o1 ≡ sort_of o2
unfolding sort_of
same_sort outs = refl
same_sort (instances vs) = rw (same_length vs)
same_sort (arrays vs) = rw (same_length vs)
same_sort texts = refl
same_sort builders = refl
same_sort constants = refl

-- ---- writes

set_if : {f : Map} {vs1 vs2 : List Value} {v1 v2 : Value} (i : ℕ) (b : Bool) → Each (AlikeValue f) vs1 vs2 → AlikeValue f v1 v2 → Both (Each (AlikeValue f)) (cond b (Some (slice_set vs1 i v1)) None) (cond b (Some (slice_set vs2 i v2)) None)
set_if i true vs v = both (each_set i vs v)
set_if i false vs v = neither

set_values : {f : Map} {vs1 vs2 : List Value} {v1 v2 : Value} (i : ℕ) → Each (AlikeValue f) vs1 vs2 → AlikeValue f v1 v2 → Both (Each (AlikeValue f)) (values_set vs1 i v1) (values_set vs2 i v2)
unfolding values_set
set_values {vs2 = vs2} i vs v = rw (same_length vs) (set_if i (nat_lt i (length vs2)) vs v)

instance_again : {f : Map} {x1 x2 : Option (List Value)} (class : ℕ) → Both (Each (AlikeValue f)) x1 x2 → Both (AlikeObject f) (rebuilt (object.Instance class) x1) (rebuilt (object.Instance class) x2)
unfolding rebuilt
instance_again class neither = neither
instance_again class (both vs) = both (instances vs)

array_again : {f : Map} {x1 x2 : Option (List Value)} (class : ℕ) → Both (Each (AlikeValue f)) x1 x2 → Both (AlikeObject f) (rebuilt (object.Array class) x1) (rebuilt (object.Array class) x2)
unfolding rebuilt
array_again class neither = neither
array_again class (both vs) = both (arrays vs)

set_member : {f : Map} {o1 o2 : Object} {v1 v2 : Value} (i : ℕ) → AlikeObject f o1 o2 → AlikeValue f v1 v2 → Both (AlikeObject f) (with_value i v1 o1) (with_value i v2 o2)
unfolding with_value
set_member i outs v = neither
set_member i (instances vs) v = instance_again _ (set_values i vs v)
set_member i (arrays vs) v = array_again _ (set_values i vs v)
set_member i texts v = neither
set_member i builders v = neither
set_member i constants v = neither

pub put_both : {f : Map} {x1 x2 : Option Object} {v1 v2 : Value} (i : ℕ) → BothObjects f x1 x2 → AlikeValue f v1 v2 → Both (AlikeObject f) (put_in i v1 x1) (put_in i v2 x2)
unfolding put_in
put_both i (two r) v = set_member i r v

pub more_both : {f : Map} {x1 x2 : Option Object} (more : List ℕ) → BothObjects f x1 x2 → Both (AlikeObject f) (more_units more x1) (more_units more x2)
unfolding more_units
more_both more (two outs) = neither
more_both more (two (instances vs)) = neither
more_both more (two (arrays vs)) = neither
more_both more (two texts) = neither
more_both more (two builders) = both builders
more_both more (two constants) = neither
