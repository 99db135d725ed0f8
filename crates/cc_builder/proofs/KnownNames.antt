-- Names that are known are known in each part.
use Rattle.std.proofs.Common.{◌≡◌, ℕ, zero, suc, ◌<◌, List, [], ◌∷◌, ◌++◌, length, get_or, sym, subst, arith}
use Rattle.std.specs.Prelude.{map}
use Rattle.std.specs.List.{flat_map}
use Rattle.std.proofs.lemmas.List.Elements.{Contains-append_left, Contains-append_right}
use Rattle.cc_meaning.specs.declared.file.Ids.{Ids}
use Rattle.cc_meaning.specs.declared.listing.RowName.{RowName}
use Rattle.cc_builder.specs.Known.{AreKnown}

pub left : (ids : Ids) (front back : List RowName) → AreKnown ids (front ++ back) → AreKnown ids front
left ids front back known = record { tables = known.tables; each = λ name there. known.each name (Contains-append_left front back name there) }

pub right : (ids : Ids) (front back : List RowName) → AreKnown ids (front ++ back) → AreKnown ids back
right ids front back known = record { tables = known.tables; each = λ name there. known.each name (Contains-append_right front back name there) }

pub first : (ids : Ids) (name : RowName) (names : List RowName) → AreKnown ids (name ∷ names) → AreKnown ids (name ∷ [])
first ids name names known = left ids (name ∷ []) names known

pub rest : (ids : Ids) (name : RowName) (names : List RowName) → AreKnown ids (name ∷ names) → AreKnown ids names
rest ids name names known = right ids (name ∷ []) names known

-- the names of one of many things
pub of_one : {A : Type 0} (ids : Ids) (f : A → List RowName) (xs : List A) (place : ℕ) (x : A) → AreKnown ids (flat_map f xs) → place < length xs → x ≡ get_or xs place x → AreKnown ids (f x)
of_one ids f [] place x known within is = absurd (omega (arith, within))
of_one ids f (y ∷ ys) zero x known within is = subst (λ it. AreKnown ids (f it)) (sym is) (left ids (f y) (flat_map f ys) known)
of_one ids f (y ∷ ys) (suc place) x known within is = of_one ids f ys place x (right ids (f y) (flat_map f ys) known) (omega (arith, within)) is

-- the name of one of many things
pub of_named : {A : Type 0} (ids : Ids) (f : A → RowName) (xs : List A) (place : ℕ) (x : A) → AreKnown ids (map f xs) → place < length xs → x ≡ get_or xs place x → AreKnown ids (f x ∷ [])
of_named ids f [] place x known within is = absurd (omega (arith, within))
of_named ids f (y ∷ ys) zero x known within is = subst (λ it. AreKnown ids (f it ∷ [])) (sym is) (first ids (f y) (map f ys) known)
of_named ids f (y ∷ ys) (suc place) x known within is = of_named ids f ys place x (rest ids (f y) (map f ys) known) (omega (arith, within)) is
