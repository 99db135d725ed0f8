-- Sections that grow item by item.
use Rattle.std.proofs.Common.{◌≡◌, ℕ, suc, ◌+◌, ◌<◌, ◌≤◌, List, [], ◌∷◌, ◌++◌, length, take, get_or, Some, refl, sym, ap, subst, ◌∙◌, arith}
use Rattle.std.specs.Prelude.{slice_get}
use Rattle.std.proofs.lemmas.List.{take_more, take_all, length-append, length-take-le}
use Rattle.std.proofs.lemmas.Option.{slice_get_within, get_or_from_slice_get, slice_get-get_or}
use Rattle.cc_meaning.specs.declared.file.ClassRow.{ClassRow}
use Rattle.cc_meaning.specs.declared.file.RawClass.{RawClass}
use Rattle.cc_meaning_dex.specs.Classes.{EachPair}
use Rattle.cc_dex_writer.specs.declared.section.Section.{Section}
use Rattle.cc_dex_writer.specs.Items.{WhereGiven}
use Rattle.cc_dex_writer.specs.Section.{Adds, Grows, IsItem, IsPut, PutStands, end_of}

-- ---- sections

pub grows_not : (section : Section) → Grows section section
grows_not section = record { base = refl; keeps = λ file has. has }

pub grows_twice : (old now next : Section) → Grows old now → Grows now next → Grows old next
grows_twice old now next first second = record { base = second.base ∙ first.base; keeps = λ file has. first.keeps file (second.keeps file has) }

-- what is put behind the section stands at its end
pub put_at : PutStands → (old : Section) (bytes part : List ℕ) (at : ℕ) → bytes ≡ old.bytes ++ part → at ≡ end_of old →
    Adds old (record { base = old.base; bytes = bytes }) (λ file. IsItem file at part)
put_at stands old bytes part at is place =
    let new : Section = record { base = old.base; bytes = bytes } in
    let put : IsPut old new part = ap (λ (all : List ℕ). record { base = old.base; bytes = all }) is in
    subst (λ (n : ℕ). Adds old (record { base = old.base; bytes = bytes }) (λ file. IsItem file n part)) (sym place) (stands old new part put)

-- what follows from what is told is told too
pub told : (old new : Section) (one other : List ℕ → Type 0) → Adds old new one → ((file : List ℕ) → one file → other file) → Adds old new other
told old new one other adds more = record { grown = adds.grown; tells = λ file has. more file (adds.tells file has) }

-- the section grew before
pub before : (old now new : Section) (one : List ℕ → Type 0) → Grows old now → Adds now new one → Adds old new one
before old now new one grown adds = record { grown = grows_twice old now new grown adds.grown; tells = adds.tells }

-- nothing is added, and all files tell this
pub nothing : (section : Section) (one : List ℕ → Type 0) → ((file : List ℕ) → one file) → Adds section section one
nothing section one all = record { grown = grows_not section; tells = λ file has. all file }

-- both are told
pub both : (old now new : Section) (one other all : List ℕ → Type 0) → Adds old now one → Adds now new other → ((file : List ℕ) → one file → other file → all file) → Adds old new all
both old now new one other all first second join = record {
  grown = grows_twice old now new first.grown second.grown;
  tells = λ file has. join file (first.tells file (second.grown.keeps file has)) (second.tells file has);
}

-- ---- pairs

pub pushed : {A B : Type 0} (R : A → B → Type 0) (xs : List A) (ys : List B) (x : A) (y : B) → EachPair R xs ys → R x y → EachPair R (xs ++ x ∷ []) (ys ++ y ∷ [])
pushed R [] [] x y pairs here = (here, tt)
pushed R [] (b ∷ ys) x y pairs here = absurd pairs
pushed R (a ∷ xs) [] x y pairs here = absurd pairs
pushed R (a ∷ xs) (b ∷ ys) x y (first, pairs) here = (first, pushed R xs ys x y pairs here)

pub taken : {B : Type 0} (ys : List B) (index : ℕ) (y : B) → slice_get ys index ≡ Some y → take (index + 1) ys ≡ take index ys ++ y ∷ []
taken ys index y there = take_more ys index y (slice_get_within ys index y there) ∙ ap (λ z. take index ys ++ z ∷ []) (get_or_from_slice_get ys index y y there)

pub pair_more : {A B : Type 0} (R : A → B → Type 0) (xs : List A) (ys : List B) (index : ℕ) (x : A) (y : B) → slice_get ys index ≡ Some y →
    EachPair R xs (take index ys) → R x y → EachPair R (xs ++ x ∷ []) (take (index + 1) ys)
pair_more R xs ys index x y there pairs here =
    subst (λ front. EachPair R (xs ++ x ∷ []) front) (sym (taken ys index y there)) (pushed R xs (take index ys) x y pairs here)

-- the same with the list that is gone over first
pub pair_along : {A B : Type 0} (R : B → A → Type 0) (xs : List A) (ys : List B) (index : ℕ) (x : A) (y : B) → slice_get ys index ≡ Some y →
    EachPair R (take index ys) xs → R y x → EachPair R (take (index + 1) ys) (xs ++ x ∷ [])
pair_along R xs ys index x y there pairs here =
    subst (λ front. EachPair R front (xs ++ x ∷ [])) (sym (taken ys index y there)) (pushed R (take index ys) xs y x pairs here)

pub as_long : {A B : Type 0} (R : A → B → Type 0) (xs : List A) (ys : List B) → EachPair R xs ys → length xs ≡ length ys
as_long R [] [] pairs = refl
as_long R [] (y ∷ ys) pairs = absurd pairs
as_long R (x ∷ xs) [] pairs = absurd pairs
as_long R (x ∷ xs) (y ∷ ys) (first, pairs) = ap suc (as_long R xs ys pairs)

-- ---- items one by one

pub none_yet : {A B : Type 0} (R : List ℕ → A → B → Type 0) (section : Section) (xs : List A) (ys : List B) → xs ≡ [] → Adds section section (λ file. EachPair (R file) xs (take 0 ys))
none_yet R section xs ys none =
    subst (λ all. Adds section section (λ file. EachPair (R file) all (take 0 ys))) (sym none) (nothing section (λ file. EachPair (R file) [] (take 0 ys)) (λ file. tt))

pub one_more : {A B : Type 0} (R : List ℕ → A → B → Type 0) (old now next : Section) (xs : List A) (ys : List B) (index : ℕ) (x : A) (y : B) → slice_get ys index ≡ Some y →
    Adds old now (λ file. EachPair (R file) xs (take index ys)) → Adds now next (λ file. R file x y) → Adds old next (λ file. EachPair (R file) (xs ++ x ∷ []) (take (index + 1) ys))
one_more R old now next xs ys index x y there so_far more =
    both old now next (λ file. EachPair (R file) xs (take index ys)) (λ file. R file x y) (λ file. EachPair (R file) (xs ++ x ∷ []) (take (index + 1) ys)) so_far more
    (λ file pairs here. pair_more (R file) xs ys index x y there pairs here)

pub all_done : {A B : Type 0} (R : List ℕ → A → B → Type 0) (old now : Section) (xs : List A) (ys : List B) (index : ℕ) → length ys ≤ index →
    Adds old now (λ file. EachPair (R file) xs (take index ys)) → Adds old now (λ file. EachPair (R file) xs ys)
all_done R old now xs ys index end so_far = subst (λ all. Adds old now (λ file. EachPair (R file) xs all)) (take_all index ys end) so_far

-- ---- classes one by one

-- what holds of the first, where there are as many
abbrev pub AreFirst : {A B : Type 0} → (A → B → Type 0) → List A → List B → Type 0
AreFirst R xs ys = length xs ≤ length ys → EachPair R xs (take (length xs) ys)

no_class : RawClass
no_class = record { fields = []; methods = []; values = [] }

pub first_more : {A : Type 0} (R : A → RawClass → Type 0) (xs : List A) (ys : List RawClass) (x : A) → AreFirst R xs ys → WhereGiven (R x) (slice_get ys (length xs)) → AreFirst R (xs ++ x ∷ []) ys
first_more R xs ys x so_far here long =
    let more : length (xs ++ x ∷ []) ≡ length xs + 1 = length-append xs (x ∷ []) in
    let within : length xs < length ys = omega arith in
    let y : RawClass = get_or ys (length xs) no_class in
    let there : slice_get ys (length xs) ≡ Some y = slice_get-get_or ys (length xs) no_class within in
    let given : R x y = subst (WhereGiven (R x)) there here in
    subst (λ n. EachPair R (xs ++ x ∷ []) (take n ys)) (sym more) (pair_more R xs ys (length xs) x y there (so_far (omega arith)) given)

pub first_none : {A : Type 0} (R : List ℕ → A → RawClass → Type 0) (section : Section) (ys : List RawClass) → Adds section section (λ file. AreFirst (R file) [] ys)
first_none R section ys = nothing section (λ file. AreFirst (R file) [] ys) (λ file long. tt)

-- one more, where as many rows are made as definitions were gone over
pub first_added : {B : Type 0} (R : List ℕ → ClassRow → RawClass → Type 0) (Q : ClassRow → B → Type 0) (old now next : Section) (xs : List ClassRow) (items : List B) (ys : List RawClass) (index : ℕ) (x : ClassRow) →
    index < length items → EachPair Q xs (take index items) → Adds old now (λ file. AreFirst (R file) xs ys) → Adds now next (λ file. WhereGiven (R file x) (slice_get ys index)) → Adds old next (λ file. AreFirst (R file) (xs ++ x ∷ []) ys)
first_added R Q old now next xs items ys index x within pairs so_far more =
    let count : length xs ≡ index = as_long Q xs (take index items) pairs ∙ length-take-le index items (omega arith) in
    both old now next (λ file. AreFirst (R file) xs ys) (λ file. WhereGiven (R file x) (slice_get ys index)) (λ file. AreFirst (R file) (xs ++ x ∷ []) ys) so_far more
    (λ file first here. first_more (R file) xs ys x first (subst (λ n. WhereGiven (R file x) (slice_get ys n)) (sym count) here))
