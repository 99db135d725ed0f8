-- What each of some things comes to, one after another.
use Rattle.std.proofs.Common.{◌≡◌, ℕ, suc, ◌+◌, ◌<◌, ◌≤◌, List, [], ◌∷◌, ◌++◌, length, drop, get_or, refl, ap, sym, ◌∙◌, subst, add-one, drop-cons, append_assoc, arith}
use Rattle.std.specs.Prelude.{Result, Ok, Err}
use Rattle.std.proofs.lemmas.List.{drop_all, append-nil}
use Rattle.cc_meaning.specs.declared.fault.ScriptFault.{ScriptFault}
use Rattle.cc_meaning_script.specs.Listed.{on_ok, then_all}
use Rattle.cc_meaning_script.specs.Script.{each}
use Rattle.cc_script.proofs.ClassLemmas.{after_all}

-- what the first i came to, and what the rest comes to
abbrev pub EachTo : {A B : Type 0} → (ℕ → A → Result B ScriptFault) → (start i : ℕ) → List A → List B → Type 0
EachTo f start i xs ys = each f start xs ≡ after_all ys (each f (start + i) (drop i xs))

pub each_none : {A B : Type 0} (f : ℕ → A → Result B ScriptFault) (start : ℕ) (xs : List A) → EachTo f start 0 xs []
each_none {B = B} f start xs = ap (λ n. each f n xs) (omega arith) ∙ kept (each f (start + 0) xs)
  where
    kept : (r : Result (List B) ScriptFault) → r ≡ after_all [] r
    kept (Ok rest) = refl
    kept (Err fault) = refl

here : {A B : Type 0} (f : ℕ → A → Result B ScriptFault) (place : ℕ) (xs : List A) (i : ℕ) (x : A) → i < length xs → x ≡ get_or xs i x →
    each f place (drop i xs) ≡ on_ok (f place x) (λ y. then_all y (each f (place + 1) (drop (i + 1) xs)))
here f place xs i x h is =
    let split : drop i xs ≡ x ∷ drop (i + 1) xs = rw (add-one, drop-cons xs i x) (ap (λ v. v ∷ drop (suc i) xs) (sym is)) in
    ap (each f place) split

moved : {B : Type 0} (ys : List B) (y : B) (r : Result (List B) ScriptFault) → after_all ys (then_all y r) ≡ after_all (ys ++ y ∷ []) r
moved ys y (Ok rest) = ap Ok (sym (append_assoc ys (y ∷ []) rest))
moved ys y (Err fault) = refl

pub each_more : {A B : Type 0} (f : ℕ → A → Result B ScriptFault) (start i : ℕ) (xs : List A) (ys more : List B) (x : A) (y : B) → i < length xs → x ≡ get_or xs i x →
    f (start + i) x ≡ Ok y → more ≡ ys ++ y ∷ [] → EachTo f start i xs ys → EachTo f start (i + 1) xs more
each_more {A = A} {B = B} f start i xs ys more x y h is good grown before =
    let next : (start + i) + 1 ≡ start + (i + 1) = omega arith in
    let P : List B → Type 0 = λ zs. each f start xs ≡ after_all zs (each f (start + (i + 1)) (drop (i + 1) xs)) in
    subst P (sym grown)
    (before
    ∙ ap (after_all ys) (here f (start + i) xs i x h is ∙ ap (λ r. on_ok r (λ y. then_all y (each f ((start + i) + 1) (drop (i + 1) xs)))) good)
    ∙ moved ys y (each f ((start + i) + 1) (drop (i + 1) xs))
    ∙ ap (λ n. after_all (ys ++ y ∷ []) (each f n (drop (i + 1) xs))) next)

pub each_fault : {A B : Type 0} (f : ℕ → A → Result B ScriptFault) (start i : ℕ) (xs : List A) (ys : List B) (x : A) (fault : ScriptFault) → i < length xs → x ≡ get_or xs i x →
    EachTo f start i xs ys → f (start + i) x ≡ Err fault → each f start xs ≡ Err fault
each_fault f start i xs ys x fault h is before bad =
    before ∙ ap (after_all ys) (here f (start + i) xs i x h is ∙ ap (λ r. on_ok r (λ y. then_all y (each f ((start + i) + 1) (drop (i + 1) xs)))) bad)

pub each_all : {A B : Type 0} (f : ℕ → A → Result B ScriptFault) (start i : ℕ) (xs : List A) (ys : List B) → length xs ≤ i → EachTo f start i xs ys → each f start xs ≡ Ok ys
each_all f start i xs ys h before = before ∙ ap (λ zs. after_all ys (each f (start + i) zs)) (drop_all i xs h) ∙ ap Ok (append-nil ys)
