-- Rows are written one behind the other, each by its number.
use Rattle.std.proofs.Common.{◌≡◌, ℕ, ◌+◌, ◌<◌, ◌≤◌, List, [], ◌∷◌, ◌++◌, length, drop, get_or, refl, sym, ap, ◌∙◌}
use Rattle.std.proofs.lemmas.List.{append_assoc, append-nil, drop_more}
use Rattle.std.proofs.Math.ListN.{drop_of_length-le}
use Rattle.cc_dex_writer.specs.Rows.{numbered_form}

-- what is written already, and the rows from a place on, is the whole
abbrev pub Writes : {A : Type 0} → (ℕ → A → List ℕ) → List ℕ → List A → ℕ → List ℕ → Type 0
Writes form out rows place whole = out ++ numbered_form form place (drop place rows) ≡ whole

numbered_cons : {A : Type 0} (form : ℕ → A → List ℕ) (number : ℕ) (row : A) (rows : List A) → numbered_form form number (row ∷ rows) ≡ form number row ++ numbered_form form (number + 1) rows
unfolding numbered_form
numbered_cons form number row rows = refl

numbered_none : {A : Type 0} (form : ℕ → A → List ℕ) (number : ℕ) → numbered_form form number [] ≡ []
unfolding numbered_form
numbered_none form number = refl

pub writes_more : {A : Type 0} (form : ℕ → A → List ℕ) (out out' : List ℕ) (rows : List A) (place : ℕ) (row : A) (whole : List ℕ) → place < length rows → row ≡ get_or rows place row → out' ≡ out ++ form place row → Writes form out rows place whole → Writes form out' rows (place + 1) whole
writes_more {A = A} form out out' rows place row whole within is put writes =
    let rest = numbered_form form (place + 1) (drop (place + 1) rows) in
    let next : drop place rows ≡ row ∷ drop (place + 1) rows = drop_more rows place row within ∙ ap (λ (x : A). x ∷ drop (place + 1) rows) (sym is) in
    let more : numbered_form form place (drop place rows) ≡ form place row ++ rest = ap (numbered_form form place) next ∙ numbered_cons form place row (drop (place + 1) rows) in
    ap (λ (front : List ℕ). front ++ rest) put ∙ append_assoc out (form place row) rest ∙ ap (λ (back : List ℕ). out ++ back) (sym more) ∙ writes

pub writes_all : {A : Type 0} (form : ℕ → A → List ℕ) (out : List ℕ) (rows : List A) (place : ℕ) (whole : List ℕ) → length rows ≤ place → Writes form out rows place whole → out ≡ whole
writes_all form out rows place whole past writes =
    let none : numbered_form form place (drop place rows) ≡ [] = ap (numbered_form form place) (drop_of_length-le rows past) ∙ numbered_none form place in
    sym (append-nil out) ∙ ap (λ (back : List ℕ). out ++ back) (sym none) ∙ writes
