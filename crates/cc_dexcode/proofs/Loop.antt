-- Items that are read one after the other, as a loop does.
use Rattle.std.proofs.Common.{◌≡◌, ℕ, suc, ◌-◌, ◌+◌, ◌≤◌, ◌<◌, List, [], ◌∷◌, ◌++◌, Option, Some, None, Err, refl, sym, ap, ◌∙◌, append_assoc, arith}
use Rattle.std.proofs.lemmas.List.{append-nil}
use Rattle.cc_meaning_dex.specs.declared.items.Cursor.{Cursor}
use Rattle.cc_meaning_dex.specs.Sequences.{◌>>=◌, items_from}
use Rattle.cc_dexcode.specs.declared.flaw.Flaw.{Flaw}
use Rattle.cc_dexcode.specs.declared.flaw.Flaw.TheVariants.{Malformed, Memory}
use Rattle.cc_dexcode.specs.Finding.{Finds}

-- what was read before, and what is still read
abbrev pub with_front : {A : Type 0} → List A → Option (List A × Cursor) → Option (List A × Cursor)
with_front front read = read >>= λ items. Some (front ++ items.0, items.1)

regroup : {A : Type 0} (front : List A) (item : A) (read : Option (List A × Cursor)) → with_front front (read >>= λ items. Some (item ∷ items.0, items.1)) ≡ with_front (front ++ item ∷ []) read
regroup front item (Some items) = ap (λ xs. Some (xs, items.1)) (simp append_assoc)
regroup front item None = refl

without_front : {A : Type 0} (read : Option (List A × Cursor)) → with_front [] read ≡ read
without_front (Some items) = refl
without_front None = refl

pub begins : {A : Type 0} (item_at : Cursor → Option (A × Cursor)) (count : ℕ) (from : Cursor) → with_front [] (items_from item_at (count - 0) from) ≡ items_from item_at count from
begins item_at count from = let all : count - 0 ≡ count = omega arith in rw all (without_front (items_from item_at count from))

pub goes_on : {A : Type 0} (item_at : Cursor → Option (A × Cursor)) (front : List A) (count i : ℕ) (from : Cursor) (item : A) (next : Cursor) (total : Option (List A × Cursor)) →
    i < count → item_at from ≡ Some (item, next) → with_front front (items_from item_at (count - i) from) ≡ total → with_front (front ++ item ∷ []) (items_from item_at (count - (i + 1)) next) ≡ total
unfolding items_from
goes_on item_at front count i from item next total below here so_far =
    let left : count - i ≡ suc (count - (i + 1)) = omega arith in
    let one : with_front front (items_from item_at (count - i) from) ≡ with_front (front ++ item ∷ []) (items_from item_at (count - (i + 1)) next) = rw (left, here) (regroup front item (items_from item_at (count - (i + 1)) next)) in
    sym one ∙ so_far

pub fails : {A : Type 0} (item_at : Cursor → Option (A × Cursor)) (flaw : Flaw) (front : List A) (count i : ℕ) (from : Cursor) (total : Option (List A × Cursor)) →
    i < count → Finds (item_at from) (Err flaw) → with_front front (items_from item_at (count - i) from) ≡ total → Finds total (Err flaw)
unfolding items_from
fails item_at Memory front count i from total below here so_far = tt
fails item_at Malformed front count i from total below here so_far =
    let left : count - i ≡ suc (count - (i + 1)) = omega arith in
    let one : with_front front (items_from item_at (count - i) from) ≡ None = rw (left, here) refl in
    sym so_far ∙ one

pub is_done : {A : Type 0} (item_at : Cursor → Option (A × Cursor)) (front : List A) (count i : ℕ) (from : Cursor) (total : Option (List A × Cursor)) →
    count ≤ i → with_front front (items_from item_at (count - i) from) ≡ total → total ≡ Some (front, from)
unfolding items_from
is_done item_at front count i from total all so_far =
    let left : count - i ≡ 0 = omega arith in
    let one : with_front front (items_from item_at (count - i) from) ≡ Some (front, from) = rw left (ap (λ xs. Some (xs, from)) (append-nil front)) in
    sym so_far ∙ one
