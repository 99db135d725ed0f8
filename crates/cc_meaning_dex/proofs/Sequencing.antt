-- That what is read in order is what stands in order.
use Rattle.std.proofs.Common.{◌≡◌, ◌↔◌, ℕ, zero, suc, List, [], ◌∷◌, length, Option, Some, None, Result, Ok, Err, ℤ, refl, sym, ap, subst, ◌∙◌}
use Rattle.cc_meaning.specs.declared.fault.LebFault.{LebFault}
use Rattle.cc_meaning_dex.specs.Leb128.{SpellsUleb, SpellsSleb, uleb_at, sleb_at}
use Rattle.cc_meaning_dex.specs.TextLaws.{UlebAgrees, SlebAgrees}
use Rattle.cc_meaning_dex.specs.declared.items.Cursor.{Cursor}
use Rattle.cc_meaning_dex.specs.Sequences.{◌>>=◌, found, number_at, signed_at, begin, Follow, ListStands, items_from, list_at}

-- ---- one after the other

pub bind_some : {A B : Type 0} (o : Option A) (f : A → Option B) (y : B) → (o >>= f) ≡ Some y → (x : A) × (o ≡ Some x) × (f x ≡ Some y)
bind_some (Some x) f y e = (x, refl, e)
bind_some None f y e = absurd (cc)

pub some_bind : {A B : Type 0} (o : Option A) (f : A → Option B) (x : A) → o ≡ Some x → (o >>= f) ≡ f x
some_bind o f x e = rw e refl

pub some_is : {A : Type 0} (x y : A) → Some x ≡ Some y → x ≡ y
some_is x y e = cc

-- ---- numbers

found_ok : {A : Type 0} (read : Result A LebFault) (x : A) → found read ≡ Some x → read ≡ Ok x
found_ok (Ok y) x e = ap Ok (some_is y x e)
found_ok (Err reason) x e = absurd (cc)

pub number_spelled : UlebAgrees → (file : List ℕ) (at : ℕ) (read : ℕ × ℕ) → number_at file at ≡ Some read → SpellsUleb file at read.0 read.1
number_spelled agrees file at read e = (agrees file at read.0 read.1).0 (found_ok (uleb_at file at) read e)

pub number_read : UlebAgrees → (file : List ℕ) (at n next : ℕ) → SpellsUleb file at n next → number_at file at ≡ Some (n, next)
number_read agrees file at n next s = ap found ((agrees file at n next).1 s)

pub signed_spelled : SlebAgrees → (file : List ℕ) (at : ℕ) (read : ℤ × ℕ) → signed_at file at ≡ Some read → SpellsSleb file at read.0 read.1
signed_spelled agrees file at read e = (agrees file at read.0 read.1).0 (found_ok (sleb_at file at) read e)

pub signed_read : SlebAgrees → (file : List ℕ) (at : ℕ) (n : ℤ) (next : ℕ) → SpellsSleb file at n next → signed_at file at ≡ Some (n, next)
signed_read agrees file at n next s = ap found ((agrees file at n next).1 s)

-- ---- lists

-- each item is read exactly where it stands
abbrev pub ItemAgrees : {A : Type 0} → (Cursor → Option (A × Cursor)) → (Cursor → A → Cursor → Type 0) → Type 0
ItemAgrees {A} item_at stands = (from : Cursor) (item : A) (next : Cursor) → (item_at from ≡ Some (item, next)) ↔ stands from item next

items_stand : {A : Type 0} (item_at : Cursor → Option (A × Cursor)) (stands : Cursor → A → Cursor → Type 0) → ItemAgrees item_at stands →
    (n : ℕ) (from : Cursor) (read : List A × Cursor) → items_from item_at n from ≡ Some read → (length read.0 ≡ n) × Follow stands from read.0 read.1
unfolding items_from
items_stand {A} item_at stands agrees zero from read e =
    subst (λ (r : List A × Cursor). (length r.0 ≡ 0) × Follow stands from r.0 r.1) (some_is ([], from) read e) (refl, refl)
items_stand {A} item_at stands agrees (suc n) from read e =
    let first = bind_some (item_at from) (λ first. items_from item_at n first.1 >>= λ others. Some (first.0 ∷ others.0, others.1)) read e in
    let others = bind_some (items_from item_at n first.0.1) (λ others. Some (first.0.0 ∷ others.0, others.1)) read first.2 in
    let behind = items_stand item_at stands agrees n first.0.1 others.0 others.1 in
    subst (λ (r : List A × Cursor). (length r.0 ≡ suc n) × Follow stands from r.0 r.1) (some_is (first.0.0 ∷ others.0.0, others.0.1) read others.2)
    (ap suc behind.0, (first.0.1, (agrees from first.0.0 first.0.1).0 first.1, behind.1))

items_read : {A : Type 0} (item_at : Cursor → Option (A × Cursor)) (stands : Cursor → A → Cursor → Type 0) → ItemAgrees item_at stands →
    (items : List A) (from end : Cursor) → Follow stands from items end → items_from item_at (length items) from ≡ Some (items, end)
unfolding items_from
items_read item_at stands agrees [] from end same = ap (λ place. Some ([], place)) same
items_read item_at stands agrees (item ∷ items) from end (next, first, others) =
    rw ((agrees from item next).1 first, items_read item_at stands agrees items next end others) refl

pub list_stands : {A : Type 0} (item_at : Cursor → Option (A × Cursor)) (stands : Cursor → A → Cursor → Type 0) → ItemAgrees item_at stands →
    (count at : ℕ) (read : List A × ℕ) → list_at item_at count at ≡ Some read → ListStands stands count at read.0 read.1
list_stands {A} item_at stands agrees count at read e =
    let items = bind_some (items_from item_at count (begin at)) (λ items. Some (items.0, items.1.at)) read e in
    let all = items_stand item_at stands agrees count (begin at) items.0 items.1 in
    subst (λ (r : List A × ℕ). ListStands stands count at r.0 r.1) (some_is (items.0.0, items.0.1.at) read items.2)
    (record { all = all.0; end = items.0.1; each = all.1; last = refl })

pub list_read : {A : Type 0} (item_at : Cursor → Option (A × Cursor)) (stands : Cursor → A → Cursor → Type 0) → ItemAgrees item_at stands →
    (count at : ℕ) (items : List A) (next : ℕ) → ListStands stands count at items next → list_at item_at count at ≡ Some (items, next)
list_read item_at stands agrees count at items next s =
    let read = items_read item_at stands agrees items (begin at) s.end s.each in
    let counted = subst (λ k. items_from item_at k (begin at) ≡ Some (items, s.end)) s.all read in
    some_bind (items_from item_at count (begin at)) (λ read. Some (read.0, read.1.at)) (items, s.end) counted ∙ ap (λ place. Some (items, place)) (sym s.last)
