-- Items that stand one after the other in a file, each where the one before it ends, and how they are read in order.
use Rattle.std.specs.Prelude.{◌≡◌, ℕ, zero, suc, List, [], ◌∷◌, length, Option, Some, None, Result, Ok, Err}
use Rattle.cc_meaning.specs.declared.fault.LebFault.{LebFault}
use Rattle.cc_meaning_dex.specs.Leb128.{uleb_at, sleb_at}
use Rattle.std.specs.Prelude.{ℤ}
use Rattle.cc_meaning_dex.specs.declared.items.Cursor.{Cursor}

-- what follows a reading that found something
infixl 10 ◌>>=◌
abbrev pub ◌>>=◌ : {A B : Type 0} → Option A → (A → Option B) → Option B
(Some x) >>= f = f x
None >>= f = None

-- what was read, where it is no number in LEB128 that fails
abbrev pub found : {A : Type 0} → Result A LebFault → Option A
found (Ok read) = Some read
found (Err reason) = None

-- the number in ULEB128 at a place, and the place after it
abbrev pub number_at : List ℕ → ℕ → Option (ℕ × ℕ)
number_at file at = found (uleb_at file at)

-- the signed number in SLEB128 at a place, and the place after it
abbrev pub signed_at : List ℕ → ℕ → Option (ℤ × ℕ)
signed_at file at = found (sleb_at file at)

-- where a list begins
abbrev pub begin : ℕ → Cursor
begin at = record { at = at; row = 0 }

-- these items stand one after the other, from one place to the next
abbrev pub Follow : {A : Type 0} → (Cursor → A → Cursor → Type 0) → Cursor → List A → Cursor → Type 0
Follow stands from [] end = from ≡ end
Follow stands from (item ∷ items) end = (next : Cursor) × stands from item next × Follow stands next items end

-- so many items stand one after the other from `at` to before `next`
pub record ListStands {A : Type 0} (stands : Cursor → A → Cursor → Type 0) (count : ℕ) (at : ℕ) (items : List A) (next : ℕ) : Type 0 where
  pub all : length items ≡ count
  pub end : Cursor
  pub each : Follow stands (begin at) items end
  pub last : next ≡ end.at

-- so many items, each read where the one before it ends
unfoldable pub items_from : {A : Type 0} → (Cursor → Option (A × Cursor)) → ℕ → Cursor → Option (List A × Cursor)
items_from item_at zero from = Some ([], from)
items_from item_at (suc n) from = do
  first ← item_at from
  others ← items_from item_at n first.1
  Some (first.0 ∷ others.0, others.1)

-- so many items from `at` on, and the place after them
abbrev pub list_at : {A : Type 0} → (Cursor → Option (A × Cursor)) → ℕ → ℕ → Option (List A × ℕ)
list_at item_at count at = do
  items ← items_from item_at count (begin at)
  Some (items.0, items.1.at)
