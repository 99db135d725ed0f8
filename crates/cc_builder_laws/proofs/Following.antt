-- Items that follow one another, and how many bytes they take.
use Rattle.std.proofs.Common.{◌≡◌, ℕ, ◌+◌, List, length, refl, sym}
use Rattle.cc_meaning_dex.specs.declared.items.Cursor.{Cursor}
use Rattle.cc_meaning_dex.specs.Sequences.{begin, Follow, ListStands}

abbrev pub cursor : ℕ → ℕ → Cursor
cursor at row = record { at = at; row = row }

-- items that follow one another from a place on, and end where that many bytes end
abbrev pub FollowBytes : {A : Type 0} → (Cursor → A → Cursor → Type 0) → Cursor → List A → ℕ → Type 0
FollowBytes stands from items size = (end : Cursor) × Follow stands from items end × (end.at ≡ from.at + size)

pub list_stands : {A : Type 0} (stands : Cursor → A → Cursor → Type 0) (at : ℕ) (items : List A) (size : ℕ) → FollowBytes stands (begin at) items size →
    ListStands stands (length items) at items (at + size)
list_stands stands at items size (end, each, last) = record { all = refl; end = end; each = each; last = sym last }
