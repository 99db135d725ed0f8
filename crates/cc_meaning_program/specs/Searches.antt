-- In which order classes are searched for a member.
use Rattle.std.specs.Prelude.{◌≡◌, ℕ, List, [], ◌∷◌, ◌++◌, Some, None}
use Rattle.std.specs.List.{flat_map}
use Rattle.cc_meaning.specs.declared.file.Ids.{Ids}
use Rattle.cc_meaning_program.specs.Ancestry.{superclass_named, interfaces_named, Ancestry, Superinterfaces}

-- the first of these that is so
pub data First {A : Type 0} (is_so : A → Type 0) : List A → A → Type 0 where
  here : {x : A} {xs : List A} → is_so x → First is_so (x ∷ xs) x
  later : {x y : A} {xs : List A} → ¬ is_so x → First is_so xs y → First is_so (x ∷ xs) y

-- none of these is so
abbrev pub NoneOf : {A : Type 0} → (A → Type 0) → List A → Type 0
NoneOf is_so [] = Unit {0}
NoneOf is_so (x ∷ xs) = ¬ is_so x × NoneOf is_so xs

-- For a method: the named class and its superclasses, then the interfaces of each of them, each followed by those above it.
pub record MethodOrder (ids : Ids) (named : List ℕ) (order : List (List ℕ)) : Type 0 where
  pub classes : List (List ℕ)
  pub ancestry : Ancestry ids named classes
  pub interfaces : List (List ℕ)
  pub above : Superinterfaces ids (flat_map (interfaces_named ids) classes) interfaces
  pub ordered : order ≡ classes ++ interfaces

-- For a field: the named class, its interfaces, each followed by those above it, then its superclass in the same way.
pub data FieldOrder (ids : Ids) : List ℕ → List (List ℕ) → Type 0 where
  top : {name : List ℕ} {interfaces : List (List ℕ)} → superclass_named ids name ≡ None → Superinterfaces ids (interfaces_named ids name) interfaces → FieldOrder ids name (name ∷ interfaces)
  up : {name above : List ℕ} {interfaces rest : List (List ℕ)} → superclass_named ids name ≡ Some above → Superinterfaces ids (interfaces_named ids name) interfaces → FieldOrder ids above rest → FieldOrder ids name (name ∷ interfaces ++ rest)
