-- The fields of classes by the classes' numbers: what a class declares itself, and what an instance of it has.
use Rattle.std.specs.Prelude.{◌≡◌, ◌⊎◌, ℕ, suc, ◌<◌, Bool, List, ◌++◌, length, Option, Some, None, slice_get}
use Rattle.cc_meaning.specs.declared.program.Field.{Field}
use Rattle.cc_meaning_program.specs.declared.outline.Outline.{Outline}
use Rattle.cc_meaning_program.specs.Programs.{fields_from}

-- the fields that a class declares itself, static ones or others, in number order
unfoldable pub own_fields : Bool → List Field → ℕ → List ℕ
own_fields is_static fields class = fields_from 0 (Some class) is_static fields

-- for each of so many classes these fields
pub record AreOwnFields (is_static : Bool) (fields : List Field) (count : ℕ) (own : List (List ℕ)) : Type 0 where
  pub all : length own ≡ count
  pub each : (class : ℕ) (listed : List ℕ) → slice_get own class ≡ Some listed → listed ≡ own_fields is_static fields class

-- ---- superclasses

unfoldable pub superclass_in : Option Outline → Option ℕ
superclass_in None = None
superclass_in (Some outline) = outline.superclass

-- the superclass of the class of a number
unfoldable pub superclass_at : List Outline → ℕ → Option ℕ
superclass_at outlines class = superclass_in (slice_get outlines class)

-- each superclass is there, and of less height
pub record Falls (outlines : List Outline) (height : ℕ → ℕ) : Type 0 where
  pub there : (class above : ℕ) → superclass_at outlines class ≡ Some above → above < length outlines
  pub less : (class above : ℕ) → superclass_at outlines class ≡ Some above → height above < height class

-- going up comes to an end
abbrev pub HasHeights : List Outline → Type 0
HasHeights outlines = (height : ℕ → ℕ) × Falls outlines height

-- ---- layouts

-- The fields of an instance of a class: those of its superclass, then its own.
pub data IsLayout (outlines : List Outline) (own : List (List ℕ)) : ℕ → List ℕ → Type 0 where
  top : {class : ℕ} {fields : List ℕ} → superclass_at outlines class ≡ None → slice_get own class ≡ Some fields → IsLayout outlines own class fields
  under : {class above : ℕ} {inherited fields : List ℕ} → superclass_at outlines class ≡ Some above → IsLayout outlines own above inherited → slice_get own class ≡ Some fields → IsLayout outlines own class (inherited ++ fields)

-- the layout of a class stands
abbrev pub Stands : List (Option (List ℕ)) → ℕ → Type 0
Stands layouts class = (layout : List ℕ) × (slice_get layouts class ≡ Some (Some layout))

-- a place for the layout of each class, and where one stands it is right
pub record AreRight (outlines : List Outline) (own : List (List ℕ)) (layouts : List (Option (List ℕ))) : Type 0 where
  pub all : length layouts ≡ length outlines
  pub each : (class : ℕ) (layout : List ℕ) → slice_get layouts class ≡ Some (Some layout) → IsLayout outlines own class layout

-- ---- the way up

-- Each of these classes is there, and its superclass, where it has one, comes next or stands.
pub record LeadsUp (outlines : List Outline) (layouts : List (Option (List ℕ))) (path : List ℕ) : Type 0 where
  pub there : (place class : ℕ) → slice_get path place ≡ Some class → class < length outlines
  pub onward : (place class above : ℕ) → slice_get path place ≡ Some class → superclass_at outlines class ≡ Some above → (slice_get path (suc place) ≡ Some above) ⊎ Stands layouts above

-- this class is the first of these, or stands
abbrev pub BeginsWith : List (Option (List ℕ)) → List ℕ → ℕ → Type 0
BeginsWith layouts path class = (slice_get path 0 ≡ Some class) ⊎ Stands layouts class
