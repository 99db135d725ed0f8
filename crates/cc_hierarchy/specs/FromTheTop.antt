-- Classes in an order in which each stands behind its superclass.
use Rattle.std.specs.Prelude.{◌≡◌, ◌⊎◌, ◌↔◌, ℕ, suc, ◌<◌, Bool, List, [], ◌∷◌, ◌++◌, length, slice_get, Option, Some, None, option_and_then, Contains}
use Rattle.cc_meaning.specs.declared.file.Ids.{Ids}
use Rattle.cc_meaning_program.specs.Ancestry.{Ancestry}
use Rattle.cc_meaning_program.specs.Outlines.{AreOutlines}
use Rattle.cc_meaning_program.specs.declared.outline.Outline.{Outline}
use Rattle.cc_hierarchy.specs.Graphs.{IsMarked}

-- the superclass of the class of a number
unfoldable pub superclass_at : List Outline → ℕ → Option ℕ
superclass_at outlines class = option_and_then (λ (outline : Outline). outline.superclass) (slice_get outlines class)

-- so many steps lead from a class up to one without a superclass
pub data Leads (outlines : List Outline) : ℕ → ℕ → Type 0 where
  top : {class : ℕ} → class < length outlines → superclass_at outlines class ≡ None → Leads outlines class 0
  up : {class above steps : ℕ} → superclass_at outlines class ≡ Some above → Leads outlines above steps → Leads outlines class (suc steps)

-- going up from each class comes to an end
abbrev pub AllLead : List Outline → Type 0
AllLead outlines = (class : ℕ) → class < length outlines → (steps : ℕ) × Leads outlines class steps

-- so it does where each class has an ancestry
abbrev pub ClassesLead : Type 0
ClassesLead = (ids : Ids) (names : List (List ℕ)) (outlines : List Outline) → AreOutlines ids names outlines → ((name : List ℕ) → (ancestors : List (List ℕ)) × Ancestry ids name ancestors) → AllLead outlines

-- all classes, each once, and each behind its superclass
pub record AreFromTheTop (outlines : List Outline) (order : List ℕ) : Type 0 where
  pub all : (class : ℕ) → Contains order class ↔ (class < length outlines)
  pub once : (earlier later class : ℕ) → slice_get order earlier ≡ Some class → slice_get order later ≡ Some class → earlier ≡ later
  pub behind : (place class above : ℕ) → slice_get order place ≡ Some class → superclass_at outlines class ≡ Some above → (earlier : ℕ) × (earlier < place) × (slice_get order earlier ≡ Some above)

-- ---- on the way

-- the classes that are passed on the way from a class up to another
pub data Way (outlines : List Outline) : ℕ → List ℕ → ℕ → Type 0 where
  here : {class : ℕ} → Way outlines class [] class
  above : {class next end : ℕ} {passed : List ℕ} → superclass_at outlines class ≡ Some next → Way outlines next passed end → Way outlines class (class ∷ passed) end

-- the way from a class up to a class that is so, or with the last class itself where none stands above it
pub data Climbed (outlines : List Outline) (is_so : ℕ → Type 0) (from : ℕ) : List ℕ → Type 0 where
  until : {end : ℕ} {passed : List ℕ} → Way outlines from passed end → is_so end → Climbed outlines is_so from passed
  whole : {end : ℕ} {passed : List ℕ} → Way outlines from passed end → superclass_at outlines end ≡ None → Climbed outlines is_so from (passed ++ end ∷ [])

-- the classes on the way from one up to those that were marked, which are marked now
pub record IsClimb (outlines : List Outline) (marked now : List Bool) (from : ℕ) (passed : List ℕ) : Type 0 where
  pub climbed : Climbed outlines (IsMarked marked) from passed
  pub fresh : (class : ℕ) → Contains passed class → ¬ IsMarked marked class
  pub noted : (class : ℕ) → IsMarked now class ↔ (IsMarked marked class ⊎ Contains passed class)
  pub begun : IsMarked now from

-- some classes in such an order
pub data Begins (outlines : List Outline) : List ℕ → Type 0 where
  nothing : Begins outlines []
  one_more : {order : List ℕ} {class : ℕ} → Begins outlines order → ¬ Contains order class → ((above : ℕ) → superclass_at outlines class ≡ Some above → Contains order above) → Begins outlines (order ++ class ∷ [])

-- the classes that are marked are those of an order
pub record AreTaken (outlines : List Outline) (marks : List Bool) (order : List ℕ) : Type 0 where
  pub wide : length marks ≡ length outlines
  pub same : (class : ℕ) → IsMarked marks class ↔ Contains order class
  pub ordered : Begins outlines order
