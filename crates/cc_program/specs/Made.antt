-- Classes by their numbers, and the numbers of their members.
use Rattle.std.specs.Prelude.{◌≡◌, ℕ, ◌<◌, true, false, List, [], length, Option, Some, None, slice_get, option_and_then, Contains}
use Rattle.cc_meaning.specs.declared.file.ClassRow.{ClassRow}
use Rattle.cc_meaning.specs.declared.file.Ids.{Ids}
use Rattle.cc_meaning.specs.declared.file.RawClass.{RawClass}
use Rattle.cc_meaning.specs.declared.program.Class.{Class}
use Rattle.cc_meaning.specs.declared.program.Field.{Field}
use Rattle.cc_meaning.specs.declared.program.Method.{Method}
use Rattle.cc_meaning.specs.declared.program.StaticValue.{StaticValue}
use Rattle.cc_meaning.specs.declared.program.StaticValue.TheVariants as value
use Rattle.cc_meaning_program.specs.declared.outline.Outline.{Outline}
use Rattle.cc_meaning_program.specs.declared.plan.FieldPlan.{FieldPlan}
use Rattle.cc_meaning_program.specs.Programs.{has_class_flag}
use Rattle.cc_program.specs.Initialisers.{AreInitialisers}
use Rattle.cc_program.specs.Layouts.{own_fields, AreOwnFields, IsLayout}
use Rattle.cc_program.specs.Values.{AreHeld}

-- the definition of a number
unfoldable pub stated_at : Ids → Option ℕ → Option ClassRow
stated_at ids definition = option_and_then (slice_get ids.classes) definition

unfoldable pub values_in : Option RawClass → List StaticValue
values_in None = []
values_in (Some class) = class.values

-- the values that it lists
unfoldable pub values_at : List RawClass → Option ℕ → List StaticValue
values_at classes definition = values_in (option_and_then (slice_get classes) definition)

-- The class of a number is what its outline says, with the own instance fields and the initialisers that are given for all classes.
pub record IsMade (ids : Ids) (classes : List RawClass) (names : List (List ℕ)) (outlines : List Outline) (plans : List FieldPlan) (fields : List Field) (texts : List ℕ) (own : List (List ℕ)) (begun : List (Option ℕ)) (number : ℕ) (class : Class) : Type 0 where
  pub outline : Outline
  pub there : slice_get outlines number ≡ Some outline
  pub name : slice_get names number ≡ Some class.name
  pub kind : class.kind ≡ outline.kind
  pub superclass : class.superclass ≡ outline.superclass
  pub interfaces : class.interfaces ≡ outline.interfaces
  pub is_interface : class.is_interface ≡ has_class_flag 512 (stated_at ids outline.definition)
  pub is_abstract : class.is_abstract ≡ has_class_flag 1024 (stated_at ids outline.definition)
  pub layout : IsLayout outlines own number class.layout
  pub initialiser : slice_get begun number ≡ Some class.initialiser
  pub values : AreHeld fields plans (values_at classes outline.definition) texts (own_fields true fields number) class.values

-- all classes are so
pub record AreMade (ids : Ids) (classes : List RawClass) (names : List (List ℕ)) (outlines : List Outline) (plans : List FieldPlan) (fields : List Field) (methods : List Method) (texts : List ℕ) (made : List Class) : Type 0 where
  pub own : List (List ℕ)
  pub owned : AreOwnFields false fields (length outlines) own
  pub begun : List (Option ℕ)
  pub beginnings : AreInitialisers methods (length outlines) begun
  pub all : length made ≡ length outlines
  pub each : (number : ℕ) (class : Class) → slice_get made number ≡ Some class → IsMade ids classes names outlines plans fields texts own begun number class

-- the rows of texts in the values of a definition are there
abbrev pub TextsAre : List RawClass → List ℕ → Option ℕ → Type 0
TextsAre classes texts definition = (row : ℕ) → Contains (values_at classes definition) (value.Text row) → row < length texts
