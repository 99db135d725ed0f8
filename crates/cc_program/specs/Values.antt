-- The values of a class's static fields, by the numbers of fields and texts.
use Rattle.std.specs.Prelude.{◌≡◌, ℕ, suc, ℤ, ◌≤◌, List, length, Option, Some, None, slice_get, option_and_then}
use Rattle.cc_meaning.specs.declared.program.Field.{Field}
use Rattle.cc_meaning.specs.declared.program.StaticValue.{StaticValue}
use Rattle.cc_meaning.specs.declared.program.StaticValue.TheVariants as value
use Rattle.cc_meaning_program.specs.declared.plan.FieldPlan.{FieldPlan}
use Rattle.cc_meaning_program.specs.declared.plan.FieldSource.{FieldSource}
use Rattle.cc_meaning_program.specs.declared.plan.FieldSource.TheVariants as source
use Rattle.cc_meaning_program.specs.Programs.{zero_of_field}

-- of the values that a class lists, the one for a field of this source
unfoldable pub listed_for : List StaticValue → FieldSource → Option StaticValue
listed_for values (source.File place) = slice_get values place
listed_for values _ = None

-- that for the field of a number
unfoldable pub listed_at : List FieldPlan → List StaticValue → ℕ → Option StaticValue
listed_at plans values number = option_and_then (λ (plan : FieldPlan). listed_for values plan.source) (slice_get plans number)

-- a listed value with the number of a text in place of its row
pub data IsNumbered (texts : List ℕ) : StaticValue → StaticValue → Type 0 where
  int : {number : ℤ} → IsNumbered texts (value.Int number) (value.Int number)
  long : {number : ℤ} → IsNumbered texts (value.Long number) (value.Long number)
  null : IsNumbered texts value.Null value.Null
  text : {row number : ℕ} → slice_get texts row ≡ Some number → IsNumbered texts (value.Text row) (value.Text number)

-- what a field holds for which this is listed
abbrev pub Holds : List Field → List ℕ → ℕ → Option StaticValue → StaticValue → Type 0
Holds fields texts number None held = held ≡ zero_of_field (slice_get fields number)
Holds fields texts number (Some listed) held = IsNumbered texts listed held

-- the values of these fields, up to the last for which one is listed
pub record AreHeld (fields : List Field) (plans : List FieldPlan) (listed : List StaticValue) (texts own : List ℕ) (values : List StaticValue) : Type 0 where
  pub few : length values ≤ length own
  pub each : (place number : ℕ) (held : StaticValue) → slice_get own place ≡ Some number → slice_get values place ≡ Some held → Holds fields texts number (listed_at plans listed number) held
  pub all : (place number : ℕ) → slice_get own place ≡ Some number → length values ≤ place → listed_at plans listed number ≡ None
  pub last : (place number : ℕ) → suc place ≡ length values → slice_get own place ≡ Some number → listed_at plans listed number ≡ None → ⊥
