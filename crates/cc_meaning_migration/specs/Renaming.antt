-- Numbers of objects exchanged for others, wherever something names an object. Where one has no other number, nothing is renamed.
use Rattle.std.specs.Prelude.{ℕ, zero, suc, ◌==◌, List, [], ◌∷◌, Option, Some, None, option_map, slice_get, position}
use Rattle.cc_meaning.specs.declared.image.Contents.{Contents}
use Rattle.cc_meaning.specs.declared.image.Contents.TheVariants as contents
use Rattle.cc_meaning.specs.declared.report.CallEnd.{CallEnd}
use Rattle.cc_meaning.specs.declared.report.CallEnd.TheVariants as end
use Rattle.cc_meaning.specs.declared.value.Made.{Made}
use Rattle.cc_meaning.specs.declared.value.Object.{Object}
use Rattle.cc_meaning.specs.declared.value.Object.TheVariants as object
use Rattle.cc_meaning.specs.declared.value.Value.{Value}
use Rattle.cc_meaning.specs.declared.value.Value.TheVariants as value

-- ---- all or nothing

-- goes on with a result, where there is one
unfoldable pub if_some : {A B : Type 0} → Option A → (A → Option B) → Option B
if_some None go = None
if_some (Some x) go = go x

unfoldable pub with_first : {A : Type 0} → Option A → Option (List A) → Option (List A)
with_first (Some x) (Some xs) = Some (x ∷ xs)
with_first _ _ = None

-- what each comes to, where each of them comes to something
unfoldable pub each : {A B : Type 0} → (A → Option B) → List A → Option (List B)
each f [] = Some []
each f (x ∷ xs) = with_first (f x) (each f xs)

-- ---- renaming

unfoldable pub rename_value : (ℕ → Option ℕ) → Value → Option Value
rename_value f (value.Int n) = Some (value.Int n)
rename_value f (value.Long n) = Some (value.Long n)
rename_value f (value.Obj None) = Some (value.Obj None)
rename_value f (value.Obj (Some a)) = option_map (λ b. value.Obj (Some b)) (f a)

unfoldable pub rename_values : (ℕ → Option ℕ) → List Value → Option (List Value)
rename_values f values = each (rename_value f) values

unfoldable pub rename_made : (ℕ → Option ℕ) → Made → Option Made
rename_made f made = option_map (λ b. record { what = made.what; number = b }) (f made.number)

unfoldable pub rename_mades : (ℕ → Option ℕ) → List Made → Option (List Made)
rename_mades f mades = each (rename_made f) mades

unfoldable pub rename_object : (ℕ → Option ℕ) → Object → Option Object
rename_object f object.Out = Some object.Out
rename_object f (object.Instance class values) = option_map (λ vs. object.Instance class vs) (rename_values f values)
rename_object f (object.Array class values) = option_map (λ vs. object.Array class vs) (rename_values f values)
rename_object f (object.Text units) = Some (object.Text units)
rename_object f (object.Builder units) = Some (object.Builder units)
rename_object f (object.Constant class) = Some (object.Constant class)

unfoldable pub rename_contents : (ℕ → Option ℕ) → Contents → Option Contents
rename_contents f contents.Nothing = Some contents.Nothing
rename_contents f (contents.Values values) = option_map (λ vs. contents.Values vs) (rename_values f values)
rename_contents f (contents.Units units) = Some (contents.Units units)

unfoldable pub rename_end : (ℕ → Option ℕ) → CallEnd → Option CallEnd
rename_end f (end.Returned None) = Some (end.Returned None)
rename_end f (end.Returned (Some v)) = option_map (λ v'. end.Returned (Some v')) (rename_value f v)
rename_end f (end.Thrown a) = option_map (λ b. end.Thrown b) (f a)
rename_end f (end.Stopped cause) = Some (end.Stopped cause)

-- the objects of these numbers, renamed
unfoldable pub copies : (ℕ → Option ℕ) → List Object → List ℕ → Option (List Object)
copies f objects numbers = each (λ a. if_some (slice_get objects a) (rename_object f)) numbers

-- ---- numbers of images

-- the number that an object has in an image: its place in the order, counted from 1
unfoldable pub number_in : List ℕ → ℕ → Option ℕ
number_in order a = option_map (λ i. suc i) (position (λ (b : ℕ). b == a) order)

-- the object that a number of an image is
unfoldable pub object_in : List ℕ → ℕ → Option ℕ
object_in order zero = None
object_in order (suc i) = slice_get order i

-- so many numbers, the first of which is given
unfoldable pub numbers_from : (first count : ℕ) → List ℕ
numbers_from first zero = []
numbers_from first (suc n) = first ∷ numbers_from (suc first) n
