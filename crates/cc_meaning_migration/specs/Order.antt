-- The order in which the objects of a state are numbered: those of a front, and then each object where it is first mentioned.
use Rattle.std.specs.Prelude.{◌≡◌, ◌⊎◌, ℕ, zero, suc, ◌<◌, ◌==◌, Bool, cond, List, [], ◌∷◌, ◌++◌, length, map, Option, Some, None, slice_get}
use Rattle.std.specs.List.{flat_map, list_any}
use Rattle.cc_meaning.specs.declared.value.Made.{Made}
use Rattle.cc_meaning.specs.declared.value.Object.{Object}
use Rattle.cc_meaning.specs.declared.value.Object.TheVariants as object
use Rattle.cc_meaning.specs.declared.value.Value.{Value}
use Rattle.cc_meaning.specs.declared.value.Value.TheVariants as value

-- ---- what mentions objects

unfoldable pub mention : Value → List ℕ
mention (value.Obj (Some a)) = a ∷ []
mention _ = []

-- the objects that values mention, in order
unfoldable pub mentions : List Value → List ℕ
mentions values = flat_map mention values

-- the objects that were made for literals or class constants, in order
unfoldable pub made_objects : List Made → List ℕ
made_objects mades = map (λ (made : Made). made.number) mades

unfoldable pub members_of : Option Object → List Value
members_of (Some (object.Instance class values)) = values
members_of (Some (object.Array class values)) = values
members_of _ = []

-- the objects that the members of an object mention, in order
unfoldable pub mentioned_by : List Object → ℕ → List ℕ
mentioned_by objects a = mentions (members_of (slice_get objects a))

-- ---- the order

unfoldable pub stands_in : ℕ → List ℕ → Bool
stands_in a list = list_any (λ (b : ℕ). b == a) list

-- a list without what stands in another, and without what came before in it
unfoldable pub distinct_after : List ℕ → List ℕ → List ℕ
distinct_after seen [] = []
distinct_after seen (a ∷ rest) = cond (stands_in a seen) (distinct_after seen rest) (a ∷ distinct_after (a ∷ seen) rest)

-- what is mentioned, in turn: the front, by the roots, and by the members of each object of the order
unfoldable pub mentioned : List Object → (front roots order : List ℕ) → List ℕ
mentioned objects front roots order = front ++ (roots ++ flat_map (mentioned_by objects) order)

abbrev pub StandsIn : List ℕ → ℕ → Type 0
StandsIn list a = (k : ℕ) × (slice_get list k ≡ Some a)

-- an object of the order stands in the front, in the roots, or in the members of an earlier one
abbrev pub IsReached : List Object → (front roots order : List ℕ) → (place a : ℕ) → Type 0
IsReached objects front roots order i a =
    StandsIn front a ⊎ (StandsIn roots a ⊎ ((j owner : ℕ) × (j < i) × (slice_get order j ≡ Some owner) × StandsIn (mentioned_by objects owner) a))

-- The order of objects behind a front: each that is mentioned, where it is first mentioned, and none that isn't reached. There is exactly one.
pub record IsOrder (objects : List Object) (front roots order : List ℕ) : Type 0 where
  pub first_mentions : order ≡ distinct_after [] (mentioned objects front roots order)
  pub reached : (i a : ℕ) → slice_get order i ≡ Some a → IsReached objects front roots order i a

-- ---- the order, found

-- a list, and behind it each of another that it hasn't got
unfoldable pub joined : List ℕ → List ℕ → List ℕ
joined list [] = list
joined list (a ∷ rest) = cond (stands_in a list) (joined list rest) (joined (list ++ a ∷ []) rest)

unfoldable pub with_members_at : Option ℕ → List Object → List ℕ → (List ℕ → List ℕ) → List ℕ
with_members_at None objects order go = order
with_members_at (Some a) objects order go = go (joined order (mentioned_by objects a))

-- from a place of the order on, what the members of each object mention is put behind the others, for so many objects
unfoldable pub walked : List Object → (count place : ℕ) → List ℕ → List ℕ
walked objects zero i order = order
walked objects (suc n) i order = with_members_at (slice_get order i) objects order (λ more. walked objects n (suc i) more)

-- The order, found by walking along it. It is tested by `IsOrder`, and stands here so that what has an order can be a function.
unfoldable pub order_of : List Object → (front roots : List ℕ) → List ℕ
order_of objects front roots = walked objects (length objects) 0 (joined [] (front ++ roots))
