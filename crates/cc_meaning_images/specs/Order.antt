-- The order in which the objects of a state are numbered: `System.out` first, then each object where it is first mentioned.
use Rattle.std.specs.Prelude.{◌≡◌, ◌⊎◌, ◌↔◌, ℕ, ◌<◌, ◌==◌, cond, List, [], ◌∷◌, ◌++◌, Option, Some, None, slice_get}
use Rattle.std.specs.List.{flat_map, list_any}
use Rattle.cc_meaning.specs.declared.value.Value.{Value}
use Rattle.cc_meaning.specs.declared.value.Value.TheVariants as value
use Rattle.cc_meaning.specs.declared.value.Object.{Object}
use Rattle.cc_meaning.specs.declared.value.Object.TheVariants as object
use Rattle.cc_meaning_run.specs.Local.{out_object}

-- the objects that values mention, in order
abbrev pub mention : Value → List ℕ
mention (value.Int n) = []
mention (value.Long n) = []
mention (value.Obj None) = []
mention (value.Obj (Some a)) = a ∷ []

abbrev pub mentions : List Value → List ℕ
mentions values = flat_map mention values

-- the members of an object, where it has such
abbrev pub members_of : Option Object → List Value
members_of (Some (object.Instance class values)) = values
members_of (Some (object.Array class values)) = values
members_of _ = []

abbrev pub mentioned_by : List Object → ℕ → List ℕ
mentioned_by objects a = mentions (members_of (slice_get objects a))

-- a list without what came before in it
unfoldable pub distinct_after : List ℕ → List ℕ → List ℕ
distinct_after seen [] = []
distinct_after seen (a ∷ rest) = cond (list_any (λ b. b == a) seen) (distinct_after seen rest) (a ∷ distinct_after (a ∷ seen) rest)

abbrev pub distinct : List ℕ → List ℕ
distinct list = distinct_after [] list

-- what is mentioned, in turn: `System.out`, by the roots, and by the members of each object of the order
abbrev pub mentioned : List Object → List Value → List ℕ → List ℕ
mentioned objects roots order = out_object ∷ mentions roots ++ flat_map (mentioned_by objects) order

-- an element is `System.out`, or stands in the roots, or in the members of an earlier one
abbrev pub IsReached : List Object → List Value → List ℕ → ℕ → Type 0
IsReached objects roots order i =
    (slice_get order i ≡ Some out_object)
    ⊎ (((k : ℕ) × (slice_get (mentions roots) k ≡ slice_get order i))
    ⊎ ((j owner k : ℕ) × (j < i) × (slice_get order j ≡ Some owner) × (slice_get (mentioned_by objects owner) k ≡ slice_get order i)))

-- the order of a state with these objects and roots; there is exactly one
pub record IsOrder (objects : List Object) (roots : List Value) (order : List ℕ) : Type 0 where
  pub first_mentions : order ≡ distinct (mentioned objects roots order)
  pub reached : (i a : ℕ) → slice_get order i ≡ Some a → IsReached objects roots order i

-- ---- laws

-- where the roots mention nothing and the first object is `System.out`, the order is that object alone, and no other list is
abbrev pub OutIsAlone : Type 0
OutIsAlone = (objects : List Object) (roots : List Value) (order : List ℕ) → slice_get objects out_object ≡ Some object.Out → mentions roots ≡ [] →
    IsOrder objects roots order ↔ (order ≡ out_object ∷ [])
