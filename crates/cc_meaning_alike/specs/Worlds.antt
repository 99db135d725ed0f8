-- Two worlds that are the same up to the numbers of their objects.
use Rattle.std.specs.Prelude.{◌≡◌, ◌⊎◌, ◌<◌, ◌≤◌, ℕ, ℤ, Bool, true, false, List, [], ◌∷◌, ◌++◌, length, Option, Some, None, slice_get}
use Rattle.cc_meaning.specs.declared.report.Event.{Event}
use Rattle.cc_meaning.specs.declared.value.Cell.{Cell}
use Rattle.cc_meaning.specs.declared.value.Cell.TheVariants as cell
use Rattle.cc_meaning.specs.declared.value.Made.{Made}
use Rattle.cc_meaning.specs.declared.value.Object.{Object}
use Rattle.cc_meaning.specs.declared.value.Object.TheVariants as object
use Rattle.cc_meaning.specs.declared.value.Value.{Value}
use Rattle.cc_meaning.specs.declared.value.Value.TheVariants as value
use Rattle.cc_meaning_world.specs.World.{World, Locals}
use Rattle.cc_meaning_world.specs.Opening.{out_object}
use Rattle.cc_meaning_alike.specs.Maps.{Map, In, Extends, OneToOne}

-- ---- lists and options, piece by piece

-- two lists of the same length whose elements are related one by one
pub data Each {A : Type 0} (R : A → A → Type 0) : List A → List A → Type 0 where
  nil : Each R [] []
  each : {x y : A} {xs ys : List A} → R x y → Each R xs ys → Each R (x ∷ xs) (y ∷ ys)

-- nothing on both sides, or related things
pub data Both {A : Type 0} (R : A → A → Type 0) : Option A → Option A → Type 0 where
  neither : Both R None None
  both : {x y : A} → R x y → Both R (Some x) (Some y)

-- ---- values

-- null on both sides, or linked objects
pub data AlikeReference (f : Map) : Option ℕ → Option ℕ → Type 0 where
  nulls : AlikeReference f None None
  linked : {a b : ℕ} → In f a b → AlikeReference f (Some a) (Some b)

-- the same number, or alike references
pub data AlikeValue (f : Map) : Value → Value → Type 0 where
  ints : {n : ℤ} → AlikeValue f (value.Int n) (value.Int n)
  longs : {n : ℤ} → AlikeValue f (value.Long n) (value.Long n)
  refs : {o1 o2 : Option ℕ} → AlikeReference f o1 o2 → AlikeValue f (value.Obj o1) (value.Obj o2)

-- registers that hold alike values, or hold none in the same way
pub data AlikeCell (f : Map) : Cell → Cell → Type 0 where
  unsets : AlikeCell f cell.Unset cell.Unset
  highs : AlikeCell f cell.High cell.High
  values : {v1 v2 : Value} → AlikeValue f v1 v2 → AlikeCell f (cell.Value v1) (cell.Value v2)

-- objects of the same form, class, length and units, whose values are alike
pub data AlikeObject (f : Map) : Object → Object → Type 0 where
  outs : AlikeObject f object.Out object.Out
  instances : {class : ℕ} {vs1 vs2 : List Value} → Each (AlikeValue f) vs1 vs2 → AlikeObject f (object.Instance class vs1) (object.Instance class vs2)
  arrays : {class : ℕ} {vs1 vs2 : List Value} → Each (AlikeValue f) vs1 vs2 → AlikeObject f (object.Array class vs1) (object.Array class vs2)
  texts : {units : List ℕ} → AlikeObject f (object.Text units) (object.Text units)
  builders : {units : List ℕ} → AlikeObject f (object.Builder units) (object.Builder units)
  constants : {class : ℕ} → AlikeObject f (object.Constant class) (object.Constant class)

-- an object on each side, and they are alike
pub data BothObjects (f : Map) : Option Object → Option Object → Type 0 where
  two : {o1 o2 : Object} → AlikeObject f o1 o2 → BothObjects f (Some o1) (Some o2)

-- linked objects that were made for the same literal or class constant
pub record AlikeMade (f : Map) (m1 m2 : Made) : Type 0 where
  pub what : m1.what ≡ m2.what
  pub number : In f m1.number m2.number

-- alike registers, and what is pending is alike
pub record AlikeLocals (f : Map) (l1 l2 : Locals) : Type 0 where
  pub cells : Each (AlikeCell f) l1.cells l2.cells
  pub pending : Both (AlikeValue f) l1.pending l2.pending

-- ---- worlds

-- each link is one to one and between alike objects, and `System.out` is linked with itself
pub record AlikeHeaps (f : Map) (os1 os2 : List Object) : Type 0 where
  pub objects : (a b : ℕ) → In f a b → BothObjects f (slice_get os1 a) (slice_get os2 b)
  pub one : OneToOne f
  pub out : In f out_object out_object

-- Worlds that are the same up to the numbers of objects, of the links of a map. `K` are the classes whose cursors agree. Objects without a link are free, and so
-- are the events so far.
pub record Alike (K : ℕ → Bool) (f : Map) (w1 w2 : World) : Type 0 where
  pub heap : AlikeHeaps f w1.objects w2.objects
  pub statics : Each (AlikeValue f) w1.statics w2.statics
  pub literals : Each (AlikeMade f) w1.literals w2.literals
  pub constants : Each (AlikeMade f) w1.constants w2.constants
  pub counters : w1.counters ≡ w2.counters
  pub cursors : (class : ℕ) → K class ≡ true → slice_get w1.cursors class ≡ slice_get w2.cursors class

-- where two runs began
pub record Start : Type 0 where
  pub map : Map
  pub first : World
  pub second : World

abbrev pub start_at : Map → World → World → Start
start_at f w1 w2 = record { map = f; first = w1; second = w2 }

-- What has happened since: the same events were added; an object that had no link is as it was; and what was linked is new on both sides.
pub record Since (s : Start) (f : Map) (os1 os2 : List Object) (es1 es2 : List Event) : Type 0 where
  pub extends : Extends s.map f
  pub fresh : (a b : ℕ) → In f a b → In s.map a b ⊎ ((length s.first.objects ≤ a) × (length s.second.objects ≤ b))
  pub kept_first : (a : ℕ) → a < length s.first.objects → ((b : ℕ) → In s.map a b → ⊥) → slice_get os1 a ≡ slice_get s.first.objects a
  pub kept_second : (b : ℕ) → b < length s.second.objects → ((a : ℕ) → In s.map a b → ⊥) → slice_get os2 b ≡ slice_get s.second.objects b
  pub grown_first : length s.first.objects ≤ length os1
  pub grown_second : length s.second.objects ≤ length os2
  pub added : List Event
  pub events_first : es1 ≡ s.first.events ++ added
  pub events_second : es2 ≡ s.second.events ++ added

-- the cursors of classes outside `K` are as they were
pub record Idle (K : ℕ → Bool) (s : Start) (cs1 cs2 : List ℕ) : Type 0 where
  pub idle_first : (class : ℕ) → K class ≡ false → slice_get cs1 class ≡ slice_get s.first.cursors class
  pub idle_second : (class : ℕ) → K class ≡ false → slice_get cs2 class ≡ slice_get s.second.cursors class

-- two worlds that are alike, and what has happened in both since the start
pub record Pair (K : ℕ → Bool) (s : Start) (f : Map) (w1 w2 : World) : Type 0 where
  pub alike : Alike K f w1 w2
  pub idle : Idle K s w1.cursors w2.cursors
  pub since : Since s f w1.objects w2.objects w1.events w2.events
