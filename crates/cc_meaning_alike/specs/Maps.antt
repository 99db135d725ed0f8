-- Which object of one world stands for which of another.
use Rattle.std.specs.Prelude.{◌≡◌, ◌==◌, ℕ, Bool, true, false}

-- The links of objects of a first world with objects of a second one, by their numbers.
pub data Map : Type 0 where
  empty : Map
  link : (a b : ℕ) → Map → Map

-- a is linked with b
pub data In : Map → ℕ → ℕ → Type 0 where
  here : {f : Map} {a b : ℕ} → In (link a b f) a b
  there : {f : Map} {a b c d : ℕ} → In f a b → In (link c d f) a b

-- each link of a map is one of another
abbrev pub Extends : Map → Map → Type 0
Extends f g = (a b : ℕ) → In f a b → In g a b

-- no object is linked with two others
pub record OneToOne (f : Map) : Type 0 where
  pub one_right : (a b c : ℕ) → In f a b → In f a c → b ≡ c
  pub one_left : (a b c : ℕ) → In f a c → In f b c → a ≡ b

-- ---- maps turned round and joined

-- the same links the other way round
unfoldable pub inverse : Map → Map
inverse empty = empty
inverse (link a b f) = link b a (inverse f)

-- the links of both
unfoldable pub joined : Map → Map → Map
joined empty g = g
joined (link a b f) g = link a b (joined f g)

unfoldable pub link_if : Bool → ℕ → ℕ → Map → Map
link_if true a c f = link a c f
link_if false a c f = f

-- a with each object that g links b with
unfoldable pub through : ℕ → ℕ → Map → Map
through a b empty = empty
through a b (link x c g) = link_if (b == x) a c (through a b g)

-- the links by way of a third world
unfoldable pub composed : Map → Map → Map
composed empty g = empty
composed (link a b f) g = joined (through a b g) (composed f g)
