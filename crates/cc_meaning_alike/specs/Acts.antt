-- Acts that ask for the same steps, from alike values.
use Rattle.std.specs.Prelude.{◌≡◌, ◌||◌, ℕ, Bool, true, not, List, [], ◌∷◌, Option, IsTrue}
use Rattle.cc_meaning.specs.declared.program.DexType.{DexType}
use Rattle.cc_meaning.specs.declared.program.Program.{Program}
use Rattle.cc_meaning.specs.declared.report.StopCause.{StopCause}
use Rattle.cc_meaning.specs.declared.script.Script.{Script}
use Rattle.cc_meaning.specs.declared.value.Object.{Object}
use Rattle.cc_meaning.specs.declared.value.Value.{Value}
use Rattle.cc_meaning_world.specs.World.{Locals}
use Rattle.cc_meaning_world.specs.Scripts.{class_asked, is_scripted, is_stateful}
use Rattle.cc_meaning_world.specs.Acts.{Outcome, Next, Enter, Returns, Throws, Stops, Stuck, Act, Done, Make, Look, ClassOf, Put, Append, GetStatic, PutStatic, Literal, ClassConstant, Ask, Tell, Reached}
use Rattle.cc_meaning_alike.specs.Maps.{Map, In, Extends}
use Rattle.cc_meaning_alike.specs.Worlds.{Each, Both, AlikeValue, AlikeObject, AlikeLocals, Start, Pair}

-- the same kind of outcome, with alike values
pub data AlikeOutcome (f : Map) : Outcome → Outcome → Type 0 where
  nexts : {pc : ℕ} {l1 l2 : Locals} → AlikeLocals f l1 l2 → AlikeOutcome f (Next pc l1) (Next pc l2)
  enters : {m next : ℕ} {args1 args2 : List Value} → Each (AlikeValue f) args1 args2 → AlikeOutcome f (Enter m args1 next) (Enter m args2 next)
  returns : {v1 v2 : Option Value} → Both (AlikeValue f) v1 v2 → AlikeOutcome f (Returns v1) (Returns v2)
  throws : {a b : ℕ} → In f a b → AlikeOutcome f (Throws a) (Throws b)
  stops : {c : StopCause} → AlikeOutcome f (Stops c) (Stops c)
  stuck : AlikeOutcome f Stuck Stuck

-- The same steps, with alike arguments, and after alike answers again. Only what may make an object goes on under every larger map.
pub data AlikeAct (p : Program) : Map → Act → Act → Type 0 where
  done : {f : Map} {o1 o2 : Outcome} → AlikeOutcome f o1 o2 → AlikeAct p f (Done o1) (Done o2)
  make : {f : Map} {o1 o2 : Object} {k1 k2 : ℕ → Act} → AlikeObject f o1 o2 → ((g : Map) (a b : ℕ) → Extends f g → In g a b → AlikeAct p g (k1 a) (k2 b)) →
      AlikeAct p f (Make o1 k1) (Make o2 k2)
  look : {f : Map} {a b : ℕ} {k1 k2 : Object → Act} → In f a b → ((o1 o2 : Object) → AlikeObject f o1 o2 → AlikeAct p f (k1 o1) (k2 o2)) →
      AlikeAct p f (Look a k1) (Look b k2)
  class_of : {f : Map} {a b : ℕ} {k1 k2 : DexType → Act} → In f a b → ((t : DexType) → AlikeAct p f (k1 t) (k2 t)) → AlikeAct p f (ClassOf a k1) (ClassOf b k2)
  puts : {f : Map} {a b i : ℕ} {v1 v2 : Value} {k1 k2 : Act} → In f a b → AlikeValue f v1 v2 → AlikeAct p f k1 k2 → AlikeAct p f (Put a i v1 k1) (Put b i v2 k2)
  append : {f : Map} {a b : ℕ} {units : List ℕ} {k1 k2 : Act} → In f a b → AlikeAct p f k1 k2 → AlikeAct p f (Append a units k1) (Append b units k2)
  get_static : {f : Map} {i : ℕ} {k1 k2 : Value → Act} → ((v1 v2 : Value) → AlikeValue f v1 v2 → AlikeAct p f (k1 v1) (k2 v2)) →
      AlikeAct p f (GetStatic i k1) (GetStatic i k2)
  put_static : {f : Map} {i : ℕ} {v1 v2 : Value} {k1 k2 : Act} → AlikeValue f v1 v2 → AlikeAct p f k1 k2 → AlikeAct p f (PutStatic i v1 k1) (PutStatic i v2 k2)
  literal : {f : Map} {text : ℕ} {k1 k2 : ℕ → Act} → ((g : Map) (a b : ℕ) → Extends f g → In g a b → AlikeAct p g (k1 a) (k2 b)) →
      AlikeAct p f (Literal text k1) (Literal text k2)
  class_constant : {f : Map} {class : ℕ} {k1 k2 : ℕ → Act} → ((g : Map) (a b : ℕ) → Extends f g → In g a b → AlikeAct p g (k1 a) (k2 b)) →
      AlikeAct p f (ClassConstant class k1) (ClassConstant class k2)
  ask : {f : Map} {m : ℕ} {vs1 vs2 : List Value} {k1 k2 : Option Value → Act} → is_scripted p m ≡ true → Each (AlikeValue f) vs1 vs2 →
      ((g : Map) (v1 v2 : Option Value) → Extends f g → Both (AlikeValue g) v1 v2 → AlikeAct p g (k1 v1) (k2 v2)) → AlikeAct p f (Ask m vs1 k1) (Ask m vs2 k2)
  tell : {f : Map} {m : ℕ} {units : List ℕ} {k1 k2 : Act} → AlikeAct p f k1 k2 → AlikeAct p f (Tell m units k1) (Tell m units k2)

-- ---- where they lead

-- whether a recorded call or print takes no answer of a class outside `K`
unfoldable pub asks_within : (ℕ → Bool) → Script → Program → ℕ → Bool
asks_within K script p m = not (is_stateful script p m) || K (class_asked p m)

-- none of these takes an answer of a class outside `K`
abbrev pub AsksWithin : (ℕ → Bool) → Script → Program → List ℕ → Type 0
AsksWithin K script p [] = Unit {0}
AsksWithin K script p (m ∷ ms) = IsTrue (asks_within K script p m) × AsksWithin K script p ms

-- steps led to alike outcomes in alike worlds, and attempted the same calls and prints
pub record AlikeReached (K : ℕ → Bool) (s : Start) (f : Map) (r1 r2 : Reached) : Type 0 where
  pub map : Map
  pub extends : Extends f map
  pub outcomes : AlikeOutcome map r1.outcome r2.outcome
  pub pair : Pair K s map r1.world r2.world
  pub called : r1.called ≡ r2.called

-- they do so as long as the first side asks only for answers that both sides have
abbrev pub Reaches : (ℕ → Bool) → Script → Program → Start → Map → Reached → Reached → Type 0
Reaches K script p s f r1 r2 = AsksWithin K script p r1.called → AlikeReached K s f r1 r2
