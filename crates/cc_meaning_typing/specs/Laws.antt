-- The laws of types, registers, states and rules.
use Rattle.std.specs.Prelude.{◌≡◌, ◌↔◌, ◌⊎◌, IsTrue, ℕ, suc, ◌+◌, ◌<◌, ◌≤◌, length, Some, None}
use Rattle.cc_meaning.specs.declared.instruction.Insn.{Insn}
use Rattle.cc_meaning.specs.declared.program.Catch.{Catch}
use Rattle.cc_meaning.specs.declared.program.DexType.{DexType}
use Rattle.cc_meaning.specs.declared.program.Program.{Program}
use Rattle.cc_meaning.specs.declared.program.RegType.{RegType}
use Rattle.cc_meaning.specs.declared.program.RegType.TheVariants.{Reference}
use Rattle.cc_meaning_typing.specs.declared.state.State.{State}
use Rattle.cc_meaning_typing.specs.Hierarchy.{superclass_of, IsHierarchy, Inherits, has_ancestor}
use Rattle.cc_meaning_typing.specs.Types.{class_type, object_type, IsBelow, next_above, least_above, fits_class}
use Rattle.cc_meaning_typing.specs.Heights.{height, rank}
use Rattle.cc_meaning_typing.specs.Registers.{Covers, Fits, join}
use Rattle.cc_meaning_typing.specs.States.{StateCovers, join_states}
use Rattle.cc_meaning_typing.specs.Growth.{GrowthEnds}
use Rattle.cc_meaning_typing.specs.Code.{Body}
use Rattle.cc_meaning_typing.specs.Typing.{HasTyping}
use Rattle.cc_meaning_typing.specs.WellTyped.{IsTarget, Reaches}
use Rattle.cc_meaning_typing.specs.Rules.{Accepts, after, handler_state}

-- a type is another, or the next one above it is below the other
abbrev pub IsBelowByStep : Program → DexType → DexType → Type 0
IsBelowByStep program a b = (a ≡ b) ⊎ ((next : DexType) × (next_above program a ≡ Some next) × IsBelow program next b)

-- Each type but Object has one type next above it, one step nearer to Object; the types above a type are those on the way, a chain.
pub record TypesAreATree (program : Program) : Type 0 where
  pub class_height : (class above : ℕ) → superclass_of program class ≡ Some above → height program class ≡ suc (height program above)
  pub next_rank : (a next : DexType) → next_above program a ≡ Some next → rank program a ≡ suc (rank program next)
  pub top : (a : DexType) → next_above program a ≡ None → a ≡ object_type program
  pub object_rank : rank program (object_type program) ≡ 0
  pub steps : (a b : DexType) → IsBelow program a b ↔ IsBelowByStep program a b
  pub falls : (a b : DexType) → IsBelow program a b → (a ≡ b) ⊎ (rank program b < rank program a)
  pub chain : (a b c : DexType) → IsBelow program a b → IsBelow program a c → rank program c ≤ rank program b → IsBelow program b c
  pub bound : (a : DexType) → rank program a ≤ a.dims + length program.classes

-- a type is below itself, and two types below each other are one
pub record BelowOrders (program : Program) : Type 0 where
  pub reflexive : (a : DexType) → IsBelow program a a
  pub transitive : (a b c : DexType) → IsBelow program a b → IsBelow program b c → IsBelow program a c
  pub antisymmetric : (a b : DexType) → IsBelow program a b → IsBelow program b a → a ≡ b

-- two types are below the least type above them, and that is below each type that they are below
pub record LeastIsLeast (program : Program) : Type 0 where
  pub left : (a b : DexType) → IsBelow program a (least_above program a b)
  pub right : (a b : DexType) → IsBelow program b (least_above program a b)
  pub least : (a b c : DexType) → IsBelow program a c → IsBelow program b c → IsBelow program (least_above program a b) c

-- covering is a partial order
pub record CoveringOrders (program : Program) : Type 0 where
  pub reflexive : (a : RegType) → Covers program a a
  pub transitive : (a b c : RegType) → Covers program a b → Covers program b c → Covers program a c
  pub antisymmetric : (a b : RegType) → Covers program a b → Covers program b a → a ≡ b

-- the join is the least that covers both, and one covers another exactly where the join of the two is the covering one
pub record JoinIsLeast (program : Program) : Type 0 where
  pub idempotent : (a : RegType) → join program a a ≡ a
  pub commutative : (a b : RegType) → join program a b ≡ join program b a
  pub left : (a b : RegType) → Covers program (join program a b) a
  pub right : (a b : RegType) → Covers program (join program a b) b
  pub least : (a b c : RegType) → Covers program c a → Covers program c b → Covers program c (join program a b)
  pub covering : (a b : RegType) → Covers program a b ↔ (join program a b ≡ a)

-- the tests of classes by number say what the relations say
pub record ClassTestsDecide (program : Program) : Type 0 where
  pub ancestors : (class ancestor : ℕ) → class < length program.classes → IsTrue (has_ancestor program class ancestor) ↔ Inherits program class ancestor
  pub objects : (object declared : ℕ) → object < length program.classes → IsTrue (fits_class program object declared) ↔ Fits program (Reference (class_type object)) (class_type declared)

abbrev pub ClassTests : Type 0
ClassTests = (program : Program) → IsHierarchy program → ClassTestsDecide program

abbrev pub TypeTrees : Type 0
TypeTrees = (program : Program) → IsHierarchy program → TypesAreATree program

abbrev pub TypesAreOrdered : Type 0
TypesAreOrdered = (program : Program) → IsHierarchy program → BelowOrders program

abbrev pub LeastTypes : Type 0
LeastTypes = (program : Program) → IsHierarchy program → LeastIsLeast program

abbrev pub RegistersAreOrdered : Type 0
RegistersAreOrdered = (program : Program) → IsHierarchy program → CoveringOrders program

abbrev pub Joins : Type 0
Joins = (program : Program) → IsHierarchy program → JoinIsLeast program

-- covering is a partial order on states
pub record StatesOrder (program : Program) : Type 0 where
  pub reflexive : (s : State) → StateCovers program s s
  pub transitive : (s t u : State) → StateCovers program s t → StateCovers program t u → StateCovers program s u
  pub antisymmetric : (s t : State) → StateCovers program s t → StateCovers program t s → s ≡ t

-- Of states with as many registers there is a least one that covers two, and one covers another exactly where it is their join.
pub record StateJoinIsLeast (program : Program) : Type 0 where
  pub left : (u s : State) → length u.registers ≡ length s.registers → StateCovers program (join_states program u s) u
  pub right : (u s : State) → length u.registers ≡ length s.registers → StateCovers program (join_states program u s) s
  pub least : (u s t : State) → StateCovers program t u → StateCovers program t s → StateCovers program t (join_states program u s)
  pub covering : (u s : State) → length u.registers ≡ length s.registers → StateCovers program u s ↔ (join_states program u s ≡ u)

-- What a rule accepts it accepts of each state that this one covers, and what it gives, to successors and to handlers, then covers likewise. Where control
-- goes doesn't depend on the state.
pub record RulesAreMonotone (body : Body) : Type 0 where
  pub accepts : (at : ℕ) (insn : Insn) (u s : State) → StateCovers body.program u s → Accepts body at u insn → Accepts body at s insn
  pub gives : (at : ℕ) (insn : Insn) (u s : State) → StateCovers body.program u s → Accepts body at u insn → StateCovers body.program (after body.program at u insn) (after body.program at s insn)
  pub handled : (catch : Catch) (u s : State) → StateCovers body.program u s → StateCovers body.program (handler_state body.program u catch) (handler_state body.program s catch)

abbrev pub StatesAreOrdered : Type 0
StatesAreOrdered = (program : Program) → IsHierarchy program → StatesOrder program

abbrev pub StateJoins : Type 0
StateJoins = (program : Program) → IsHierarchy program → StateJoinIsLeast program

abbrev pub MonotoneRules : Type 0
MonotoneRules = (body : Body) → IsHierarchy body.program → RulesAreMonotone body

abbrev pub BoundedGrowth : Type 0
BoundedGrowth = (program : Program) → IsHierarchy program → GrowthEnds program

-- what control can reach in a method that has a typing is an instruction that is no payload
abbrev pub TypedReaches : Type 0
TypedReaches = (body : Body) → HasTyping body → (at : ℕ) → Reaches body.code at → IsTarget body.code (Some at)
