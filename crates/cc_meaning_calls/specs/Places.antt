-- On which node a method can run where a partition moves some methods, and which partitions are legal.
use Rattle.std.specs.Prelude.{◌≡◌, ℕ, ◌<◌, ◌≤◌, ◌⊎◌, true, All, Contains, Some}
use Rattle.cc_meaning.specs.declared.fault.Broken.{Broken}
use Rattle.cc_meaning.specs.declared.profile.Partition.{Partition}
use Rattle.cc_meaning.specs.declared.program.Program.{Program}
use Rattle.cc_meaning.specs.declared.script.Script.{Script}
use Rattle.cc_meaning_calls.specs.Kept.{must_stay, stateful_class}
use Rattle.cc_meaning_calls.specs.Calls.{IsReached, Direct, Reaches, IsCandidate}

-- ---- places

-- A method is under moved ones where it is one of them or one of them reaches it. So it can run below an entry of a moved method.
pub data Under (p : Program) (script : Script) (Moves : ℕ → Type 0) : ℕ → Type 0 where
  moved : {m : ℕ} → Moves m → Under p script Moves m
  below : {mover m : ℕ} → Moves mover → Reaches p script mover m → Under p script Moves m

-- A method is outer where it isn't moved, and is main or is directly called by an outer one. So it can run below no entry of a moved method.
pub data Outer (p : Program) (script : Script) (Moves : ℕ → Type 0) : ℕ → Type 0 where
  begins : (Moves p.main → ⊥) → Outer p script Moves p.main
  called : {caller m : ℕ} → (Moves m → ⊥) → Outer p script Moves caller → Direct p script caller m → Outer p script Moves m

-- ---- the rules

-- Two methods are of one class whose answers both take.
abbrev pub ShareAnswers : Program → Script → ℕ → ℕ → Type 0
ShareAnswers p script m1 m2 =
    (class : ℕ) × (IsReached p script m1) × (IsReached p script m2) × (stateful_class p script m1 ≡ Some class) × (stateful_class p script m2 ≡ Some class)

-- A rule is broken by two methods, where some methods move for sure and some may move: rule 4, that no method which moves reaches one that moves, itself
-- included; rule 2, that no method which has to stay is under one that moves; and rule 3, that of a class's stateful methods none is under one that moves while one,
-- the same or another, is outer.
pub data Breaks (p : Program) (script : Script) (Moves MayMove : ℕ → Type 0) : (rule m1 m2 : ℕ) → Type 0 where
  nested : {m1 m2 : ℕ} → Moves m1 → Moves m2 → Reaches p script m1 m2 → Breaks p script Moves MayMove 4 m1 m2
  kept : {m : ℕ} → must_stay p script m ≡ true → Under p script Moves m → Breaks p script Moves MayMove 2 m m
  parted : {m1 m2 : ℕ} → ShareAnswers p script m1 m2 → Under p script Moves m1 → Outer p script MayMove m2 → Breaks p script Moves MayMove 3 m1 m2

-- the rules are tried in the order 4, 2, 3
pub data IsTriedBefore : ℕ → ℕ → Type 0 where
  four_two : IsTriedBefore 4 2
  four_three : IsTriedBefore 4 3
  two_three : IsTriedBefore 2 3

-- Of the rules that are broken it is the one that is tried first, and of its pairs the least, by the first method and then by the second.
pub record IsFirstBroken (p : Program) (script : Script) (Moves MayMove : ℕ → Type 0) (broken : Broken) : Type 0 where
  pub breaks : Breaks p script Moves MayMove broken.rule broken.m1 broken.m2
  pub first : (rule m1 m2 : ℕ) → IsTriedBefore rule broken.rule → Breaks p script Moves MayMove rule m1 m2 → ⊥
  pub least : (m1 m2 : ℕ) → Breaks p script Moves MayMove broken.rule m1 m2 → (broken.m1 < m1) ⊎ ((broken.m1 ≡ m1) × (broken.m2 ≤ m2))

-- ---- partitions

abbrev pub IsMoved : Partition → ℕ → Type 0
IsMoved partition m = Contains partition.moved m

-- a method can run below an entry of a method that the partition moves
abbrev pub IsUnder : Program → Script → Partition → ℕ → Type 0
IsUnder p script partition m = Under p script (IsMoved partition) m

-- a method can run below no such entry
abbrev pub IsOuter : Program → Script → Partition → ℕ → Type 0
IsOuter p script partition m = Outer p script (IsMoved partition) m

abbrev pub AreMovable : Program → Script → Partition → Type 0
AreMovable p script partition = All (IsCandidate p script) partition.moved

-- a partition is legal: it moves candidates alone, and breaks no rule
pub record IsLegal (p : Program) (script : Script) (partition : Partition) : Type 0 where
  pub candidates : AreMovable p script partition
  pub keeps : (rule m1 m2 : ℕ) → Breaks p script (IsMoved partition) (IsMoved partition) rule m1 m2 → ⊥

-- the first rule that a partition breaks, and its least pair
abbrev pub IsBrokenBy : Program → Script → Partition → Broken → Type 0
IsBrokenBy p script partition broken = IsFirstBroken p script (IsMoved partition) (IsMoved partition) broken
