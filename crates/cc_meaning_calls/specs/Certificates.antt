-- What a tree of choices proves of the least cost.
use Rattle.std.specs.Prelude.{◌≡◌, ℕ, ◌≤◌, ◌<◌, Bool, true, false, List, [], ◌∷◌, ◌++◌, length, take, All, Some, ℤ, pos, negsuc, slice_get, slice_set, Result, Ok, Err}
use Rattle.cc_meaning.specs.declared.fault.Broken.{Broken}
use Rattle.cc_meaning.specs.declared.fault.CertFault.{CertFault}
use Rattle.cc_meaning.specs.declared.fault.CertFault.TheVariants.{NotIllegal, BoundTooLow, CostOther, Illegal}
use Rattle.cc_meaning.specs.declared.profile.Certificate.{Certificate}
use Rattle.cc_meaning.specs.declared.profile.Choice.{Choice}
use Rattle.cc_meaning.specs.declared.profile.Choice.TheVariants as choice
use Rattle.cc_meaning.specs.declared.profile.Partial.{Partial}
use Rattle.cc_meaning.specs.declared.profile.Partition.{Partition}
use Rattle.cc_meaning.specs.declared.profile.Profiles.{Profiles}
use Rattle.cc_meaning.specs.declared.program.Program.{Program}
use Rattle.cc_meaning.specs.declared.script.Script.{Script}
use Rattle.cc_meaning_calls.specs.Places.{IsLegal, IsBrokenBy}
use Rattle.cc_meaning_calls.specs.Profiles.{cost}
use Rattle.cc_meaning_calls.specs.Bounds.{all_open, bound, BreaksSomeRule, IsCompletion}
use Rattle.cc_meaning_calls.specs.Calls.{AreCandidates}

-- a leaf of a tree: what is chosen there, and whether it is said to break a rule rather than to cost too much
pub record Leaf : Type 0 where
  pub chosen : Partial
  pub says_broken : Bool

unfoldable pub leaf : Bool → Partial → Leaf
leaf says_broken chosen = record { chosen = chosen; says_broken = says_broken }

-- what is chosen, with one more choice
unfoldable pub choosing : Partial → (candidate : ℕ) → Choice → Partial
choosing partial candidate choice = record { choices = slice_set partial.choices candidate choice }

-- Numbers in preorder are a tree over what is chosen, with these leaves: a number from 0 on splits a candidate that is still open, first staying and then moved; -1 is
-- a leaf that is said to break a rule, -2 one that is said to cost too much.
pub data HasLeaves : Partial → (tree : List ℤ) → List Leaf → Type 0 where
  broken : {chosen : Partial} → HasLeaves chosen (negsuc 0 ∷ []) (leaf true chosen ∷ [])
  bounded : {chosen : Partial} → HasLeaves chosen (negsuc 1 ∷ []) (leaf false chosen ∷ [])
  split : {chosen : Partial} {candidate : ℕ} {staying moving : List ℤ} {left right : List Leaf} → slice_get chosen.choices candidate ≡ Some choice.Undecided
      → HasLeaves (choosing chosen candidate choice.Stay) staying left
      → HasLeaves (choosing chosen candidate choice.Move) moving right
      → HasLeaves chosen (pos candidate ∷ staying ++ moving) (left ++ right)

-- numbers are a whole tree over so many candidates
abbrev pub IsTree : (candidates : ℕ) → List ℤ → Type 0
IsTree candidates tree = (leaves : List Leaf) × HasLeaves (all_open candidates) tree leaves

module _ (p : Program) (script : Script) (candidates : List ℕ) (profiles : Profiles) where
  abbrev pub IsTrueFor : (says_broken : Bool) → (claimed : ℕ) → Partial → Type 0
  IsTrueFor true claimed chosen = BreaksSomeRule p script candidates chosen
  IsTrueFor false claimed chosen = claimed ≤ bound candidates profiles chosen

  -- a leaf is as it is said to be: it breaks a rule, or its bound is no less than the claimed cost
  abbrev pub IsTrueLeaf : (claimed : ℕ) → Leaf → Type 0
  IsTrueLeaf claimed leaf = IsTrueFor leaf.says_broken claimed leaf.chosen

  -- A tree proves that no legal partition costs less than what is claimed: it is whole, and each leaf is as it is said to be.
  abbrev pub Proves : (tree : List ℤ) → (claimed : ℕ) → Type 0
  Proves tree claimed = (leaves : List Leaf) × HasLeaves (all_open (length candidates)) tree leaves × All (IsTrueLeaf claimed) leaves

  -- the first leaf that isn't as it is said to be, counted from 0, and the fault that names it
  pub data IsFirstFalse (claimed : ℕ) (leaves : List Leaf) : CertFault → Type 0 where
    not_illegal : {place : ℕ} (chosen : Partial) → All (IsTrueLeaf claimed) (take place leaves) → slice_get leaves place ≡ Some (leaf true chosen)
        → (BreaksSomeRule p script candidates chosen → ⊥) → IsFirstFalse claimed leaves (NotIllegal place)
    bound_too_low : {place : ℕ} (chosen : Partial) → All (IsTrueLeaf claimed) (take place leaves) → slice_get leaves place ≡ Some (leaf false chosen)
        → bound candidates profiles chosen < claimed → IsFirstFalse claimed leaves (BoundTooLow place (bound candidates profiles chosen) claimed)

  -- What checking a certificate of a partition finds: a rule that the partition breaks; else that it costs something else; else the first false leaf; else nothing.
  pub data IsChecked (partition : Partition) (certificate : Certificate) : Result (Unit {0}) CertFault → Type 0 where
    illegal : {broken : Broken} → IsBrokenBy p script partition broken → IsChecked partition certificate (Err (Illegal broken))
    costs_other : IsLegal p script partition → (cost profiles partition ≡ certificate.cost → ⊥) → IsChecked partition certificate (Err (CostOther certificate.cost (cost profiles partition)))
    false_leaf : {leaves : List Leaf} {fault : CertFault} → IsLegal p script partition → cost profiles partition ≡ certificate.cost
        → HasLeaves (all_open (length candidates)) certificate.tree leaves → IsFirstFalse certificate.cost leaves fault → IsChecked partition certificate (Err fault)
    proved : IsLegal p script partition → cost profiles partition ≡ certificate.cost → Proves certificate.tree certificate.cost → IsChecked partition certificate (Ok tt)

-- ---- what follows

-- the law of bounds: no legal completion costs less than the bound, and there is none where a rule is broken
pub record BoundsHold (p : Program) (script : Script) (candidates : List ℕ) (profiles : Profiles) : Type 0 where
  pub no_less : (partial : Partial) (partition : Partition) → IsLegal p script partition → IsCompletion candidates partial partition
      → bound candidates profiles partial ≤ cost profiles partition
  pub none : (partial : Partial) (partition : Partition) → IsCompletion candidates partial partition → BreaksSomeRule p script candidates partial
      → IsLegal p script partition → ⊥

-- no legal partition costs less
abbrev pub IsLeast : Program → Script → Profiles → (cost : ℕ) → Type 0
IsLeast p script profiles least = (partition : Partition) → IsLegal p script partition → least ≤ cost profiles partition

-- what a tree proves is so
abbrev pub ProofsHold : Type 0
ProofsHold = (p : Program) (script : Script) (candidates : List ℕ) (profiles : Profiles) (tree : List ℤ) (claimed : ℕ) → AreCandidates p script candidates
    → Proves p script candidates profiles tree claimed → IsLeast p script profiles claimed
