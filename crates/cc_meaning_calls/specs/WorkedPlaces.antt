-- Worked examples of places and rules.
use Rattle.std.specs.Prelude.{ℕ, List, [], ◌∷◌}
use Rattle.cc_meaning.specs.declared.fault.Broken.{Broken}
use Rattle.cc_meaning.specs.declared.profile.Partition.{Partition}
use Rattle.cc_meaning_calls.specs.Places.{IsUnder, IsOuter, IsLegal, IsBrokenBy}
use Rattle.cc_meaning_calls.specs.WorkedPrograms.{diamond, loop, asking, asking_script, no_script}

abbrev pub moving : List ℕ → Partition
moving methods = record { moved = methods }

abbrev pub broken_by : (rule m1 m2 : ℕ) → Broken
broken_by rule m1 m2 = record { rule = rule; m1 = m1; m2 = m2 }

-- Where f of the diamond moves, h is called on both nodes, which is legal; f and h can't both move.
pub record DiamondHolds : Type 0 where
  pub mover : IsUnder diamond no_script (moving (0 ∷ [])) 0
  pub below : IsUnder diamond no_script (moving (0 ∷ [])) 2
  pub main : IsOuter diamond no_script (moving (0 ∷ [])) 3
  pub beside : IsOuter diamond no_script (moving (0 ∷ [])) 2
  pub not_outer : IsOuter diamond no_script (moving (0 ∷ [])) 0 → ⊥
  pub legal : IsLegal diamond no_script (moving (0 ∷ []))
  pub nested : IsBrokenBy diamond no_script (moving (0 ∷ 2 ∷ [])) (broken_by 4 0 2)

-- A method that calls itself can't move. A method that asks a pinned one can't; and it can't where the answers that it takes are also taken outside.
pub record RulesHold : Type 0 where
  pub itself : IsBrokenBy loop no_script (moving (0 ∷ [])) (broken_by 4 0 0)
  pub pinned : IsBrokenBy asking no_script (moving (0 ∷ [])) (broken_by 2 2 2)
  pub parted : IsBrokenBy asking asking_script (moving (0 ∷ [])) (broken_by 3 2 2)
