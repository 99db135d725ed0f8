-- Worked examples of costs, bounds and certificates.
use Rattle.std.specs.Prelude.{◌≡◌, ℕ, List, [], ◌∷◌, pos, negsuc}
use Rattle.cc_meaning.specs.declared.profile.Choice.{Choice}
use Rattle.cc_meaning.specs.declared.profile.Choice.TheVariants as choice
use Rattle.cc_meaning.specs.declared.profile.Node.{Node}
use Rattle.cc_meaning.specs.declared.profile.Partial.{Partial}
use Rattle.cc_meaning.specs.declared.profile.Profiles.{Profiles}
use Rattle.cc_meaning_calls.specs.Profiles.{cost}
use Rattle.cc_meaning_calls.specs.Bounds.{bound, all_open}
use Rattle.cc_meaning_calls.specs.Certificates.{Proves}
use Rattle.cc_meaning_calls.specs.WorkedPrograms.{shapes, shapes_script}
use Rattle.cc_meaning_calls.specs.WorkedPlaces.{moving}

abbrev pub node : (method parent device clone entry exit : ℕ) → Node
node method parent device clone entry exit = record { method = method; parent = parent; device = device; clone = clone; entry_bytes = entry; exit_bytes = exit }

abbrev pub one_run : (fixed byte : ℕ) → List Node → Profiles
one_run fixed byte nodes = record { executions = record { fixed = fixed; byte = byte; nodes = nodes } ∷ [] }

abbrev pub choosing : List Choice → Partial
choosing choices = record { choices = choices }

-- main, of number 2, calls f and then g, of numbers 0 and 1, and f calls g: 8, 3, 2 and 2 instructions at 100 on the device and 1 on the clone, a migration at 50
abbrev pub helped : Profiles
helped = one_run 50 0 (node 2 0 1500 15 0 0 ∷ node 0 0 500 5 36 30 ∷ node 1 1 200 2 36 30 ∷ node 1 0 200 2 36 30 ∷ [])

-- a run of the program of shapes: main, a constructor, work, and below work area and an initialiser
abbrev pub measured : Profiles
measured = one_run 300 1 (node 2 0 3100 155 0 0 ∷ node 5 0 300 15 0 0 ∷ node 3 0 1300 65 53 50 ∷ node 6 2 300 15 53 42 ∷ node 0 2 300 15 0 0 ∷ [])

-- A helper that runs on both nodes costs at each invocation what that node's instructions cost.
pub record CostsHold : Type 0 where
  pub nothing : cost helped (moving []) ≡ 1500
  pub caller : cost helped (moving (0 ∷ [])) ≡ 1055
  pub helper : cost helped (moving (1 ∷ [])) ≡ 1204
  pub work : cost measured (moving (3 ∷ [])) ≡ 2268
  pub area : cost measured (moving (6 ∷ [])) ≡ 3210

-- What isn't chosen yet costs the lesser of both nodes, and an invocation below one that stays costs what the device's do where its method can't move.
pub record BoundsAre : Type 0 where
  pub undecided : bound (3 ∷ 6 ∷ []) measured (all_open 2) ≡ 1865
  pub one_stays : bound (3 ∷ 6 ∷ []) measured (choosing (choice.Stay ∷ choice.Undecided ∷ [])) ≡ 2815
  pub area : bound (3 ∷ 6 ∷ []) measured (choosing (choice.Stay ∷ choice.Move ∷ [])) ≡ 3210
  pub work : bound (3 ∷ 6 ∷ []) measured (choosing (choice.Move ∷ choice.Stay ∷ [])) ≡ 2268

-- No legal partition costs less than to move work: work and area both stay, one of them moves, or both, which breaks a rule.
abbrev pub ShapesAreProved : Type 0
ShapesAreProved = Proves shapes shapes_script (3 ∷ 6 ∷ []) measured (pos 0 ∷ pos 1 ∷ negsuc 1 ∷ negsuc 1 ∷ pos 1 ∷ negsuc 1 ∷ negsuc 0 ∷ []) 2268
