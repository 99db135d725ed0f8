-- What a run of the program says, as one relation.
use Rattle.std.specs.Prelude.{◌≡◌, ◌⊎◌, ℕ, List, [], Option, Some, None}
use Rattle.cc_outside.specs.Shelves as shelf
use Rattle.cc_outside.specs.Sinks.{Pipe}
use Rattle.cc_link.specs.Links as links
use Rattle.cc_output.specs.declared.plan.Plan.{Plan}
use Rattle.cc_output.specs.Carrying.{Ends}
use Rattle.cc_output.specs.declared.fault.Fault.TheVariants as faults
use Rattle.cc_output.specs.Faults.{fault_plan}
use Rattle.cc_cli.specs.Plans.{file_named, RunPlan}
use Rattle.cc_cli.specs.Offloading.{LinkTells, Names, offload_named, OffloadPlan}

-- what commands read and call: the shelf and the link, as far as they are told
pub record Sources : Type 0 where
  pub known : shelf.Known
  pub counts : shelf.Counts
  pub link : links.Known
  pub calls : links.Counts

-- the outside, as far as it is told
pub record Outside : Type 0 where
  pub known : shelf.Known
  pub counts : shelf.Counts
  pub link : links.Known
  pub calls : links.Counts
  pub out : Pipe
  pub notes : Pipe

abbrev pub sources : Outside → Sources
sources o = record { known = o.known; counts = o.counts; link = o.link; calls = o.calls }

-- What the words come to. `run` leaves the link untouched; without a command the shelf is left alone too.
abbrev pub CallPlan : Option (List ℕ) → Option Names → Sources → Sources → (tells : LinkTells) → Plan → Type 0
CallPlan (Some name) offloads old new tells plan = RunPlan old.known old.counts name new.counts plan × tells.untouched
CallPlan None (Some names) old new tells plan =
    OffloadPlan names old.known new.counts old.link old.calls new.link new.calls tells old.counts plan
CallPlan None None old new tells plan = (plan ≡ fault_plan faults.Usage []) × (new.counts ≡ old.counts) × tells.untouched

-- the same, or there is no memory for it
abbrev pub WordsPlan : List (List ℕ) → Sources → Sources → (tells : LinkTells) → Plan → Type 0
WordsPlan words old new tells plan =
    CallPlan (file_named words) (offload_named words) old new tells plan ⊎ (plan ≡ fault_plan faults.Memory [])

-- the words come to a plan, and it is carried out; where it has no text for out, no call is made there
abbrev pub Runs : List (List ℕ) → Outside → ℕ → Outside → (tells : LinkTells) → (uncalled : Type 0) → Type 0
Runs words old status new tells uncalled =
    (plan : Plan) × WordsPlan words (sources old) (sources new) tells plan × Ends plan old.out old.notes status new.out new.notes × (plan.out ≡ [] → uncalled)
