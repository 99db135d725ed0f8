-- What `offload FILE SCRIPT PARTITION PLACE` comes to, before anything is written.
use Rattle.std.specs.Prelude.{◌≡◌, ◌≢◌, ◌⊎◌, ℕ, ◌≤◌, List, [], ◌∷◌, ◌++◌, length, Option, Some, None, if◌then◌else◌, codes}
use Rattle.std.specs.Str.{bytes_eq}
use Rattle.cc_meaning.specs.declared.file.Job.{Job}
use Rattle.cc_meaning.specs.declared.report.Report.{Report}
use Rattle.cc_meaning.specs.declared.report.Ending.TheVariants as ending
use Rattle.cc_meaning.specs.declared.travel.Travel.{Travel}
use Rattle.cc_outside.specs.Counting.{Rose}
use Rattle.cc_outside.specs.Shelves as shelf
use Rattle.cc_outside.specs.declared.shelf.ReadEnd.{ReadEnd}
use Rattle.cc_outside.specs.declared.shelf.ReadEnd.TheVariants as reads
use Rattle.cc_link.specs.Links as link
use Rattle.cc_link.specs.Links.{Answer}
use Rattle.cc_link.specs.Honest.{told}
use Rattle.cc_output.specs.declared.plan.Plan.{Plan}
use Rattle.cc_output.specs.Travel.{ended_line, ended_status, travel_line}
use Rattle.cc_meaning_plain.specs.declared.plain.Plain.{Plain}
use Rattle.cc_meaning_plain.specs.Tables.{longest_file}
use Rattle.cc_meaning_plain.specs.Plain.{IsPlain}
use Rattle.cc_meaning_plain.specs.Laws.{default_limits}
use Rattle.cc_meaning_clone.specs.Hello.{no_script}
use Rattle.cc_meaning_device.specs.Complete.{moved_calls}
use Rattle.cc_partition.specs.Partition.{IsPartition}
use Rattle.cc_device.specs.Travelling.{moves_of, Offloads, FallsOnlySo, LastEnds}
use Rattle.cc_output.specs.declared.fault.Fault.TheVariants as faults
use Rattle.cc_output.specs.Faults.{fault_plan}
use Rattle.cc_cli.specs.Plans.{IsNotPlain, Returns}

-- ---- the link

-- What the link that is called tells: that it is as it was; that nothing was sent or got on it yet, and it gives a front of a clone's answers; that it delays, cuts
-- and fails nothing besides; that each call on it before went on; and, where
-- it did, how that is now and what the last call answered.
pub record LinkTells : Type 1 where
  pub untouched : Type 0
  pub trusted : Type 0
  pub prompt : Type 0
  pub going_before : Type 0
  pub going : Type 0
  pub last : Answer → Type 0

-- of a link that was this and is that
abbrev pub tells_of : {L : Type 0} → (known : L → link.Known) → (honest prompt going : L → Type 0) → (last : L → Answer → Type 0) → (old new : L) → LinkTells
tells_of known honest prompt going last old new = record {
  untouched = new ≡ old;
  trusted = honest old × (known old ≡ told [] []);
  prompt = prompt old;
  going_before = going old;
  going = going new;
  last = last new;
}

-- ---- the words

-- the three files, and the place of the clone
pub record Names : Type 0 where
  pub file : List ℕ
  pub script : List ℕ
  pub partition : List ℕ
  pub place : List ℕ

abbrev pub all_names : (file script partition place : List ℕ) → Names
all_names file script partition place = record { file = file; script = script; partition = partition; place = place }

-- the names in the words `offload FILE SCRIPT PARTITION PLACE`, which are just these five
abbrev pub offload_named : List (List ℕ) → Option Names
offload_named [] = None
offload_named (command ∷ []) = None
offload_named (command ∷ file ∷ []) = None
offload_named (command ∷ file ∷ script ∷ []) = None
offload_named (command ∷ file ∷ script ∷ partition ∷ []) = None
offload_named (command ∷ file ∷ script ∷ partition ∷ place ∷ []) = if bytes_eq command (codes "offload") then Some (all_names file script partition place) else None
offload_named (command ∷ file ∷ script ∷ partition ∷ place ∷ sixth ∷ rest) = None

-- ---- the files

-- the longest script and partition that are read
abbrev pub longest_text : ℕ
longest_text = 16777216

-- why a file was not read; want of memory is told elsewhere
abbrev pub UnreadPlan : ReadEnd → (name : List ℕ) → Plan → Type 0
UnreadPlan reads.Failed name plan = plan ≡ fault_plan faults.ReadFault name
UnreadPlan reads.Absent name plan = plan ≡ fault_plan faults.Absent name
UnreadPlan reads.TooLarge name plan = plan ≡ fault_plan faults.TooLarge name
UnreadPlan reads.Memory name plan = ⊥

-- A file could not be read, there is none of this name, or it is too long, and the link is untouched; or it was read, and this holds of its bytes and of the counts then.
pub data ReadPlan (known : shelf.Known) (old : shelf.Counts) (name : List ℕ) (limit : ℕ) (new : shelf.Counts) (untouched : Type 0) (plan : Plan) (Then : List ℕ → shelf.Counts → Type 0) : Type 0 where
  failed : Rose old.faults new.faults → plan ≡ fault_plan faults.ReadFault name → untouched → ReadPlan known old name limit new untouched plan Then
  absent : shelf.IsAbsent known name → Rose old.misses new.misses → plan ≡ fault_plan faults.Absent name → untouched → ReadPlan known old name limit new untouched plan Then
  too_large : shelf.IsLonger known name limit → Rose old.misses new.misses → plan ≡ fault_plan faults.TooLarge name → untouched → ReadPlan known old name limit new untouched plan Then
  was_read : (bytes : List ℕ) (middle : shelf.Counts) → shelf.IsFile known name bytes → length bytes ≤ limit → shelf.NeverFall old middle → Then bytes middle →
      ReadPlan known old name limit new untouched plan Then

-- it is refused, nothing more is read, and the link is untouched
abbrev pub Refused : (middle new : shelf.Counts) → (untouched : Type 0) → Plan → Type 0
Refused middle new untouched plan = (plan ≡ fault_plan faults.NotBuilt []) × (new ≡ middle) × untouched

-- ---- the run

-- all that the device is given
abbrev pub job_of : (file place : List ℕ) → Job
job_of file place = record { file = file; script = no_script; main = None; args = []; limits = default_limits; place = place; patience = 1000 }

-- what was printed goes to out; how the run ended, and how the device fared, to notes
pub record OffloadedPlan (report : Report) (travel : Travel) (plan : Plan) : Type 0 where
  pub ended : List ℕ
  pub is_ended : ended_line report.ending ≡ Some ended
  pub is_plan : plan ≡ record { status = ended_status report.ending; out = report.out; notes = ended ++ travel_line travel }

-- a text says nothing of this file
abbrev pub MovesNoneOf : Plain → List ℕ → Type 0
MovesNoneOf plain text = (moved : Option ℕ) → IsPartition plain text moved → ⊥

-- The run over what was sent and got on the link. Where the link is trusted, its report is that of the run on one heap, and the device falls back only where a
-- count of the link rose; where it was prompt besides, it never does.
pub record Offloaded (place : List ℕ) (k : link.Known) (before : link.Counts) (k' : link.Known) (after : link.Counts) (tells : LinkTells) (file : List ℕ) (plain : Plain) (moved : Option ℕ) (plan : Plan) : Type 0 where
  pub report : Report
  pub travel : Travel
  pub offloads : Offloads plain moved (job_of file place) report travel k before tells.prompt k' after tells.untouched
  pub is_plan : OffloadedPlan report travel plan
  pub transparent : tells.trusted → Returns file report
  pub complete : tells.trusted → FallsOnlySo travel.fallback before after
  pub prompt : tells.trusted → tells.prompt → travel.fallback ≡ None
  pub migrates : travel.fallback ≡ None → report.ending ≡ ending.Returned → travel.migrations ≡ moved_calls plain (moves_of plain moved) plain.main.insns
  -- nothing is called on the link after the first call that fails or gives the end, nor where no function is moved
  pub last : tells.going_before → LastEnds tells.going tells.last travel.fallback
  pub unmoved : moved ≡ None → tells.untouched

-- by the text of the partition: it says nothing of the file, and the link is untouched; or the file runs
abbrev pub TextPlan : (place : List ℕ) → link.Known → link.Counts → link.Known → link.Counts → LinkTells → (file : List ℕ) → Plain → (text : List ℕ) → Plan → Type 0
TextPlan place k before k' after tells file plain text plan =
    (MovesNoneOf plain text × (plan ≡ fault_plan faults.NotBuilt []) × tells.untouched)
    ⊎ ((moved : Option ℕ) × IsPartition plain text moved × Offloaded place k before k' after tells file plain moved plan)

module _ (names : Names) (known : shelf.Known) (new : shelf.Counts) (k : link.Known) (before : link.Counts) (k' : link.Known) (after : link.Counts) (tells : LinkTells) where
  -- by the partition
  abbrev pub PartitionPlan : (file : List ℕ) → Plain → Plan → (text : List ℕ) → (middle : shelf.Counts) → Type 0
  PartitionPlan file plain plan text middle = (new ≡ middle) × TextPlan names.place k before k' after tells file plain text plan

  -- by the script
  abbrev pub ScriptPlan : (file : List ℕ) → Plain → Plan → (script : List ℕ) → (middle : shelf.Counts) → Type 0
  ScriptPlan file plain plan script middle =
      ((script ≢ no_script) × Refused middle new tells.untouched plan) ⊎ ((script ≡ no_script) × ReadPlan known middle names.partition longest_text new tells.untouched plan (PartitionPlan file plain plan))

  -- by the file
  abbrev pub FilePlan : Plan → (file : List ℕ) → (middle : shelf.Counts) → Type 0
  FilePlan plan file middle =
      (IsNotPlain file × Refused middle new tells.untouched plan) ⊎ ((plain : Plain) × IsPlain file plain × ReadPlan known middle names.script longest_text new tells.untouched plan (ScriptPlan file plain plan))

  -- each file is read and judged before the next is read
  abbrev pub OffloadPlan : (old : shelf.Counts) → Plan → Type 0
  OffloadPlan old plan = ReadPlan known old names.file longest_file new tells.untouched plan (FilePlan plan)
