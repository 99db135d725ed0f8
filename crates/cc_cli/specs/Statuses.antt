-- What each status of a run of the program says.
use Rattle.std.specs.Prelude.{◌≡◌, ◌≢◌, ◌⊎◌, ℕ, ◌<◌, ◌≤◌, List, [], ◌++◌, length, Option, Some, None, IfSome}
use Rattle.cc_meaning.specs.declared.report.Report.{Report}
use Rattle.cc_meaning.specs.declared.report.Ending.TheVariants as ending
use Rattle.cc_outside.specs.Counting.{Rose}
use Rattle.cc_outside.specs.Shelves.{Files, Known, Tells, IsFile, IsAbsent, IsLonger}
use Rattle.cc_output.specs.Carrying.{Wrote}
use Rattle.cc_meaning.specs.declared.travel.Travel.{Travel}
use Rattle.cc_output.specs.Lines.{returned_line}
use Rattle.cc_output.specs.Travel.{ended_line, ended_status, travel_line}
use Rattle.cc_meaning_clone.specs.Hello.{no_script}
use Rattle.cc_meaning_device.specs.Complete.{moved_calls}
use Rattle.cc_partition.specs.Partition.{IsPartition}
use Rattle.cc_device.specs.Travelling.{moves_of, Offloads, FallsOnlySo, LastEnds}
use Rattle.cc_meaning_plain.specs.declared.plain.Plain.{Plain}
use Rattle.cc_meaning_plain.specs.Tables.{longest_file}
use Rattle.cc_meaning_plain.specs.Plain.{IsPlain}
use Rattle.cc_output.specs.declared.fault.Fault.{Fault}
use Rattle.cc_output.specs.declared.fault.Fault.TheVariants as faults
use Rattle.cc_output.specs.Faults.{status_of, line_of}
use Rattle.cc_cli.specs.Plans.{file_named, IsNotPlain, Returns}
use Rattle.cc_cli.specs.Offloading.{LinkTells, Names, offload_named, longest_text, job_of, MovesNoneOf}
use Rattle.cc_cli.specs.Runs.{Outside}

-- the status is the one that is due, but where there was no memory, reading failed or a sink failed
abbrev pub IsDue : ℕ → ℕ → Type 0
IsDue due s = (s ≡ due) ⊎ ((s ≡ 70) ⊎ ((s ≡ 71) ⊎ (s ≡ 72)))

-- the status that is due by a file
pub record DueBy (file : Option (List ℕ)) (s : ℕ) : Type 0 where
  pub absent : file ≡ None → IsDue 73 s
  pub too_large : (bytes : List ℕ) → file ≡ Some bytes → longest_file < length bytes → IsDue 74 s
  pub not_plain : (bytes : List ℕ) → file ≡ Some bytes → length bytes ≤ longest_file → IsNotPlain bytes → IsDue 80 s
  pub plain : (bytes : List ℕ) (plain : Plain) → file ≡ Some bytes → IsPlain bytes plain → IsDue 0 s

-- the line of a fault is on notes
abbrev pub Says : Fault → List ℕ → Outside → Outside → Type 0
Says fault name old new = Wrote (line_of fault name) old.notes new.notes

-- `run FILE`
pub record RunsFile (name : List ℕ) (old : Outside) (s : ℕ) (new : Outside) : Type 0 where
  -- where the files are told, the status is due by the file
  pub due : Tells old.known name (λ file. DueBy file s)
  -- out has the output of the run on one heap, and notes say that it returned
  pub done : s ≡ 0 → (bytes : List ℕ) × (report : Report) × IsFile old.known name bytes × (length bytes ≤ longest_file) × Returns bytes report
      × Wrote report.out old.out new.out × Wrote returned_line old.notes new.notes
  pub not_plain : s ≡ 80 → (bytes : List ℕ) × IsFile old.known name bytes × (length bytes ≤ longest_file) × IsNotPlain bytes × Says faults.NotBuilt name old new
  pub failed : s ≡ 71 → Rose old.counts.faults new.counts.faults × Says faults.ReadFault name old new
  pub absent : s ≡ 73 → IsAbsent old.known name × Rose old.counts.misses new.counts.misses × Says faults.Absent name old new
  pub too_large : s ≡ 74 → IsLonger old.known name longest_file × Rose old.counts.misses new.counts.misses × Says faults.TooLarge name old new

-- ---- `offload FILE SCRIPT PARTITION PLACE`

-- this file is the next to be read, with this limit: those before it were read, and are as they must be
pub data NextRead (names : Names) (known : Known) (name : List ℕ) (limit : ℕ) : Type 0 where
  the_file : name ≡ names.file → limit ≡ longest_file → NextRead names known name limit
  the_script : (file : List ℕ) (plain : Plain) → IsFile known names.file file → IsPlain file plain → name ≡ names.script → limit ≡ longest_text → NextRead names known name limit
  the_partition : (file : List ℕ) (plain : Plain) → IsFile known names.file file → IsPlain file plain → IsFile known names.script no_script → name ≡ names.partition → limit ≡ longest_text →
      NextRead names known name limit

-- this was read and isn't as it must be: the file is no plain file, the script isn't the one that there is, or the partition says nothing of the file
pub data IsRefused (names : Names) (known : Known) : Type 0 where
  by_file : (file : List ℕ) → IsFile known names.file file → length file ≤ longest_file → IsNotPlain file → IsRefused names known
  by_script : (file : List ℕ) (plain : Plain) (script : List ℕ) → IsFile known names.file file → IsPlain file plain → IsFile known names.script script → length script ≤ longest_text →
      script ≢ no_script → IsRefused names known
  by_partition : (file : List ℕ) (plain : Plain) (text : List ℕ) → IsFile known names.file file → IsPlain file plain → IsFile known names.script no_script →
      IsFile known names.partition text → length text ≤ longest_text → MovesNoneOf plain text → IsRefused names known

-- ---- the status that is due by the files

-- A file is the next to be read, and is told: there is none, or it is too long, or it is read, and the status is due by its bytes.
pub record DueByNext (file : Option (List ℕ)) (limit s : ℕ) (Then : List ℕ → Type 0) : Type 0 where
  pub absent : file ≡ None → IsDue 73 s
  pub too_large : (bytes : List ℕ) → file ≡ Some bytes → limit < length bytes → IsDue 74 s
  pub read : (bytes : List ℕ) → file ≡ Some bytes → length bytes ≤ limit → Then bytes

-- it says nothing of the file; or the file runs, and returns or stops
abbrev pub DueByPartition : Plain → ℕ → List ℕ → Type 0
DueByPartition plain s text = (MovesNoneOf plain text → IsDue 80 s) × ((moved : Option ℕ) → IsPartition plain text moved → (s ≡ 2) ⊎ IsDue 0 s)

-- it isn't the one that there is, or the partition is next
abbrev pub DueByScript : Names → Files → Plain → ℕ → List ℕ → Type 0
DueByScript names files plain s script =
    (script ≢ no_script → IsDue 80 s) × (script ≡ no_script → DueByNext (files names.partition) longest_text s (DueByPartition plain s))

-- it is no plain file, or the script is next
abbrev pub DueByFile : Names → Files → ℕ → List ℕ → Type 0
DueByFile names files s file =
    (IsNotPlain file → IsDue 80 s) × ((plain : Plain) → IsPlain file plain → DueByNext (files names.script) longest_text s (DueByScript names files plain s))

abbrev pub DueByFiles : Names → Files → ℕ → Type 0
DueByFiles names files s = DueByNext (files names.file) longest_file s (DueByFile names files s)

-- ---- what was written

-- the file ran, and this was written
pub record RanThere (names : Names) (old : Outside) (s : ℕ) (new : Outside) (tells : LinkTells) : Type 0 where
  pub file : List ℕ
  pub plain : Plain
  pub text : List ℕ
  pub moved : Option ℕ
  pub report : Report
  pub travel : Travel
  pub ended : List ℕ
  pub is_file : IsFile old.known names.file file
  pub is_plain : IsPlain file plain
  pub is_script : IsFile old.known names.script no_script
  pub is_text : IsFile old.known names.partition text
  pub is_partition : IsPartition plain text moved
  -- by what was sent and got on the link
  pub offloads : Offloads plain moved (job_of file names.place) report travel old.link old.calls tells.prompt new.link new.calls tells.untouched
  pub status : s ≡ ended_status report.ending
  pub is_ended : ended_line report.ending ≡ Some ended
  pub out : Wrote report.out old.out new.out
  pub notes : Wrote (ended ++ travel_line travel) old.notes new.notes
  pub transparent : tells.trusted → Returns file report
  pub complete : tells.trusted → FallsOnlySo travel.fallback old.calls new.calls
  pub prompt : tells.trusted → tells.prompt → travel.fallback ≡ None
  pub migrates : travel.fallback ≡ None → report.ending ≡ ending.Returned → travel.migrations ≡ moved_calls plain (moves_of plain moved) plain.main.insns
  -- nothing is called on the link after the first call that fails or gives the end, nor where no function is moved
  pub last : tells.going_before → LastEnds tells.going tells.last travel.fallback
  pub unmoved : moved ≡ None → tells.untouched

pub record OffloadsFiles (names : Names) (old : Outside) (s : ℕ) (new : Outside) (tells : LinkTells) : Type 0 where
  -- where the files are told, the status is due by them
  pub due : IfSome old.known.files (λ files. DueByFiles names files s)
  -- it ran to its end, or stopped; no plain file throws
  pub ran : (s ≡ 0) ⊎ (s ≡ 2) → RanThere names old s new tells
  pub never_throws : s ≢ 1
  pub refused : s ≡ 80 → IsRefused names old.known × Says faults.NotBuilt [] old new × tells.untouched
  pub failed : s ≡ 71 → (name : List ℕ) × (limit : ℕ) × NextRead names old.known name limit × Rose old.counts.faults new.counts.faults × Says faults.ReadFault name old new × tells.untouched
  pub absent : s ≡ 73 → (name : List ℕ) × (limit : ℕ) × NextRead names old.known name limit × IsAbsent old.known name × Rose old.counts.misses new.counts.misses
      × Says faults.Absent name old new × tells.untouched
  pub too_large : s ≡ 74 → (name : List ℕ) × (limit : ℕ) × NextRead names old.known name limit × IsLonger old.known name limit × Rose old.counts.misses new.counts.misses
      × Says faults.TooLarge name old new × tells.untouched

-- ---- all commands

-- the faults of runs, which judge no classes and write no files
abbrev pub IsOfRuns : Fault → Type 0
IsOfRuns faults.Usage = Unit {0}
IsOfRuns (faults.Dex fault) = ⊥
IsOfRuns (faults.Program fault) = ⊥
IsOfRuns (faults.Verify name fault) = ⊥
IsOfRuns faults.Memory = Unit {0}
IsOfRuns faults.ReadFault = Unit {0}
IsOfRuns faults.WriteFault = ⊥
IsOfRuns faults.Absent = Unit {0}
IsOfRuns faults.TooLarge = Unit {0}
IsOfRuns faults.NotBuilt = Unit {0}

pub record Statuses (words : List (List ℕ)) (old : Outside) (s : ℕ) (new : Outside) (tells : LinkTells) : Type 0 where
  -- the words are no command, and the shelf and the link were left alone
  pub usage : s ≡ 64 → (file_named words ≡ None) × (offload_named words ≡ None) × (new.counts ≡ old.counts) × tells.untouched × Says faults.Usage [] old new
  pub no_command : file_named words ≡ None → offload_named words ≡ None → (s ≡ 64) ⊎ ((s ≡ 70) ⊎ (s ≡ 72))
  pub run : (name : List ℕ) → file_named words ≡ Some name → RunsFile name old s new
  pub offload : (names : Names) → offload_named words ≡ Some names → OffloadsFiles names old s new tells
  -- no memory: nothing is on out, and on notes nothing or the line that says so
  pub memory : s ≡ 70 → (new.notes.text ≡ old.notes.text) ⊎ Says faults.Memory [] old new
  -- a sink failed
  pub lost : s ≡ 72 → Rose old.out.faults new.out.faults ⊎ Rose old.notes.faults new.notes.faults
  pub no_output : s ≢ 0 → s ≢ 2 → s ≢ 72 → new.out.text ≡ old.out.text
  -- `run` never stops
  pub stopped : s ≡ 2 → (names : Names) × (offload_named words ≡ Some names)
  pub others : (s ≡ 0) ⊎ ((s ≡ 2) ⊎ ((s ≡ 72) ⊎ ((fault : Fault) × IsOfRuns fault × (s ≡ status_of fault))))

-- ---- what offloading is for

-- the partition that was read moves a function, or none; each of its calls in `main` migrated, and there was no fallback
pub record MigratesAll (names : Names) (known : Known) (file : List ℕ) (travel : Travel) : Type 0 where
  pub plain : Plain
  pub text : List ℕ
  pub moved : Option ℕ
  pub is_plain : IsPlain file plain
  pub is_text : IsFile known names.partition text
  pub is_partition : IsPartition plain text moved
  pub all : travel.migrations ≡ moved_calls plain (moves_of plain moved) plain.main.insns
  pub none : travel.fallback ≡ None

-- Over a fresh link that tells that it gives a front of a clone's answers, a program that ran wrote what the run on one heap writes, then how it ended, and then
-- one line on the travel; and it returned. The line names a fallback only where, in this very call, a call of the link failed, moved nothing, or gave the end; over
-- a link that is prompt besides it names none, and as many migrations as `main` has calls of the moved function.
pub record Transparent (names : Names) (old : Outside) (s : ℕ) (new : Outside) (prompt : Type 0) : Type 0 where
  pub done : s ≡ 0 → (file : List ℕ) × (report : Report) × (travel : Travel) × IsFile old.known names.file file × Returns file report
      × Wrote report.out old.out new.out × Wrote (returned_line ++ travel_line travel) old.notes new.notes × FallsOnlySo travel.fallback old.calls new.calls
      × (prompt → MigratesAll names old.known file travel)
  pub never_stops : s ≢ 2
