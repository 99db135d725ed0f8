-- What `offload` comes to, and what each status says of it.
use Rattle.std.proofs.Common.{inl, inr, ◌≡◌, ◌≢◌, ◌⊎◌, ℕ, ◌≤◌, List, [], ◌++◌, length, Option, Some, refl, sym, ap, subst, ◌∙◌, arith}
use Rattle.std.specs.Prelude.{IfSome}
use Rattle.cc_meaning.specs.declared.report.Report.{Report}
use Rattle.cc_meaning.specs.declared.report.Ending.{Ending}
use Rattle.cc_meaning.specs.declared.report.Ending.TheVariants as ending
use Rattle.cc_meaning.specs.declared.travel.Travel.{Travel}
use Rattle.cc_outside.specs.Counting.{Rose}
use Rattle.cc_outside.specs.Telling.{more}
use Rattle.cc_outside.specs.Shelves.{Counts, NeverFall, IsFile, IsAbsent, IsLonger}
use Rattle.cc_output.specs.declared.plan.Plan.{Plan}
use Rattle.cc_output.specs.Carrying.{AsPlanned, Ends, Wrote}
use Rattle.cc_output.specs.Lines.{returned_line}
use Rattle.cc_output.specs.Travel.{ended_line, ended_status, travel_line}
use Rattle.cc_meaning_plain.specs.declared.plain.Plain.{Plain}
use Rattle.cc_meaning_plain.specs.Tables.{longest_file}
use Rattle.cc_meaning_plain.specs.Plain.{IsPlain}
use Rattle.cc_meaning_plain.specs.Laws.{PlainOnce}
use Rattle.cc_meaning_clone.specs.Hello.{no_script}
use Rattle.cc_partition.specs.Partition.{IsPartition}
use Rattle.cc_device.specs.Travelling.{FallsOnlySo}
use Rattle.cc_output.specs.declared.fault.Fault.{Fault}
use Rattle.cc_output.specs.declared.fault.Fault.TheVariants as faults
use Rattle.cc_output.specs.Faults.{status_of, fault_plan}
use Rattle.cc_cli.specs.Plans.{Returns}
use Rattle.cc_cli.specs.Offloading.{LinkTells, Names, longest_text, ReadPlan, failed, absent, too_large, was_read, OffloadedPlan, Offloaded, TextPlan, PartitionPlan, ScriptPlan, FilePlan, OffloadPlan}
use Rattle.cc_cli.specs.Runs.{Outside}
use Rattle.cc_cli.specs.Statuses.{MigratesAll, Says, NextRead, the_file, the_script, the_partition, IsRefused, by_file, by_script, by_partition, DueByFiles, RanThere, OffloadsFiles, Transparent}
use Rattle.cc_cli.proofs.Due.{told_early, told_due}

some_same : {A : Type 0} {a b : A} → Some a ≡ Some b → a ≡ b
some_same e = cc

rose_from : (a b c : ℕ) → a ≤ b → Rose b c → Rose a c
rose_from a b c l r = omega (arith, l, r)

falls_on : (a b c : Counts) → NeverFall a b → NeverFall b c → NeverFall a c
falls_on a b c h k = record {
  faults = let l = h.faults in let m = k.faults in omega (arith, l, m);
  write_faults = let l = h.write_faults in let m = k.write_faults in omega (arith, l, m);
  misses = let l = h.misses in let m = k.misses in omega (arith, l, m);
}

-- ---- the outcomes

-- a file wasn't read, what was read is refused, the file ran, or there was no memory
pub data Outcome (names : Names) (plan : Plan) (old new : Outside) (tells : LinkTells) : Type 0 where
  files_failed : (name : List ℕ) (limit : ℕ) → NextRead names old.known name limit → Rose old.counts.faults new.counts.faults → plan ≡ fault_plan faults.ReadFault name → tells.untouched →
      Outcome names plan old new tells
  file_absent : (name : List ℕ) (limit : ℕ) → NextRead names old.known name limit → IsAbsent old.known name → Rose old.counts.misses new.counts.misses → plan ≡ fault_plan faults.Absent name → tells.untouched →
      Outcome names plan old new tells
  file_too_large : (name : List ℕ) (limit : ℕ) → NextRead names old.known name limit → IsLonger old.known name limit → Rose old.counts.misses new.counts.misses → plan ≡ fault_plan faults.TooLarge name → tells.untouched →
      Outcome names plan old new tells
  files_refused : IsRefused names old.known → plan ≡ fault_plan faults.NotBuilt [] → tells.untouched → Outcome names plan old new tells
  file_ran : (file : List ℕ) (plain : Plain) (text : List ℕ) (moved : Option ℕ) → IsFile old.known names.file file → IsPlain file plain → IsFile old.known names.script no_script →
      IsFile old.known names.partition text → IsPartition plain text moved → Offloaded names.place old.link old.calls new.link new.calls tells file plain moved plan →
      Outcome names plan old new tells
  no_memory : plan ≡ fault_plan faults.Memory [] → Outcome names plan old new tells

module _ (names : Names) (plan : Plan) (old new : Outside) (tells : LinkTells) where
  abbrev Comes : Type 0
  Comes = Outcome names plan old new tells

  -- a file is read, and goes on where it was
  reads_on : (name : List ℕ) (limit : ℕ) → NextRead names old.known name limit → (middle : Counts) → NeverFall old.counts middle → (Then : List ℕ → Counts → Type 0)
      → ReadPlan old.known middle name limit new.counts tells.untouched plan Then
      → ((bytes : List ℕ) (later : Counts) → IsFile old.known name bytes → length bytes ≤ limit → NeverFall old.counts later → Then bytes later → Comes) → Comes
  reads_on name limit next middle falls Then (failed rose e u) go = files_failed name limit next (rose_from old.counts.faults middle.faults new.counts.faults falls.faults rose) e u
  reads_on name limit next middle falls Then (absent gone rose e u) go = file_absent name limit next gone (rose_from old.counts.misses middle.misses new.counts.misses falls.misses rose) e u
  reads_on name limit next middle falls Then (too_large long rose e u) go = file_too_large name limit next long (rose_from old.counts.misses middle.misses new.counts.misses falls.misses rose) e u
  reads_on name limit next middle falls Then (was_read bytes later is short l then) go = go bytes later is short (falls_on old.counts middle later falls l) then

  module _ (file : List ℕ) (plain : Plain) (is_file : IsFile old.known names.file file) (is_plain : IsPlain file plain) where
    by_text : (text : List ℕ) → IsFile old.known names.script no_script → IsFile old.known names.partition text → length text ≤ longest_text
        → TextPlan names.place old.link old.calls new.link new.calls tells file plain text plan → Comes
    by_text text script is short (inl refused) = files_refused (by_partition file plain text is_file is_plain script is short refused.0) refused.1 refused.2
    by_text text script is short (inr ran) = file_ran file plain text ran.0 is_file is_plain script is ran.1 ran.2

    by_the_script : (script : List ℕ) (middle : Counts) → IsFile old.known names.script script → length script ≤ longest_text → NeverFall old.counts middle
        → ScriptPlan names old.known new.counts old.link old.calls new.link new.calls tells file plain plan script middle → Comes
    by_the_script script middle is short falls (inl refused) = files_refused (by_script file plain script is_file is_plain is short refused.0) refused.1.0 refused.1.2
    by_the_script script middle is short falls (inr on) =
        let right : IsFile old.known names.script no_script = subst (λ (t : List ℕ). IsFile old.known names.script t) on.0 is in
        reads_on names.partition longest_text (the_partition file plain is_file is_plain right refl refl) middle falls
        (PartitionPlan names old.known new.counts old.link old.calls new.link new.calls tells file plain plan) on.1
        (λ text later is_text text_short text_falls then. by_text text right is_text text_short then.1)

  by_the_file : (file : List ℕ) (middle : Counts) → IsFile old.known names.file file → length file ≤ longest_file → NeverFall old.counts middle
      → FilePlan names old.known new.counts old.link old.calls new.link new.calls tells plan file middle → Comes
  by_the_file file middle is short falls (inl refused) = files_refused (by_file file is short refused.0) refused.1.0 refused.1.2
  by_the_file file middle is short falls (inr on) =
      reads_on names.script longest_text (the_script file on.0 is on.1 refl refl) middle falls
      (ScriptPlan names old.known new.counts old.link old.calls new.link new.calls tells file on.0 plan) on.2
      (λ script later is_script script_short script_falls then. by_the_script file on.0 is on.1 script later is_script script_short script_falls then)

  same_counts : NeverFall old.counts old.counts
  same_counts = record { faults = omega arith; write_faults = omega arith; misses = omega arith }

  pub outcome : OffloadPlan names old.known new.counts old.link old.calls new.link new.calls tells old.counts plan → Comes
  outcome h =
      reads_on names.file longest_file (the_file refl refl) old.counts same_counts
      (FilePlan names old.known new.counts old.link old.calls new.link new.calls tells plan) h
      (λ file later is short falls then. by_the_file file later is short falls then)

-- ---- what they end with

-- an end that has a line is a return or a stop
pub ended_so : (e : Ending) (line : List ℕ) → ended_line e ≡ Some line → (ended_status e ≡ 0) ⊎ (ended_status e ≡ 2)
ended_so ending.Returned line h = inl refl
ended_so (ending.Thrown class message) line h = absurd cc
ended_so (ending.Stopped stop) line h = inr refl

module _ (names : Names) (plan : Plan) (old new : Outside) (tells : LinkTells) (s : ℕ) where
  abbrev Came : Type 0
  Came = Outcome names plan old new tells

  abbrev Carried : Type 0
  Carried = Ends plan old.out old.notes s new.out new.notes

  abbrev Planned : Type 0
  Planned = AsPlanned plan old.out old.notes s new.out new.notes

  fault_status : (fault : Fault) (name : List ℕ) → plan ≡ fault_plan fault name → Planned → s ≡ status_of fault
  fault_status fault name e a = a.status ∙ ap (λ (p : Plan). p.status) e

  fault_says : (fault : Fault) (name : List ℕ) → plan ≡ fault_plan fault name → Planned → Says fault name old new
  fault_says fault name e a = a.notes ∙ ap (λ (p : Plan). more p.notes old.notes.text) e

  planned_at : (k : ℕ) → Carried → s ≡ k → k ≢ 70 → k ≢ 72 → Planned
  planned_at k (inl a) e n m = a
  planned_at k (inr (inl u)) e n m = absurd (n (sym e ∙ u.status))
  planned_at k (inr (inr (inl o))) e n m = absurd (m (sym e ∙ o.status))
  planned_at k (inr (inr (inr o))) e n m = absurd (m (sym e ∙ o.status))

  ran_status : (report : Report) (travel : Travel) → OffloadedPlan report travel plan → Planned → (s ≡ 0) ⊎ (s ≡ 2)
  ran_status report travel o a = by (ended_so report.ending o.ended o.is_ended)
    where
      same : s ≡ ended_status report.ending
      same = a.status ∙ ap (λ (p : Plan). p.status) o.is_plan

      by : (ended_status report.ending ≡ 0) ⊎ (ended_status report.ending ≡ 2) → (s ≡ 0) ⊎ (s ≡ 2)
      by (inl e) = inl (same ∙ e)
      by (inr e) = inr (same ∙ e)

  neither : (k : ℕ) → (s ≡ 0) ⊎ (s ≡ 2) → s ≡ k → k ≢ 0 → k ≢ 2 → ⊥
  neither k (inl z) e n m = n (sym e ∙ z)
  neither k (inr z) e n m = m (sym e ∙ z)

  no_fault_ran : (fault : Fault) (name : List ℕ) → plan ≡ fault_plan fault name → Planned → status_of fault ≢ 0 → status_of fault ≢ 2 → (s ≡ 0) ⊎ (s ≡ 2) → ⊥
  no_fault_ran fault name e a n m z = neither (status_of fault) z (fault_status fault name e a) n m

  ran_by : Came → Planned → (s ≡ 0) ⊎ (s ≡ 2) → RanThere names old s new tells
  ran_by (files_failed name limit next rose e u) a z = absurd (no_fault_ran faults.ReadFault name e a (λ h. omega (arith, h)) (λ h. omega (arith, h)) z)
  ran_by (file_absent name limit next gone rose e u) a z = absurd (no_fault_ran faults.Absent name e a (λ h. omega (arith, h)) (λ h. omega (arith, h)) z)
  ran_by (file_too_large name limit next long rose e u) a z = absurd (no_fault_ran faults.TooLarge name e a (λ h. omega (arith, h)) (λ h. omega (arith, h)) z)
  ran_by (files_refused is e u) a z = absurd (no_fault_ran faults.NotBuilt [] e a (λ h. omega (arith, h)) (λ h. omega (arith, h)) z)
  ran_by (no_memory e) a z = absurd (no_fault_ran faults.Memory [] e a (λ h. omega (arith, h)) (λ h. omega (arith, h)) z)
  ran_by (file_ran file plain text moved is_file is_plain is_script is_text is_partition o) a z = record {
    file = file;
    plain = plain;
    text = text;
    moved = moved;
    report = o.report;
    travel = o.travel;
    ended = o.is_plan.ended;
    is_file = is_file;
    is_plain = is_plain;
    is_script = is_script;
    is_text = is_text;
    is_partition = is_partition;
    offloads = o.offloads;
    status = a.status ∙ ap (λ (p : Plan). p.status) o.is_plan.is_plan;
    is_ended = o.is_plan.is_ended;
    out = a.out ∙ ap (λ (p : Plan). more p.out old.out.text) o.is_plan.is_plan;
    notes = a.notes ∙ ap (λ (p : Plan). more p.notes old.notes.text) o.is_plan.is_plan;
    transparent = o.transparent;
    complete = o.complete;
    prompt = o.prompt;
    migrates = o.migrates;
    last = o.last;
    unmoved = o.unmoved;
  }

  throws_by : Came → Planned → s ≢ 1
  throws_by (files_failed name limit next rose e u) a z = omega (arith, fault_status faults.ReadFault name e a, z)
  throws_by (file_absent name limit next gone rose e u) a z = omega (arith, fault_status faults.Absent name e a, z)
  throws_by (file_too_large name limit next long rose e u) a z = omega (arith, fault_status faults.TooLarge name e a, z)
  throws_by (files_refused is e u) a z = omega (arith, fault_status faults.NotBuilt [] e a, z)
  throws_by (no_memory e) a z = omega (arith, fault_status faults.Memory [] e a, z)
  throws_by (file_ran file plain text moved h0 h1 h2 h3 h4 o) a z = neither 1 (ran_status o.report o.travel o.is_plan a) z (λ h. omega (arith, h)) (λ h. omega (arith, h))

  refused_by : Came → Planned → s ≡ 80 → IsRefused names old.known × Says faults.NotBuilt [] old new × tells.untouched
  refused_by (files_failed name limit next rose e u) a z = absurd (omega (arith, fault_status faults.ReadFault name e a, z))
  refused_by (file_absent name limit next gone rose e u) a z = absurd (omega (arith, fault_status faults.Absent name e a, z))
  refused_by (file_too_large name limit next long rose e u) a z = absurd (omega (arith, fault_status faults.TooLarge name e a, z))
  refused_by (files_refused is e u) a z = (is, fault_says faults.NotBuilt [] e a, u)
  refused_by (no_memory e) a z = absurd (omega (arith, fault_status faults.Memory [] e a, z))
  refused_by (file_ran file plain text moved h0 h1 h2 h3 h4 o) a z = absurd (neither 80 (ran_status o.report o.travel o.is_plan a) z (λ h. omega (arith, h)) (λ h. omega (arith, h)))

  failed_by : Came → Planned → s ≡ 71 → (name : List ℕ) × (limit : ℕ) × NextRead names old.known name limit × Rose old.counts.faults new.counts.faults × Says faults.ReadFault name old new × tells.untouched
  failed_by (files_failed name limit next rose e u) a z = (name, limit, next, rose, fault_says faults.ReadFault name e a, u)
  failed_by (file_absent name limit next gone rose e u) a z = absurd (omega (arith, fault_status faults.Absent name e a, z))
  failed_by (file_too_large name limit next long rose e u) a z = absurd (omega (arith, fault_status faults.TooLarge name e a, z))
  failed_by (files_refused is e u) a z = absurd (omega (arith, fault_status faults.NotBuilt [] e a, z))
  failed_by (no_memory e) a z = absurd (omega (arith, fault_status faults.Memory [] e a, z))
  failed_by (file_ran file plain text moved h0 h1 h2 h3 h4 o) a z = absurd (neither 71 (ran_status o.report o.travel o.is_plan a) z (λ h. omega (arith, h)) (λ h. omega (arith, h)))

  absent_by : Came → Planned → s ≡ 73 → (name : List ℕ) × (limit : ℕ) × NextRead names old.known name limit × IsAbsent old.known name × Rose old.counts.misses new.counts.misses × Says faults.Absent name old new × tells.untouched
  absent_by (files_failed name limit next rose e u) a z = absurd (omega (arith, fault_status faults.ReadFault name e a, z))
  absent_by (file_absent name limit next gone rose e u) a z = (name, limit, next, gone, rose, fault_says faults.Absent name e a, u)
  absent_by (file_too_large name limit next long rose e u) a z = absurd (omega (arith, fault_status faults.TooLarge name e a, z))
  absent_by (files_refused is e u) a z = absurd (omega (arith, fault_status faults.NotBuilt [] e a, z))
  absent_by (no_memory e) a z = absurd (omega (arith, fault_status faults.Memory [] e a, z))
  absent_by (file_ran file plain text moved h0 h1 h2 h3 h4 o) a z = absurd (neither 73 (ran_status o.report o.travel o.is_plan a) z (λ h. omega (arith, h)) (λ h. omega (arith, h)))

  too_large_by : Came → Planned → s ≡ 74 → (name : List ℕ) × (limit : ℕ) × NextRead names old.known name limit × IsLonger old.known name limit × Rose old.counts.misses new.counts.misses × Says faults.TooLarge name old new × tells.untouched
  too_large_by (files_failed name limit next rose e u) a z = absurd (omega (arith, fault_status faults.ReadFault name e a, z))
  too_large_by (file_absent name limit next gone rose e u) a z = absurd (omega (arith, fault_status faults.Absent name e a, z))
  too_large_by (file_too_large name limit next long rose e u) a z = (name, limit, next, long, rose, fault_says faults.TooLarge name e a, u)
  too_large_by (files_refused is e u) a z = absurd (omega (arith, fault_status faults.NotBuilt [] e a, z))
  too_large_by (no_memory e) a z = absurd (omega (arith, fault_status faults.Memory [] e a, z))
  too_large_by (file_ran file plain text moved h0 h1 h2 h3 h4 o) a z = absurd (neither 74 (ran_status o.report o.travel o.is_plan a) z (λ h. omega (arith, h)) (λ h. omega (arith, h)))

  planned_ran : Carried → (s ≡ 0) ⊎ (s ≡ 2) → Planned
  planned_ran c (inl z) = planned_at 0 c z (λ e. omega (arith, e)) (λ e. omega (arith, e))
  planned_ran c (inr z) = planned_at 2 c z (λ e. omega (arith, e)) (λ e. omega (arith, e))

  -- the status that is due by the files, of a plan that came of them
  due_by : PlainOnce → OffloadPlan names old.known new.counts old.link old.calls new.link new.calls tells old.counts plan → Carried → IfSome old.known.files (λ files. DueByFiles names files s)
  due_by once h (inl a) = told_due old.known.files names plan s old.counts new.counts old.link old.calls new.link new.calls tells a.status (λ report travel o. ran_status report travel o a) once h
  due_by once h (inr (inl u)) = told_early s old.known.files names (inl u.status)
  due_by once h (inr (inr (inl o))) = told_early s old.known.files names (inr (inr o.status))
  due_by once h (inr (inr (inr o))) = told_early s old.known.files names (inr (inr o.status))

  due_memory : plan ≡ fault_plan faults.Memory [] → Carried → IfSome old.known.files (λ files. DueByFiles names files s)
  due_memory e (inl a) = told_early s old.known.files names (inl (fault_status faults.Memory [] e a))
  due_memory e (inr (inl u)) = told_early s old.known.files names (inl u.status)
  due_memory e (inr (inr (inl o))) = told_early s old.known.files names (inr (inr o.status))
  due_memory e (inr (inr (inr o))) = told_early s old.known.files names (inr (inr o.status))

  offloads_files : IfSome old.known.files (λ files. DueByFiles names files s) → Came → Carried → OffloadsFiles names old s new tells
  offloads_files due o c = record {
    due = due;
    ran = λ z. ran_by o (planned_ran c z) z;
    never_throws = λ z. throws_by o (planned_at 1 c z (λ e. omega (arith, e)) (λ e. omega (arith, e))) z;
    refused = λ z. refused_by o (planned_at 80 c z (λ e. omega (arith, e)) (λ e. omega (arith, e))) z;
    failed = λ z. failed_by o (planned_at 71 c z (λ e. omega (arith, e)) (λ e. omega (arith, e))) z;
    absent = λ z. absent_by o (planned_at 73 c z (λ e. omega (arith, e)) (λ e. omega (arith, e))) z;
    too_large = λ z. too_large_by o (planned_at 74 c z (λ e. omega (arith, e)) (λ e. omega (arith, e))) z;
  }

  pub planned_files : PlainOnce → OffloadPlan names old.known new.counts old.link old.calls new.link new.calls tells old.counts plan → Carried → OffloadsFiles names old s new tells
  planned_files once h c = offloads_files (due_by once h c) (outcome names plan old new tells h) c

  pub memory_files : plan ≡ fault_plan faults.Memory [] → Carried → OffloadsFiles names old s new tells
  memory_files e c = offloads_files (due_memory e c) (no_memory e) c

-- ---- over a link that is trusted

module _ (names : Names) (old new : Outside) (s : ℕ) (tells : LinkTells) where
  abbrev There : Type 0
  There = RanThere names old s new tells

  returned_words : (r : There) → Returns r.file r.report → r.ended ≡ returned_line
  returned_words r t = some_same (sym r.is_ended ∙ ap ended_line t.returned)

  returned_status : (r : There) → Returns r.file r.report → s ≡ 0
  returned_status r t = r.status ∙ ap ended_status t.returned

  pub is_transparent : OffloadsFiles names old s new tells → tells.trusted → Transparent names old s new tells.prompt
  is_transparent o h = record {
    done = λ z. done (o.ran (inl z));
    never_stops = λ z. stops (o.ran (inr z)) z;
  }
    where
      migrates_all : (r : There) → tells.prompt → MigratesAll names old.known r.file r.travel
      migrates_all r p = record {
        plain = r.plain;
        text = r.text;
        moved = r.moved;
        is_plain = r.is_plain;
        is_text = r.is_text;
        is_partition = r.is_partition;
        all = r.migrates (r.prompt h p) (r.transparent h).returned;
        none = r.prompt h p;
      }

      done : There → (file : List ℕ) × (report : Report) × (travel : Travel) × IsFile old.known names.file file × Returns file report
          × Wrote report.out old.out new.out × Wrote (returned_line ++ travel_line travel) old.notes new.notes × FallsOnlySo travel.fallback old.calls new.calls
          × (tells.prompt → MigratesAll names old.known file travel)
      done r = (r.file, r.report, r.travel, r.is_file, r.transparent h, r.out, subst (λ (l : List ℕ). Wrote (l ++ travel_line r.travel) old.notes new.notes) (returned_words r (r.transparent h)) r.notes, r.complete h, (λ p. migrates_all r p))

      stops : There → s ≡ 2 → ⊥
      stops r z = omega (arith, returned_status r (r.transparent h), z)
