-- What each status says, of a run.
use Rattle.std.proofs.Common.{inl, inr, ◌≡◌, ◌≢◌, ◌⊎◌, ℕ, ◌<◌, ◌≤◌, List, [], ◌∷◌, length, Option, Some, None, refl, sym, ap, subst, ◌∙◌, arith}
use Rattle.std.specs.Prelude.{IfSome, IsSomeAnd}
use Rattle.std.proofs.lemmas.List.{append-nil}
use Rattle.cc_meaning.specs.declared.report.Report.{Report}
use Rattle.cc_outside.specs.Counting.{Rose}
use Rattle.cc_outside.specs.Telling.{more}
use Rattle.cc_outside.specs.Shelves.{Files, Tells, IsFile, IsAbsent, IsLonger}
use Rattle.cc_outside.specs.Sinks.{Pipe}
use Rattle.cc_output.specs.declared.plan.Plan.{Plan}
use Rattle.cc_output.specs.Carrying.{AsPlanned, Ends, Wrote}
use Rattle.cc_meaning.specs.declared.travel.Travel.{Travel}
use Rattle.cc_output.specs.Lines.{returned_line}
use Rattle.cc_output.specs.Travel.{ended_status}
use Rattle.cc_meaning_plain.specs.declared.plain.Plain.{Plain}
use Rattle.cc_meaning_plain.specs.Tables.{longest_file}
use Rattle.cc_meaning_plain.specs.Plain.{IsPlain}
use Rattle.cc_meaning_plain.specs.Laws.{PlainOnce}
use Rattle.cc_output.specs.declared.fault.Fault.{Fault}
use Rattle.cc_output.specs.declared.fault.Fault.TheVariants as faults
use Rattle.cc_output.specs.Faults.{status_of, fault_plan}
use Rattle.cc_cli.specs.Plans.{file_named, IsNotPlain, Returns, ran_plan, RunPlan, failed, absent, too_large, was_read}
use Rattle.cc_cli.specs.Offloading.{LinkTells, Names, offload_named, OffloadedPlan}
use Rattle.cc_cli.specs.Runs.{Outside, sources, CallPlan, WordsPlan, Runs}
use Rattle.cc_cli.specs.Statuses.{IsOfRuns, DueBy, Says, RunsFile, OffloadsFiles, Statuses, Transparent}
use Rattle.cc_cli.proofs.Outcomes.{is_transparent, Outcome, files_failed, file_absent, file_too_large, files_refused, file_ran, no_memory, outcome, ended_so, planned_files, memory_files}

some_same : {A : Type 0} {a b : A} → Some a ≡ Some b → a ≡ b
some_same e = cc

more-nil : (o : Option (List ℕ)) → more [] o ≡ o
more-nil None = refl
more-nil (Some xs) = ap Some (append-nil xs)

-- ---- the status that is due by a file

module _ (file : Option (List ℕ)) (s : ℕ) where
  due_early : (s ≡ 70) ⊎ ((s ≡ 71) ⊎ (s ≡ 72)) → DueBy file s
  due_early h = record { absent = λ e. inr h; too_large = λ bytes e l. inr h; not_plain = λ bytes e l n. inr h; plain = λ bytes plain e is. inr h }

  due_absent : s ≡ 73 → file ≡ None → DueBy file s
  due_absent h gone = record {
    absent = λ e. inl h;
    too_large = λ bytes e l. absurd (none_some bytes (sym gone ∙ e));
    not_plain = λ bytes e l n. absurd (none_some bytes (sym gone ∙ e));
    plain = λ bytes plain e is. absurd (none_some bytes (sym gone ∙ e));
  }
    where
      none_some : (bytes : List ℕ) → None ≡ Some bytes → ⊥
      none_some bytes e = cc

  module _ (here : List ℕ) (there : file ≡ Some here) where
    not_gone : file ≡ None → ⊥
    not_gone e = let f : Some here ≡ None = sym there ∙ e in cc

    is_here : (bytes : List ℕ) → file ≡ Some bytes → here ≡ bytes
    is_here bytes e = some_same (sym there ∙ e)

    due_long : s ≡ 74 → longest_file < length here → DueBy file s
    due_long h long = record {
      absent = λ e. absurd (not_gone e);
      too_large = λ bytes e l. inl h;
      not_plain = λ bytes e l n. let m = ap length (is_here bytes e) in absurd (omega arith);
      plain = λ bytes plain e is. let m = ap length (is_here bytes e) in let l = is.size in absurd (omega arith);
    }

    due_refused : s ≡ 80 → length here ≤ longest_file → IsNotPlain here → DueBy file s
    due_refused h short refused = record {
      absent = λ e. absurd (not_gone e);
      too_large = λ bytes e l. let m = ap length (is_here bytes e) in absurd (omega arith);
      not_plain = λ bytes e l n. inl h;
      plain = λ bytes plain e is. absurd (refused plain (subst (λ (b : List ℕ). IsPlain b plain) (sym (is_here bytes e)) is));
    }

    due_done : s ≡ 0 → length here ≤ longest_file → (plain : Plain) → IsPlain here plain → DueBy file s
    due_done h short done is = record {
      absent = λ e. absurd (not_gone e);
      too_large = λ bytes e l. let m = ap length (is_here bytes e) in absurd (omega arith);
      not_plain = λ bytes e l n. absurd (n done (subst (λ (b : List ℕ). IsPlain b done) (is_here bytes e) is));
      plain = λ bytes plain e is'. inl h;
    }

-- what follows from what is told is told
told : (o : Option Files) (name : List ℕ) (P Q : Option (List ℕ) → Type 0) → ((file : Option (List ℕ)) → P file → Q file) → IfSome o (λ files. P (files name)) → IfSome o (λ files. Q (files name))
told None name P Q f h = tt
told (Some files) name P Q f h = f (files name) h

all_told : (o : Option Files) (name : List ℕ) (Q : Option (List ℕ) → Type 0) → ((file : Option (List ℕ)) → Q file) → IfSome o (λ files. Q (files name))
all_told None name Q f = tt
all_told (Some files) name Q f = f (files name)

long_file : (s : ℕ) → s ≡ 74 → (file : Option (List ℕ)) → IsSomeAnd file (λ bytes. longest_file < length bytes) → DueBy file s
long_file s h (Some bytes) l = due_long (Some bytes) s bytes refl h l
long_file s h None l = absurd l

-- words that offload name no file to run
no_run_named : (words : List (List ℕ)) (names : Names) → offload_named words ≡ Some names → file_named words ≡ None
no_run_named [] names e = refl
no_run_named (command ∷ []) names e = refl
no_run_named (command ∷ file ∷ []) names e = absurd (none_some names e)
  where
    none_some : (names : Names) → None ≡ Some names → ⊥
    none_some names e = cc
no_run_named (command ∷ file ∷ third ∷ rest) names e = refl

-- ---- the ends of a plan

module _ (plan : Plan) (old new : Outside) (s : ℕ) where
  abbrev Carried : Type 0
  Carried = Ends plan old.out old.notes s new.out new.notes

  abbrev Planned : Type 0
  Planned = AsPlanned plan old.out old.notes s new.out new.notes

  -- a fault's plan was carried out
  fault_status : (fault : Fault) (name : List ℕ) → plan ≡ fault_plan fault name → Planned → s ≡ status_of fault
  fault_status fault name e a = a.status ∙ ap (λ (p : Plan). p.status) e

  fault_says : (fault : Fault) (name : List ℕ) → plan ≡ fault_plan fault name → Planned → Says fault name old new
  fault_says fault name e a = a.notes ∙ ap (λ (p : Plan). more p.notes old.notes.text) e

  fault_quiet : (fault : Fault) (name : List ℕ) → plan ≡ fault_plan fault name → Planned → new.out.text ≡ old.out.text
  fault_quiet fault name e a = a.out ∙ ap (λ (p : Plan). more p.out old.out.text) e ∙ more-nil old.out.text

  ran_status : (report : Report) → plan ≡ ran_plan report → Planned → s ≡ 0
  ran_status report e a = a.status ∙ ap (λ (p : Plan). p.status) e

  ran_out : (report : Report) → plan ≡ ran_plan report → Planned → Wrote report.out old.out new.out
  ran_out report e a = a.out ∙ ap (λ (p : Plan). more p.out old.out.text) e

  ran_notes : (report : Report) → plan ≡ ran_plan report → Planned → Wrote returned_line old.notes new.notes
  ran_notes report e a = a.notes ∙ ap (λ (p : Plan). more p.notes old.notes.text) e

  -- the plan was carried out, or the status is 70 or 72
  planned_at : (k : ℕ) → Carried → s ≡ k → k ≢ 70 → k ≢ 72 → Planned
  planned_at k (inl a) e n m = a
  planned_at k (inr (inl u)) e n m = absurd (n (sym e ∙ u.status))
  planned_at k (inr (inr (inl o))) e n m = absurd (m (sym e ∙ o.status))
  planned_at k (inr (inr (inr o))) e n m = absurd (m (sym e ∙ o.status))

  lost_by : Carried → (Planned → s ≢ 72) → s ≡ 72 → Rose old.out.faults new.out.faults ⊎ Rose old.notes.faults new.notes.faults
  lost_by (inl a) n e = absurd (n a e)
  lost_by (inr (inl u)) n e = absurd (omega (arith, u.status, e))
  lost_by (inr (inr (inl o))) n e = inl o.faults
  lost_by (inr (inr (inr o))) n e = inr o.faults

  -- ---- `run FILE`

  module _ (name : List ℕ) (run : RunPlan old.known old.counts name new.counts plan) where
    abbrev IsRun : Type 0
    IsRun = RunPlan old.known old.counts name new.counts plan

    done_by : IsRun → Planned → s ≡ 0 → (bytes : List ℕ) × (report : Report) × IsFile old.known name bytes × (length bytes ≤ longest_file) × Returns bytes report
        × Wrote report.out old.out new.out × Wrote returned_line old.notes new.notes
    done_by (failed h e) a z = absurd (omega (arith, fault_status faults.ReadFault name e a, z))
    done_by (absent h r e) a z = absurd (omega (arith, fault_status faults.Absent name e a, z))
    done_by (too_large h r e) a z = absurd (omega (arith, fault_status faults.TooLarge name e a, z))
    done_by (was_read bytes is l (inl n)) a z = absurd (omega (arith, fault_status faults.NotBuilt name n.1 a, z))
    done_by (was_read bytes is l (inr d)) a z = (bytes, d.0, is, l, d.1, ran_out d.0 d.2 a, ran_notes d.0 d.2 a)

    not_plain_by : IsRun → Planned → s ≡ 80 → (bytes : List ℕ) × IsFile old.known name bytes × (length bytes ≤ longest_file) × IsNotPlain bytes × Says faults.NotBuilt name old new
    not_plain_by (failed h e) a z = absurd (omega (arith, fault_status faults.ReadFault name e a, z))
    not_plain_by (absent h r e) a z = absurd (omega (arith, fault_status faults.Absent name e a, z))
    not_plain_by (too_large h r e) a z = absurd (omega (arith, fault_status faults.TooLarge name e a, z))
    not_plain_by (was_read bytes is l (inl n)) a z = (bytes, is, l, n.0, fault_says faults.NotBuilt name n.1 a)
    not_plain_by (was_read bytes is l (inr d)) a z = absurd (omega (arith, ran_status d.0 d.2 a, z))

    failed_by : IsRun → Planned → s ≡ 71 → Rose old.counts.faults new.counts.faults × Says faults.ReadFault name old new
    failed_by (failed h e) a z = (h, fault_says faults.ReadFault name e a)
    failed_by (absent h r e) a z = absurd (omega (arith, fault_status faults.Absent name e a, z))
    failed_by (too_large h r e) a z = absurd (omega (arith, fault_status faults.TooLarge name e a, z))
    failed_by (was_read bytes is l (inl n)) a z = absurd (omega (arith, fault_status faults.NotBuilt name n.1 a, z))
    failed_by (was_read bytes is l (inr d)) a z = absurd (omega (arith, ran_status d.0 d.2 a, z))

    absent_by : IsRun → Planned → s ≡ 73 → IsAbsent old.known name × Rose old.counts.misses new.counts.misses × Says faults.Absent name old new
    absent_by (failed h e) a z = absurd (omega (arith, fault_status faults.ReadFault name e a, z))
    absent_by (absent h r e) a z = (h, r, fault_says faults.Absent name e a)
    absent_by (too_large h r e) a z = absurd (omega (arith, fault_status faults.TooLarge name e a, z))
    absent_by (was_read bytes is l (inl n)) a z = absurd (omega (arith, fault_status faults.NotBuilt name n.1 a, z))
    absent_by (was_read bytes is l (inr d)) a z = absurd (omega (arith, ran_status d.0 d.2 a, z))

    too_large_by : IsRun → Planned → s ≡ 74 → IsLonger old.known name longest_file × Rose old.counts.misses new.counts.misses × Says faults.TooLarge name old new
    too_large_by (failed h e) a z = absurd (omega (arith, fault_status faults.ReadFault name e a, z))
    too_large_by (absent h r e) a z = absurd (omega (arith, fault_status faults.Absent name e a, z))
    too_large_by (too_large h r e) a z = (h, r, fault_says faults.TooLarge name e a)
    too_large_by (was_read bytes is l (inl n)) a z = absurd (omega (arith, fault_status faults.NotBuilt name n.1 a, z))
    too_large_by (was_read bytes is l (inr d)) a z = absurd (omega (arith, ran_status d.0 d.2 a, z))

    due_planned : IsRun → Planned → Tells old.known name (λ file. DueBy file s)
    due_planned (failed h e) a = all_told old.known.files name _ (λ file. due_early file s (inr (inl (fault_status faults.ReadFault name e a))))
    due_planned (absent h r e) a = told old.known.files name (λ file. file ≡ None) (λ file. DueBy file s) (λ file gone. due_absent file s (fault_status faults.Absent name e a) gone) h
    due_planned (too_large h r e) a = told old.known.files name _ (λ file. DueBy file s) (long_file s (fault_status faults.TooLarge name e a)) h
    due_planned (was_read bytes is l (inl n)) a = told old.known.files name (λ file. file ≡ Some bytes) (λ file. DueBy file s) (λ file there. due_refused file s bytes there (fault_status faults.NotBuilt name n.1 a) l n.0) is
    due_planned (was_read bytes is l (inr d)) a = told old.known.files name (λ file. file ≡ Some bytes) (λ file. DueBy file s) (λ file there. due_done file s bytes there (ran_status d.0 d.2 a) l d.1.plain d.1.is_plain) is

    due_by : Carried → Tells old.known name (λ file. DueBy file s)
    due_by (inl a) = due_planned run a
    due_by (inr (inl u)) = all_told old.known.files name _ (λ file. due_early file s (inl u.status))
    due_by (inr (inr (inl o))) = all_told old.known.files name _ (λ file. due_early file s (inr (inr o.status)))
    due_by (inr (inr (inr o))) = all_told old.known.files name _ (λ file. due_early file s (inr (inr o.status)))

    runs_file : Carried → RunsFile name old s new
    runs_file c = record {
      due = due_by c;
      done = λ z. done_by run (planned_at 0 c z (λ e. omega (arith, e)) (λ e. omega (arith, e))) z;
      not_plain = λ z. not_plain_by run (planned_at 80 c z (λ e. omega (arith, e)) (λ e. omega (arith, e))) z;
      failed = λ z. failed_by run (planned_at 71 c z (λ e. omega (arith, e)) (λ e. omega (arith, e))) z;
      absent = λ z. absent_by run (planned_at 73 c z (λ e. omega (arith, e)) (λ e. omega (arith, e))) z;
      too_large = λ z. too_large_by run (planned_at 74 c z (λ e. omega (arith, e)) (λ e. omega (arith, e))) z;
    }

  -- ---- all plans

  -- the plan is that of a fault, of a run that returned, or of one that was offloaded
  abbrev IsKind : Type 0
  IsKind = ((fault : Fault) × (name : List ℕ) × (plan ≡ fault_plan fault name) × IsOfRuns fault) ⊎ (((report : Report) × (plan ≡ ran_plan report)) ⊎ ((report : Report) × (travel : Travel) × OffloadedPlan report travel plan))

  -- an offloaded run returned or stopped
  offloaded_status : (report : Report) (travel : Travel) → OffloadedPlan report travel plan → Planned → (s ≡ 0) ⊎ (s ≡ 2)
  offloaded_status report travel o a = by (ended_so report.ending o.ended o.is_ended)
    where
      same : s ≡ ended_status report.ending
      same = a.status ∙ ap (λ (p : Plan). p.status) o.is_plan

      by : (ended_status report.ending ≡ 0) ⊎ (ended_status report.ending ≡ 2) → (s ≡ 0) ⊎ (s ≡ 2)
      by (inl e) = inl (same ∙ e)
      by (inr e) = inr (same ∙ e)

  run_kind : (name : List ℕ) → RunPlan old.known old.counts name new.counts plan → IsKind
  run_kind name (failed h e) = inl (faults.ReadFault, name, e, tt)
  run_kind name (absent h r e) = inl (faults.Absent, name, e, tt)
  run_kind name (too_large h r e) = inl (faults.TooLarge, name, e, tt)
  run_kind name (was_read bytes is l (inl n)) = inl (faults.NotBuilt, name, n.1, tt)
  run_kind name (was_read bytes is l (inr d)) = inr (inl (d.0, d.2))

  no_fault_is_72 : (fault : Fault) → IsOfRuns fault → status_of fault ≢ 72
  no_fault_is_72 faults.Usage of e = omega (arith, e)
  no_fault_is_72 faults.Memory of e = omega (arith, e)
  no_fault_is_72 faults.ReadFault of e = omega (arith, e)
  no_fault_is_72 faults.Absent of e = omega (arith, e)
  no_fault_is_72 faults.TooLarge of e = omega (arith, e)
  no_fault_is_72 faults.NotBuilt of e = omega (arith, e)
  no_fault_is_72 (faults.Dex fault) of e = of
  no_fault_is_72 (faults.Program fault) of e = of
  no_fault_is_72 (faults.Verify name fault) of e = of
  no_fault_is_72 faults.WriteFault of e = of

  -- a status that is 0 or 2 is no other
  neither : (k : ℕ) → (s ≡ 0) ⊎ (s ≡ 2) → s ≡ k → k ≢ 0 → k ≢ 2 → ⊥
  neither k (inl z) e n m = n (sym e ∙ z)
  neither k (inr z) e n m = m (sym e ∙ z)

  planned_not_72 : IsKind → Planned → s ≢ 72
  planned_not_72 (inl f) a e = no_fault_is_72 f.0 f.3 (sym (fault_status f.0 f.1 f.2 a) ∙ e)
  planned_not_72 (inr (inl r)) a e = omega (arith, ran_status r.0 r.1 a, e)
  planned_not_72 (inr (inr o)) a e = neither 72 (offloaded_status o.0 o.1 o.2 a) e (λ h. omega (arith, h)) (λ h. omega (arith, h))

  quiet_by : IsKind → Carried → s ≢ 0 → s ≢ 2 → s ≢ 72 → new.out.text ≡ old.out.text
  quiet_by (inl f) (inl a) z t m = fault_quiet f.0 f.1 f.2 a
  quiet_by (inr (inl r)) (inl a) z t m = absurd (z (ran_status r.0 r.1 a))
  quiet_by (inr (inr o)) (inl a) z t m = absurd (by (offloaded_status o.0 o.1 o.2 a))
    where
      by : (s ≡ 0) ⊎ (s ≡ 2) → ⊥
      by (inl e) = z e
      by (inr e) = t e
  quiet_by k (inr (inl u)) z t m = u.out
  quiet_by k (inr (inr (inl o))) z t m = absurd (m o.status)
  quiet_by k (inr (inr (inr o))) z t m = absurd (m o.status)

  others_by : IsKind → Carried → (s ≡ 0) ⊎ ((s ≡ 2) ⊎ ((s ≡ 72) ⊎ ((fault : Fault) × IsOfRuns fault × (s ≡ status_of fault))))
  others_by (inl f) (inl a) = inr (inr (inr (f.0, f.3, fault_status f.0 f.1 f.2 a)))
  others_by (inr (inl r)) (inl a) = inl (ran_status r.0 r.1 a)
  others_by (inr (inr o)) (inl a) = by (offloaded_status o.0 o.1 o.2 a)
    where
      by : (s ≡ 0) ⊎ (s ≡ 2) → (s ≡ 0) ⊎ ((s ≡ 2) ⊎ ((s ≡ 72) ⊎ ((fault : Fault) × IsOfRuns fault × (s ≡ status_of fault))))
      by (inl e) = inl e
      by (inr e) = inr (inl e)
  others_by k (inr (inl u)) = inr (inr (inr (faults.Memory, tt, u.status)))
  others_by k (inr (inr (inl o))) = inr (inr (inl o.status))
  others_by k (inr (inr (inr o))) = inr (inr (inl o.status))

  -- only the plan for want of memory has the status 70
  is_memory : (fault : Fault) → IsOfRuns fault → status_of fault ≡ 70 → fault ≡ faults.Memory
  is_memory faults.Usage of e = absurd (omega (arith, e))
  is_memory faults.Memory of e = refl
  is_memory faults.ReadFault of e = absurd (omega (arith, e))
  is_memory faults.Absent of e = absurd (omega (arith, e))
  is_memory faults.TooLarge of e = absurd (omega (arith, e))
  is_memory faults.NotBuilt of e = absurd (omega (arith, e))
  is_memory (faults.Dex fault) of e = absurd of
  is_memory (faults.Program fault) of e = absurd of
  is_memory (faults.Verify name fault) of e = absurd of
  is_memory faults.WriteFault of e = absurd of

  memory_by : IsKind → Carried → s ≡ 70 → (new.notes.text ≡ old.notes.text) ⊎ Says faults.Memory [] old new
  memory_by (inl f) (inl a) z = inr (subst (λ (fault : Fault). Says fault f.1 old new) (is_memory f.0 f.3 (sym (fault_status f.0 f.1 f.2 a) ∙ z)) (fault_says f.0 f.1 f.2 a))
  memory_by (inr (inl r)) (inl a) z = absurd (omega (arith, ran_status r.0 r.1 a, z))
  memory_by (inr (inr o)) (inl a) z = absurd (neither 70 (offloaded_status o.0 o.1 o.2 a) z (λ h. omega (arith, h)) (λ h. omega (arith, h)))
  memory_by k (inr (inl u)) z = inl u.notes
  memory_by k (inr (inr (inl o))) z = absurd (omega (arith, o.status, z))
  memory_by k (inr (inr (inr o))) z = absurd (omega (arith, o.status, z))

  no_run_is_usage : (name : List ℕ) → RunPlan old.known old.counts name new.counts plan → Planned → s ≡ 64 → ⊥
  no_run_is_usage name (failed h e) a z = omega (arith, fault_status faults.ReadFault name e a, z)
  no_run_is_usage name (absent h r e) a z = omega (arith, fault_status faults.Absent name e a, z)
  no_run_is_usage name (too_large h r e) a z = omega (arith, fault_status faults.TooLarge name e a, z)
  no_run_is_usage name (was_read bytes is l (inl n)) a z = omega (arith, fault_status faults.NotBuilt name n.1 a, z)
  no_run_is_usage name (was_read bytes is l (inr d)) a z = omega (arith, ran_status d.0 d.2 a, z)

  -- a run that isn't offloaded doesn't stop
  no_run_stops : (name : List ℕ) → RunPlan old.known old.counts name new.counts plan → Planned → s ≡ 2 → ⊥
  no_run_stops name (failed h e) a z = omega (arith, fault_status faults.ReadFault name e a, z)
  no_run_stops name (absent h r e) a z = omega (arith, fault_status faults.Absent name e a, z)
  no_run_stops name (too_large h r e) a z = omega (arith, fault_status faults.TooLarge name e a, z)
  no_run_stops name (was_read bytes is l (inl n)) a z = omega (arith, fault_status faults.NotBuilt name n.1 a, z)
  no_run_stops name (was_read bytes is l (inr d)) a z = omega (arith, ran_status d.0 d.2 a, z)

  memory_runs : (name : List ℕ) → plan ≡ fault_plan faults.Memory [] → Carried → RunsFile name old s new
  memory_runs name e c = record {
    due = all_told old.known.files name _ (λ file. due_early file s (early c));
    done = λ z. absurd (not_now 0 z c (λ h. omega (arith, h)) (λ h. omega (arith, h)));
    not_plain = λ z. absurd (not_now 80 z c (λ h. omega (arith, h)) (λ h. omega (arith, h)));
    failed = λ z. absurd (not_now 71 z c (λ h. omega (arith, h)) (λ h. omega (arith, h)));
    absent = λ z. absurd (not_now 73 z c (λ h. omega (arith, h)) (λ h. omega (arith, h)));
    too_large = λ z. absurd (not_now 74 z c (λ h. omega (arith, h)) (λ h. omega (arith, h)));
  }
    where
      early : Carried → (s ≡ 70) ⊎ ((s ≡ 71) ⊎ (s ≡ 72))
      early (inl a) = inl (fault_status faults.Memory [] e a)
      early (inr (inl u)) = inl u.status
      early (inr (inr (inl o))) = inr (inr o.status)
      early (inr (inr (inr o))) = inr (inr o.status)

      not_now : (k : ℕ) → s ≡ k → Carried → k ≢ 70 → k ≢ 72 → ⊥
      not_now k z c n m = n (sym z ∙ fault_status faults.Memory [] e (planned_at k c z n m))

  module _ (tells : LinkTells) where
    abbrev Call : Option (List ℕ) → Option Names → Type 0
    Call name names = CallPlan name names (sources old) (sources new) tells plan

    outcome_kind : (names : Names) → Outcome names plan old new tells → IsKind
    outcome_kind names (files_failed name limit next rose e u) = inl (faults.ReadFault, name, e, tt)
    outcome_kind names (file_absent name limit next gone rose e u) = inl (faults.Absent, name, e, tt)
    outcome_kind names (file_too_large name limit next long rose e u) = inl (faults.TooLarge, name, e, tt)
    outcome_kind names (files_refused is e u) = inl (faults.NotBuilt, [], e, tt)
    outcome_kind names (file_ran file plain text moved h0 h1 h2 h3 h4 o) = inr (inr (o.report, o.travel, o.is_plan))
    outcome_kind names (no_memory e) = inl (faults.Memory, [], e, tt)

    call_kind : (name : Option (List ℕ)) (names : Option Names) → Call name names → IsKind
    call_kind (Some name) names h = run_kind name h.0
    call_kind None (Some names) h = outcome_kind names (outcome names plan old new tells h)
    call_kind None None h = inl (faults.Usage, [], h.0, tt)

    words_kind : (words : List (List ℕ)) → WordsPlan words (sources old) (sources new) tells plan → IsKind
    words_kind words (inl h) = call_kind (file_named words) (offload_named words) h
    words_kind words (inr e) = inl (faults.Memory, [], e, tt)

    no_outcome_is_usage : (names : Names) → Outcome names plan old new tells → Planned → s ≡ 64 → ⊥
    no_outcome_is_usage names (files_failed name limit next rose e u) a z = omega (arith, fault_status faults.ReadFault name e a, z)
    no_outcome_is_usage names (file_absent name limit next gone rose e u) a z = omega (arith, fault_status faults.Absent name e a, z)
    no_outcome_is_usage names (file_too_large name limit next long rose e u) a z = omega (arith, fault_status faults.TooLarge name e a, z)
    no_outcome_is_usage names (files_refused is e u) a z = omega (arith, fault_status faults.NotBuilt [] e a, z)
    no_outcome_is_usage names (file_ran file plain text moved h0 h1 h2 h3 h4 o) a z = neither 64 (offloaded_status o.report o.travel o.is_plan a) z (λ h. omega (arith, h)) (λ h. omega (arith, h))
    no_outcome_is_usage names (no_memory e) a z = omega (arith, fault_status faults.Memory [] e a, z)

    usage_call : (name : Option (List ℕ)) (names : Option Names) → Call name names → Planned → s ≡ 64
        → (name ≡ None) × (names ≡ None) × (new.counts ≡ old.counts) × tells.untouched × Says faults.Usage [] old new
    usage_call (Some name) names h a z = absurd (no_run_is_usage name h.0 a z)
    usage_call None (Some names) h a z = absurd (no_outcome_is_usage names (outcome names plan old new tells h) a z)
    usage_call None None h a z = (refl, refl, h.1, h.2, fault_says faults.Usage [] h.0 a)

    usage_by : (words : List (List ℕ)) → WordsPlan words (sources old) (sources new) tells plan → Planned → s ≡ 64
        → (file_named words ≡ None) × (offload_named words ≡ None) × (new.counts ≡ old.counts) × tells.untouched × Says faults.Usage [] old new
    usage_by words (inl h) a z = usage_call (file_named words) (offload_named words) h a z
    usage_by words (inr e) a z = absurd (omega (arith, fault_status faults.Memory [] e a, z))

    no_call : (name : Option (List ℕ)) (names : Option Names) → name ≡ None → names ≡ None → Call name names → plan ≡ fault_plan faults.Usage []
    no_call (Some name) names e f h = absurd (some_none name e)
      where
        some_none : (name : List ℕ) → Some name ≡ None → ⊥
        some_none name e = cc
    no_call None (Some names) e f h = absurd (some_none names f)
      where
        some_none : (names : Names) → Some names ≡ None → ⊥
        some_none names e = cc
    no_call None None e f h = h.0

    no_command_by : (words : List (List ℕ)) → WordsPlan words (sources old) (sources new) tells plan → Carried → file_named words ≡ None → offload_named words ≡ None → (s ≡ 64) ⊎ ((s ≡ 70) ⊎ (s ≡ 72))
    no_command_by words (inl h) (inl a) n m = inl (fault_status faults.Usage [] (no_call (file_named words) (offload_named words) n m h) a)
    no_command_by words (inr e) (inl a) n m = inr (inl (fault_status faults.Memory [] e a))
    no_command_by words k (inr (inl u)) n m = inr (inl u.status)
    no_command_by words k (inr (inr (inl o))) n m = inr (inr o.status)
    no_command_by words k (inr (inr (inr o))) n m = inr (inr o.status)

    call_runs : (call : Option (List ℕ)) (names : Option Names) (name : List ℕ) → call ≡ Some name → Call call names → Carried → RunsFile name old s new
    call_runs None names name e h c = absurd (none_some name e)
      where
        none_some : (name : List ℕ) → None ≡ Some name → ⊥
        none_some name e = cc
    call_runs (Some other) names name e h c = runs_file name (subst (λ (n : List ℕ). RunPlan old.known old.counts n new.counts plan) (some_same e) h.0) c

    words_run : (words : List (List ℕ)) (name : List ℕ) → file_named words ≡ Some name → WordsPlan words (sources old) (sources new) tells plan → Carried → RunsFile name old s new
    words_run words name e (inl h) c = call_runs (file_named words) (offload_named words) name e h c
    words_run words name e (inr m) c = memory_runs name m c

    call_offloads : PlainOnce → (call : Option (List ℕ)) (found : Option Names) (names : Names) → call ≡ None → found ≡ Some names → Call call found → Carried → OffloadsFiles names old s new tells
    call_offloads once (Some name) found names e f h c = absurd (some_none name e)
      where
        some_none : (name : List ℕ) → Some name ≡ None → ⊥
        some_none name e = cc
    call_offloads once None None names e f h c = absurd (none_some names f)
      where
        none_some : (names : Names) → None ≡ Some names → ⊥
        none_some names f = cc
    call_offloads once None (Some other) names e f h c =
        subst (λ (n : Names). OffloadsFiles n old s new tells) (some_same f) (planned_files other plan old new tells s once h c)

    words_offload : PlainOnce → (words : List (List ℕ)) (names : Names) → offload_named words ≡ Some names → WordsPlan words (sources old) (sources new) tells plan → Carried → OffloadsFiles names old s new tells
    words_offload once words names e (inl h) c = call_offloads once (file_named words) (offload_named words) names (no_run_named words names e) e h c
    words_offload once words names e (inr m) c = memory_files names plan old new tells s m c

    stopped_call : (name : Option (List ℕ)) (found : Option Names) → Call name found → Planned → s ≡ 2 → (names : Names) × (found ≡ Some names)
    stopped_call (Some name) found h a z = absurd (no_run_stops name h.0 a z)
    stopped_call None (Some names) h a z = (names, refl)
    stopped_call None None h a z = absurd (omega (arith, fault_status faults.Usage [] h.0 a, z))

    stopped_by : (words : List (List ℕ)) → WordsPlan words (sources old) (sources new) tells plan → Planned → s ≡ 2 → (names : Names) × (offload_named words ≡ Some names)
    stopped_by words (inl h) a z = stopped_call (file_named words) (offload_named words) h a z
    stopped_by words (inr e) a z = absurd (omega (arith, fault_status faults.Memory [] e a, z))

    all_statuses : PlainOnce → (words : List (List ℕ)) → WordsPlan words (sources old) (sources new) tells plan → Carried → Statuses words old s new tells
    all_statuses once words w c = record {
      usage = λ z. usage_by words w (planned_at 64 c z (λ e. omega (arith, e)) (λ e. omega (arith, e))) z;
      no_command = no_command_by words w c;
      run = λ name e. words_run words name e w c;
      offload = λ names e. words_offload once words names e w c;
      memory = memory_by (words_kind words w) c;
      lost = lost_by c (planned_not_72 (words_kind words w));
      no_output = quiet_by (words_kind words w) c;
      stopped = λ z. stopped_by words w (planned_at 2 c z (λ e. omega (arith, e)) (λ e. omega (arith, e))) z;
      others = others_by (words_kind words w) c;
    }

pub statuses : PlainOnce → (words : List (List ℕ)) (old new : Outside) (s : ℕ) (tells : LinkTells) (uncalled : Type 0) → Runs words old s new tells uncalled → Statuses words old s new tells
statuses once words old new s tells uncalled (plan, words_plan, ends, alone) = all_statuses plan old new s tells once words words_plan ends

-- there is no memory even for a plan, and nothing is done
pub no_plan : (words : List (List ℕ)) (old new : Outside) (tells : LinkTells) (uncalled : Type 0) → new.out ≡ old.out → new.notes ≡ old.notes → uncalled → Runs words old 70 new tells uncalled
no_plan words old new tells uncalled o n alone = (fault_plan faults.Memory [], inr refl, inr (inl (record { status = refl; out = ap (λ (p : Pipe). p.text) o; notes = ap (λ (p : Pipe). p.text) n })), λ e. alone)

pub transparent : PlainOnce → (words : List (List ℕ)) (old new : Outside) (s : ℕ) (tells : LinkTells) (uncalled : Type 0) → Runs words old s new tells uncalled → (names : Names) → offload_named words ≡ Some names → tells.trusted → Transparent names old s new tells.prompt
transparent once words old new s tells uncalled runs names e h = is_transparent names old new s tells ((statuses once words old new s tells uncalled runs).offload names e) h
