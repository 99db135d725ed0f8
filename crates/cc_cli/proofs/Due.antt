-- The status of `offload` is due by the files, where they are told.
use Rattle.std.proofs.Common.{inl, inr, ◌≡◌, ◌⊎◌, ℕ, ◌<◌, ◌≤◌, List, [], length, Option, Some, None, refl, sym, ap, subst, ◌∙◌, arith}
use Rattle.std.specs.Prelude.{IfSome, IsSomeAnd}
use Rattle.cc_outside.specs.Shelves.{Files, Known, Counts}
use Rattle.cc_link.specs.Links as links
use Rattle.cc_output.specs.declared.plan.Plan.{Plan}
use Rattle.cc_meaning.specs.declared.report.Report.{Report}
use Rattle.cc_meaning.specs.declared.travel.Travel.{Travel}
use Rattle.cc_meaning_plain.specs.declared.plain.Plain.{Plain}
use Rattle.cc_meaning_plain.specs.Tables.{longest_file}
use Rattle.cc_meaning_plain.specs.Laws.{PlainOnce}
use Rattle.cc_output.specs.declared.fault.Fault.{Fault}
use Rattle.cc_output.specs.declared.fault.Fault.TheVariants as faults
use Rattle.cc_output.specs.Faults.{status_of, fault_plan}
use Rattle.cc_cli.specs.Offloading.{LinkTells, Names, longest_text, ReadPlan, failed, absent, too_large, was_read, OffloadedPlan, TextPlan, PartitionPlan, ScriptPlan, FilePlan, OffloadPlan}
use Rattle.cc_cli.specs.Statuses.{IsDue, DueByNext, DueByPartition, DueByScript, DueByFile, DueByFiles}

some_same : {A : Type 0} {a b : A} → Some a ≡ Some b → a ≡ b
some_same e = cc

none_some : {A : Type 0} (file : Option A) (a : A) → file ≡ None → file ≡ Some a → ⊥
none_some file a n e = let both : None ≡ Some a = sym n ∙ e in cc

module _ (s : ℕ) where
  abbrev IsEarly : Type 0
  IsEarly = (s ≡ 70) ⊎ ((s ≡ 71) ⊎ (s ≡ 72))

  next_early : (file : Option (List ℕ)) (limit : ℕ) (Then : List ℕ → Type 0) → IsEarly → ((bytes : List ℕ) → Then bytes) → DueByNext file limit s Then
  next_early file limit Then e then = record { absent = λ g. inr e; too_large = λ bytes g l. inr e; read = λ bytes g l. then bytes }

  files_early : (names : Names) (files : Files) → IsEarly → DueByFiles names files s
  files_early names files e =
      next_early (files names.file) longest_file (DueByFile names files s) e (λ file. (
        (λ n. inr e),
        (λ plain is.
            next_early (files names.script) longest_text (DueByScript names files plain s) e (λ script. (
              (λ n. inr e),
              (λ same.
                  next_early (files names.partition) longest_text (DueByPartition plain s) e (λ text. ((λ n. inr e), (λ moved is. inr (inr e))))),
            ))),
      ))

  pub told_early : (o : Option Files) (names : Names) → IsEarly → IfSome o (λ files. DueByFiles names files s)
  told_early None names e = tt
  told_early (Some files) names e = files_early names files e

  long_here : (file : Option (List ℕ)) (limit : ℕ) (Then : List ℕ → Type 0) → s ≡ 74 → IsSomeAnd file (λ bytes. limit < length bytes) → DueByNext file limit s Then
  long_here None limit Then h l = absurd l
  long_here (Some here) limit Then h l = record {
    absent = λ g. absurd (none_some (Some here) here g refl);
    too_large = λ bytes g m. inl h;
    read = λ bytes g m. let e = ap length (some_same g) in absurd (omega (arith, e, m, l));
  }

  gone_here : (file : Option (List ℕ)) (limit : ℕ) (Then : List ℕ → Type 0) → s ≡ 73 → file ≡ None → DueByNext file limit s Then
  gone_here file limit Then h gone = record {
    absent = λ g. inl h;
    too_large = λ bytes g m. absurd (none_some file bytes gone g);
    read = λ bytes g m. absurd (none_some file bytes gone g);
  }

  read_here : (file : Option (List ℕ)) (limit : ℕ) (Then : List ℕ → Type 0) (here : List ℕ) → file ≡ Some here → length here ≤ limit → Then here → DueByNext file limit s Then
  read_here file limit Then here there short then = record {
    absent = λ g. absurd (none_some file here g there);
    too_large = λ bytes g m. let e = ap length (some_same (sym there ∙ g)) in absurd (omega (arith, e, m, short));
    read = λ bytes g m. subst Then (some_same (sym there ∙ g)) then;
  }

module _ (names : Names) (files : Files) (plan : Plan) (s : ℕ) (new : Counts) (k : links.Known) (b : links.Counts) (k' : links.Known) (a : links.Counts) (tells : LinkTells)
    (status : s ≡ plan.status) (ran : (report : Report) (travel : Travel) → OffloadedPlan report travel plan → (s ≡ 0) ⊎ (s ≡ 2)) (once : PlainOnce) where
  abbrev here : Known
  here = record { files = Some files }

  fault_status : (fault : Fault) (name : List ℕ) → plan ≡ fault_plan fault name → s ≡ status_of fault
  fault_status fault name e = status ∙ ap (λ (p : Plan). p.status) e

  due_read : (old : Counts) (name : List ℕ) (limit : ℕ) (Then : List ℕ → Counts → Type 0) (Due : List ℕ → Type 0) → (IsEarly s → (bytes : List ℕ) → Due bytes)
      → ((bytes : List ℕ) (later : Counts) → Then bytes later → Due bytes) → ReadPlan here old name limit new tells.untouched plan Then → DueByNext (files name) limit s Due
  due_read old name limit Then Due early due (failed h e u) = let z : IsEarly s = inr (inl (fault_status faults.ReadFault name e)) in next_early s (files name) limit Due z (early z)
  due_read old name limit Then Due early due (absent gone h e u) = gone_here s (files name) limit Due (fault_status faults.Absent name e) gone
  due_read old name limit Then Due early due (too_large long h e u) = long_here s (files name) limit Due (fault_status faults.TooLarge name e) long
  due_read old name limit Then Due early due (was_read bytes later is short falls then) = read_here s (files name) limit Due bytes is short (due bytes later then)

  due_text : (file : List ℕ) (plain : Plain) (text : List ℕ) → TextPlan names.place k b k' a tells file plain text plan → DueByPartition plain s text
  due_text file plain text (inl refused) = ((λ n. inl (fault_status faults.NotBuilt [] refused.1)), (λ moved is. absurd (refused.0 moved is)))
  due_text file plain text (inr o) = ((λ n. absurd (n o.0 o.1)), (λ moved is. by (ran o.2.report o.2.travel o.2.is_plan)))
    where
      by : (s ≡ 0) ⊎ (s ≡ 2) → (s ≡ 2) ⊎ IsDue 0 s
      by (inl z) = inr (inl z)
      by (inr z) = inl z

  text_early : (plain : Plain) → IsEarly s → (text : List ℕ) → DueByPartition plain s text
  text_early plain e text = ((λ n. inr e), (λ moved is. inr (inr e)))

  due_script : (file : List ℕ) (plain : Plain) (script : List ℕ) (middle : Counts) → ScriptPlan names here new k b k' a tells file plain plan script middle → DueByScript names files plain s script
  due_script file plain script middle (inl refused) = ((λ n. inl (fault_status faults.NotBuilt [] refused.1.0)), (λ same. absurd (refused.0 same)))
  due_script file plain script middle (inr on) = (
    (λ n. absurd (n on.0)),
    (λ same. due_read middle names.partition longest_text (PartitionPlan names here new k b k' a tells file plain plan) (DueByPartition plain s) (text_early plain)
        (λ text later then. due_text file plain text then.1) on.1),
  )

  script_early : (plain : Plain) → IsEarly s → (script : List ℕ) → DueByScript names files plain s script
  script_early plain e script = ((λ n. inr e), (λ same. next_early s (files names.partition) longest_text (DueByPartition plain s) e (text_early plain e)))

  due_file : (file : List ℕ) (middle : Counts) → FilePlan names here new k b k' a tells plan file middle → DueByFile names files s file
  due_file file middle (inl refused) = ((λ n. inl (fault_status faults.NotBuilt [] refused.1.0)), (λ plain is. absurd (refused.0 plain is)))
  due_file file middle (inr on) = (
    (λ n. absurd (n on.0 on.1)),
    (λ plain is. subst (λ (p : Plain). DueByNext (files names.script) longest_text s (DueByScript names files p s)) (once file on.0 plain on.1 is)
        (due_read middle names.script longest_text (ScriptPlan names here new k b k' a tells file on.0 plan) (DueByScript names files on.0 s) (script_early on.0)
        (λ script later then. due_script file on.0 script later then) on.2)),
  )

  file_early : IsEarly s → (file : List ℕ) → DueByFile names files s file
  file_early e file = ((λ n. inr e), (λ plain is. next_early s (files names.script) longest_text (DueByScript names files plain s) e (script_early plain e)))

  due_files : (old : Counts) → OffloadPlan names here new k b k' a tells old plan → DueByFiles names files s
  due_files old h = due_read old names.file longest_file (FilePlan names here new k b k' a tells plan) (DueByFile names files s) file_early (λ file later then. due_file file later then) h

pub told_due : (o : Option Files) (names : Names) (plan : Plan) (s : ℕ) (old new : Counts) (k : links.Known) (b : links.Counts) (k' : links.Known) (a : links.Counts) (tells : LinkTells)
    → s ≡ plan.status → ((report : Report) (travel : Travel) → OffloadedPlan report travel plan → (s ≡ 0) ⊎ (s ≡ 2)) → PlainOnce
    → OffloadPlan names (record { files = o }) new k b k' a tells old plan → IfSome o (λ files. DueByFiles names files s)
told_due None names plan s old new k b k' a tells status ran once h = tt
told_due (Some files) names plan s old new k b k' a tells status ran once h = due_files names files plan s new k b k' a tells status ran once old h
