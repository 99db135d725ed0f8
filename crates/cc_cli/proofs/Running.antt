-- What a device needs of a plain file's job, and what its run comes to.
use Rattle.std.proofs.Common.{inl, lit<, ◌≡◌, ℕ, ◌^◌, ◌<◌, ◌≤◌, List, [], length, length-append, Option, Some, None, Result, Ok, Err, refl, sym, ap, subst, ◌∙◌, arith}
use Rattle.std.specs.Prelude.{IfOk, IsSome}
use Rattle.std.proofs.lemmas.Str.{IsUtf8-nil}
use Rattle.std.specs.declared.alloc.AllocError.{AllocError}
use Rattle.std.proofs.lemmas.Option.{slice_get_within}
use Rattle.cc_meaning.specs.declared.file.Job.{Job}
use Rattle.cc_meaning.specs.declared.report.Report.{Report}
use Rattle.cc_meaning.specs.declared.report.Ending.TheVariants as ending
use Rattle.cc_meaning.specs.declared.travel.Travel.{Travel}
use Rattle.cc_link.specs.Links as link
use Rattle.cc_output.specs.declared.plan.Plan.{Plan}
use Rattle.cc_output.specs.Travel.{ended_line}
use Rattle.cc_meaning_nodes.specs.Frames.{frames_of}
use Rattle.cc_meaning_plain.specs.declared.plain.Plain.{Plain}
use Rattle.cc_meaning_plain.specs.Plain.{IsPlain}
use Rattle.cc_meaning_plain.specs.Laws.{AreBytes, PlainReturns, default_limits}
use Rattle.cc_meaning_clone.specs.Hello.{with_length, no_script, IsHelloOf}
use Rattle.cc_meaning_ends.specs.Ends.{PlainEnds}
use Rattle.cc_meaning_device.specs.Complete.{moved_calls}
use Rattle.cc_partition.specs.Partition.{IsPartition, moves_none, moves_one}
use Rattle.cc_device.specs.Travelling.{hello_payload, moves_of, Offloads, IsLocal, FallsOnlySo, LastEnds}
use Rattle.cc_cli.specs.Plans.{Returns}
use Rattle.cc_cli.specs.Offloading.{LinkTells, job_of, OffloadedPlan, Offloaded}

some_same : {A : Type 0} {a b : A} → Some a ≡ Some b → a ≡ b
some_same e = cc

module _ (file : List ℕ) (plain : Plain) (is_plain : IsPlain file plain) (place : List ℕ) where
  fits : length (hello_payload (job_of file place)) ≤ 67108864
  unfolding hello_payload
  fits =
      let whole = length-append file (with_length no_script) in
      let short = is_plain.size in
      omega (arith, whole, short)

  -- the Hello of a job fits in a frame
  pub hello_fits : (job : Job) → job ≡ job_of file place → length (hello_payload job) ≤ 67108864
  hello_fits job e = subst (λ (j : Job). length (hello_payload j) ≤ 67108864) (sym e) fits

  accepted : IsHelloOf (hello_payload (job_of file place)) plain
  unfolding hello_payload
  accepted =
      let short = is_plain.size in
      let file_is_short : length file < 2 ^ 32 = omega (arith, short) in
      record {
        main = [];
        file = file;
        script = no_script;
        spells = record { spelled = refl; main_is_short = lit< tt; file_is_short = file_is_short; script_is_short = lit< tt; main_is_text = IsUtf8-nil };
        is_plain = is_plain;
        names_main = inl refl;
        no_classes = refl;
      }

  -- and a clone accepts it
  pub hello_is : (job : Job) → job ≡ job_of file place → IsHelloOf (hello_payload job) plain
  hello_is job e = subst (λ (j : Job). IsHelloOf (hello_payload j) plain) (sym e) accepted

  pub within_default : (job : Job) (report : Report) → job ≡ job_of file place → IsLocal plain job.limits report → IsLocal plain default_limits report
  within_default job report e here = subst (λ (j : Job). IsLocal plain j.limits report) e here

-- a run that was offloaded returned, or stopped for want of instructions or words
pub ends_in_words : PlainEnds → (plain : Plain) (moved : Option ℕ) (job : Job) → AreBytes job.file → IsPlain job.file plain → (report : Report) (travel : Travel)
    (k : link.Known) (old : link.Counts) (prompt : Type 0) (k' : link.Known) (new : link.Counts) (untouched : Type 0) → Offloads plain moved job report travel k old prompt k' new untouched → IsSome (ended_line report.ending)
ends_in_words ends plain moved job bytes is report travel k old prompt k' new untouched o =
    (ends job.file plain (moves_of plain moved) job.limits (frames_of o.got).frames report bytes is o.reports).ended

-- its report is that of the run on one heap, which returned
pub returned : PlainReturns → (file : List ℕ) (plain : Plain) → AreBytes file → IsPlain file plain → (report : Report) → IsLocal plain default_limits report → Returns file report
returned returns file plain bytes is report here =
    let r = returns file plain bytes is in
    let same : r.0 ≡ report = some_same (sym r.1.is_report ∙ here) in
    record { plain = plain; is_plain = is; is_report = here; returned = ap (λ (report : Report). report.ending) (sym same) ∙ r.1.ending }

-- a partition moves a function that is there
pub moves_within : (plain : Plain) (text : List ℕ) (moved : Option ℕ) → IsPartition plain text moved → (i : ℕ) → moved ≡ Some i → i < length plain.functions
moves_within plain text moved (moves_none e) i h = absurd (none_some i h)
  where
    none_some : (i : ℕ) → None ≡ Some i → ⊥
    none_some i h = cc
moves_within plain text moved (moves_one j function name at spells e) i h = subst (λ (n : ℕ). n < length plain.functions) (some_same h) (slice_get_within plain.functions j function at)

pub ran_there : (place : List ℕ) (k : link.Known) (old : link.Counts) (k' : link.Known) (new : link.Counts) (tells : LinkTells) (file : List ℕ) (plain : Plain) (moved : Option ℕ)
    (report : Report) (travel : Travel) (job : Job) (made : Result Plan AllocError) → job ≡ job_of file place → Offloads plain moved job report travel k old tells.prompt k' new tells.untouched
    → (tells.trusted → Returns file report) → (tells.trusted → FallsOnlySo travel.fallback old new) → (tells.trusted → tells.prompt → travel.fallback ≡ None) → (travel.fallback ≡ None → report.ending ≡ ending.Returned → travel.migrations ≡ moved_calls plain (moves_of plain moved) plain.main.insns) → (tells.going_before → LastEnds tells.going tells.last travel.fallback) → (moved ≡ None → tells.untouched) → IfOk made (λ plan. OffloadedPlan report travel plan)
    → IfOk made (λ plan. Offloaded place k old k' new tells file plain moved plan)
ran_there place k old k' new tells file plain moved report travel job (Ok plan) is o t falls never each last unmoved p = record {
  report = report;
  travel = travel;
  offloads = subst (λ (j : Job). Offloads plain moved j report travel k old tells.prompt k' new tells.untouched) is o;
  is_plan = p;
  transparent = t;
  complete = falls;
  prompt = never;
  migrates = each;
  last = last;
  unmoved = unmoved;
}
ran_there place k old k' new tells file plain moved report travel job (Err end) is o t falls never each last unmoved p = tt
