-- What a command comes to.
use Rattle.std.proofs.Common.{inr, ◌≡◌, ℕ, ◌≤◌, List, length, Result, Ok, Err, Some, sym, ap, ◌∙◌, subst, IfOk}
use Rattle.std.specs.declared.alloc.AllocError.{AllocError}
use Rattle.cc_outside.specs.Shelves.{Known, Counts, IsFile}
use Rattle.cc_output.specs.declared.plan.Plan.{Plan}
use Rattle.cc_meaning.specs.declared.report.Report.{Report}
use Rattle.cc_meaning_plain.specs.declared.plain.Plain.{Plain}
use Rattle.cc_meaning_plain.specs.Tables.{longest_file}
use Rattle.cc_meaning_plain.specs.Plain.{IsPlain}
use Rattle.cc_meaning_plain.specs.Staged.{plain_report}
use Rattle.cc_meaning_plain.specs.Laws.{default_limits, AreBytes, PlainReports, PlainReturns}
use Rattle.cc_cli.specs.Plans.{BytesPlan, RunPlan, was_read, ran_plan}

some_of : {A : Type 0} {a b : A} → Some a ≡ Some b → a ≡ b
some_of e = cc

pub plain_plan : (name file : List ℕ) (plain : Plain) (made : Result Plan AllocError) → PlainReports → PlainReturns → AreBytes file → IsPlain file plain → IfOk made (λ plan. plan ≡ ran_plan (plain_report plain default_limits)) → IfOk made (λ plan. BytesPlan name file plan)
plain_plan name file plain (Ok plan) reports returns bytes is e =
    let r = returns file plain bytes is in
    let report = reports file plain default_limits bytes is in
    let same : r.0 ≡ plain_report plain default_limits = some_of (sym r.1.is_report ∙ report) in
    inr (plain_report plain default_limits, record { plain = plain; is_plain = is; is_report = report; returned = ap (λ (report : Report). report.ending) (sym same) ∙ r.1.ending }, e)
plain_plan name file plain (Err end) reports returns bytes is e = tt

pub read_plan : (known : Known) (old new : Counts) (name bytes file : List ℕ) (made : Result Plan AllocError) → file ≡ bytes → IsFile known name bytes → length bytes ≤ longest_file → IfOk made (λ plan. BytesPlan name file plan) → IfOk made (λ plan. RunPlan known old name new plan)
read_plan known old new name bytes file (Ok plan) same is short p = was_read bytes is short (subst (λ (b : List ℕ). BytesPlan name b plan) same p)
read_plan known old new name bytes file (Err end) same is short p = tt
