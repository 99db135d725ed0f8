-- The status of a file's plan is due by the file.
use Rattle.std.proofs.Common.{inl, inr, ◌≡◌, ◌⊎◌, ℕ, ◌<◌, ◌≤◌, List, [], length, Option, Some, None, Result, Ok, Err, refl, sym, ap, subst, ◌∙◌, arith}
use Rattle.std.specs.Prelude.{IfSome, IsSomeAnd}
use Rattle.cc_outside.specs.Shelves.{Files, Known, Counts, Tells}
use Rattle.cc_output.specs.declared.plan.Plan.{Plan}
use Rattle.cc_output.specs.Carrying.{Ends}
use Rattle.cc_output.specs.declared.fault.Fault.TheVariants as faults
use Rattle.cc_output.specs.Faults.{fault_plan, status_of}
use Rattle.cc_meaning_program.specs.Asked.{asked_class}
use Rattle.cc_check.specs.Checking.{IsChecked, OneChecked}
use Rattle.cc_check.specs.declared.fault.CheckFault.{CheckFault}
use Rattle.cc_check.specs.declared.summary.Summary.{Summary}
use Rattle.cc_command_check.specs.Calls.{Call, check}
use Rattle.cc_command_check.specs.CheckLine.{CallsFor, OneCall}
use Rattle.cc_command_check.specs.Plans.{summary_plan, fault_of, longest_file, BytesPlan, accepted, refused, FilePlan, failed, absent, too_large, was_read, CallPlan, WordsPlan}
use Rattle.cc_command_check.specs.Checks.{Outside, DueBy}

some_same : {A : Type 0} {a b : A} → Some a ≡ Some b → a ≡ b
some_same e = cc

tells_more : (o : Option Files) (name : List ℕ) (P Q : Option (List ℕ) → Type 0) → ((file : Option (List ℕ)) → P file → Q file) → IfSome o (λ files. P (files name)) → IfSome o (λ files. Q (files name))
tells_more None name P Q f h = tt
tells_more (Some files) name P Q f h = f (files name) h

tells_all : (o : Option Files) (name : List ℕ) (Q : Option (List ℕ) → Type 0) → ((file : Option (List ℕ)) → Q file) → IfSome o (λ files. Q (files name))
tells_all None name Q f = tt
tells_all (Some files) name Q f = f (files name)

module _ (main : Option (List ℕ)) (s : ℕ) where
  early : (file : Option (List ℕ)) → (s ≡ 70) ⊎ ((s ≡ 71) ⊎ (s ≡ 72)) → DueBy main file s
  early file h = record { absent = λ e. inr h; too_large = λ bytes e l. inr h; accepted = λ bytes summary e l is. inr h; refused = λ bytes fault e l is. inr h }

  gone : (file : Option (List ℕ)) → s ≡ 73 → file ≡ None → DueBy main file s
  gone file h none = record {
    absent = λ e. inl h;
    too_large = λ bytes e l. absurd (none_some bytes (sym none ∙ e));
    accepted = λ bytes summary e l is. absurd (none_some bytes (sym none ∙ e));
    refused = λ bytes fault e l is. absurd (none_some bytes (sym none ∙ e));
  }
    where
      none_some : (bytes : List ℕ) → None ≡ Some bytes → ⊥
      none_some bytes e = cc

  module _ (file : Option (List ℕ)) (here : List ℕ) (there : file ≡ Some here) where
    not_gone : file ≡ None → ⊥
    not_gone e = let f : Some here ≡ None = sym there ∙ e in cc

    is_here : (bytes : List ℕ) → file ≡ Some bytes → here ≡ bytes
    is_here bytes e = some_same (sym there ∙ e)

    long : s ≡ 74 → longest_file < length here → DueBy main file s
    long h l = record {
      absent = λ e. absurd (not_gone e);
      too_large = λ bytes e m. inl h;
      accepted = λ bytes summary e m is. let n = ap length (is_here bytes e) in absurd (omega (arith, l, m, n));
      refused = λ bytes fault e m is. let n = ap length (is_here bytes e) in absurd (omega (arith, l, m, n));
    }

    -- checking comes to one thing
    due_one : OneChecked → length here ≤ longest_file → (found : Result Summary CheckFault) → IsChecked here (asked_class main) found
        → ((summary : Summary) → found ≡ Ok summary → s ≡ 0) → ((fault : CheckFault) → found ≡ Err fault → s ≡ status_of (fault_of fault)) → DueBy main file s
    due_one once short found is done refusal = record {
      absent = λ e. absurd (not_gone e);
      too_large = λ bytes e l. let n = ap length (is_here bytes e) in absurd (omega (arith, l, short, n));
      accepted = λ bytes summary e l that. inl (done summary (once here (asked_class main) found (Ok summary) is (subst (λ (b : List ℕ). IsChecked b (asked_class main) (Ok summary)) (sym (is_here bytes e)) that)));
      refused = λ bytes fault e l that. inl (refusal fault (once here (asked_class main) found (Err fault) is (subst (λ (b : List ℕ). IsChecked b (asked_class main) (Err fault)) (sym (is_here bytes e)) that)));
    }

  long_file : s ≡ 74 → (file : Option (List ℕ)) → IsSomeAnd file (λ bytes. longest_file < length bytes) → DueBy main file s
  long_file h None l = absurd l
  long_file h (Some here) l = long (Some here) here refl h l

-- what checking finds
abbrev Found : Type 0
Found = Result Summary CheckFault

abbrev finds : Summary → Found
finds summary = Ok summary

abbrev refuses : CheckFault → Found
refuses fault = Err fault

not_both : (summary : Summary) (fault : CheckFault) → finds summary ≡ refuses fault → ⊥
not_both summary fault e = cc

same_fault : (a b : CheckFault) → refuses a ≡ refuses b → a ≡ b
same_fault a b e = cc

status_is : (plan made : Plan) → plan ≡ made → plan.status ≡ made.status
status_is plan made e = ap (λ (p : Plan). p.status) e

planned : OneChecked → (known : Known) (old : Counts) (name : List ℕ) (main : Option (List ℕ)) (new : Counts) (plan : Plan) → FilePlan known old name main new plan →
    Tells known name (λ file. DueBy main file plan.status)
planned once known old name main new plan (failed rose e) = tells_all known.files name _ (λ file. early main plan.status file (inr (inl (status_is plan _ e))))
planned once known old name main new plan (absent none rose e) =
    tells_more known.files name (λ file. file ≡ None) (λ file. DueBy main file plan.status) (λ file none. gone main plan.status file (status_is plan _ e) none) none
planned once known old name main new plan (too_large longer rose e) =
    tells_more known.files name (λ file. IsSomeAnd file (λ bytes. longest_file < length bytes)) (λ file. DueBy main file plan.status) (long_file main plan.status (status_is plan _ e)) longer
planned once known old name main new plan (was_read bytes is short (accepted summary checked e)) =
    tells_more known.files name (λ file. file ≡ Some bytes) (λ file. DueBy main file plan.status) (λ file there.
    due_one main plan.status file bytes there once short (Ok summary) checked (λ other same. status_is plan _ e) (λ fault same. absurd (not_both summary fault same))) is
planned once known old name main new plan (was_read bytes is short (refused fault checked e)) =
    tells_more known.files name (λ file. file ≡ Some bytes) (λ file. DueBy main file plan.status) (λ file there.
    due_one main plan.status file bytes there once short (Err fault) checked (λ summary same. absurd (not_both summary fault (sym same)))
    (λ other same. status_is plan _ e ∙ ap (λ (f : CheckFault). status_of (fault_of f)) (same_fault fault other same))) is

pub due : OneCall → OneChecked → (words : List (List ℕ)) (known : Known) (old new : Counts) (plan : Plan) → WordsPlan words known old new plan → (name : List ℕ) (main : Option (List ℕ)) →
    CallsFor words (check name main) → Tells known name (λ file. DueBy main file plan.status)
due call once words known old new plan (inl c) name main asked =
    planned once known old name main new plan (subst (λ (k : Call). CallPlan k known old new plan) (call words c.call (check name main) c.calls asked) c.comes)
due call once words known old new plan (inr e) name main asked = tells_all known.files name _ (λ file. early main plan.status file (inl (status_is plan _ e)))

-- and carrying the plan out gives its status, or an early one
pub due_by : (known : Known) (name : List ℕ) (main : Option (List ℕ)) (plan : Plan) (old : Outside) (s : ℕ) (new : Outside) → Ends plan old.out old.notes s new.out new.notes →
    Tells known name (λ file. DueBy main file plan.status) → Tells known name (λ file. DueBy main file s)
due_by known name main plan old s new (inl a) h = tells_more known.files name (λ file. DueBy main file plan.status) _ (λ file d. subst (DueBy main file) (sym a.status) d) h
due_by known name main plan old s new (inr (inl u)) h = tells_all known.files name _ (λ file. early main s file (inl u.status))
due_by known name main plan old s new (inr (inr (inl o))) h = tells_all known.files name _ (λ file. early main s file (inr (inr o.status)))
due_by known name main plan old s new (inr (inr (inr n))) h = tells_all known.files name _ (λ file. early main s file (inr (inr n.status)))
