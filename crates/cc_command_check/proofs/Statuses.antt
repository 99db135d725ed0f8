-- What each status says.
use Rattle.std.proofs.Common.{◌≡◌, ◌≢◌, ◌⊎◌, inl, inr, ℕ, true, List, [], refl, sym, ◌∙◌, subst, arith}
use Rattle.clap.specs.Words.{takes}
use Rattle.cc_outside.specs.Counting.{Rose}
use Rattle.cc_output.specs.declared.plan.Plan.{Plan}
use Rattle.cc_output.specs.Carrying.{Ends, Wrote}
use Rattle.cc_output.specs.declared.fault.Fault.TheVariants as faults
use Rattle.cc_output.specs.Faults.{fault_plan, line_of}
use Rattle.cc_check.specs.Checking.{OneChecked}
use Rattle.cc_command_check.specs.CheckLine.{check_app, OneCall}
use Rattle.cc_command_check.specs.Checks.{Outside, ComesTo, Checks}
use Rattle.cc_command_check.proofs.Due.{due, due_by}
use Rattle.cc_command_check.proofs.Told.{Told, words_told}

module _ (taken : Type 0) (plan : Plan) (old : Outside) (s : ℕ) (new : Outside) (told : Told taken plan) where
  not_64 : Ends plan old.out old.notes s new.out new.notes → taken → s ≢ 64
  not_64 (inl a) t z = told.usage (sym a.status ∙ z) t
  not_64 (inr (inl u)) t z = let is = u.status in omega (arith, is, z)
  not_64 (inr (inr (inl o))) t z = let is = o.status in omega (arith, is, z)
  not_64 (inr (inr (inr n))) t z = let is = n.status in omega (arith, is, z)

  no_out : Ends plan old.out old.notes s new.out new.notes → s ≢ 0 → s ≢ 72 → new.out.text ≡ old.out.text
  no_out (inl a) some unlost = a.no_out (told.out (λ e. some (a.status ∙ e)))
  no_out (inr (inl u)) some unlost = u.out
  no_out (inr (inr (inl o))) some unlost = absurd (unlost o.status)
  no_out (inr (inr (inr n))) some unlost = absurd (unlost n.status)

  at_70 : Ends plan old.out old.notes s new.out new.notes → s ≡ 70 → (new.notes.text ≡ old.notes.text) ⊎ Wrote (line_of faults.Memory []) old.notes new.notes
  at_70 (inl a) z = inr (subst (λ (t : List ℕ). Wrote t old.notes new.notes) (told.memory (sym a.status ∙ z)) a.notes)
  at_70 (inr (inl u)) z = inl u.notes
  at_70 (inr (inr (inl o))) z = absurd (let is = o.status in omega (arith, is, z))
  at_70 (inr (inr (inr n))) z = absurd (let is = n.status in omega (arith, is, z))

  at_72 : Ends plan old.out old.notes s new.out new.notes → s ≡ 72 → Rose old.out.faults new.out.faults ⊎ Rose old.notes.faults new.notes.faults
  at_72 (inl a) z = absurd (told.sink (sym a.status ∙ z))
  at_72 (inr (inl u)) z = absurd (let is = u.status in omega (arith, is, z))
  at_72 (inr (inr (inl o))) z = inl o.faults
  at_72 (inr (inr (inr n))) z = inr n.faults

pub checks : OneCall → OneChecked → (words : List (List ℕ)) (old : Outside) (s : ℕ) (new : Outside) (uncalled : Type 0) → ComesTo words old s new uncalled → Checks words old s new uncalled
checks call once words old s new uncalled (plan, comes, ends, alone) =
    let taken : Type 0 = takes check_app words ≡ true in
    let told = words_told words old.known old.counts new.counts plan comes in record {
      ends = (plan, comes, ends, alone);
      due = λ name main asked. due_by old.known name main plan old s new ends (due call once words old.known old.counts new.counts plan comes name main asked);
      taken = not_64 taken plan old s new told ends;
      quiet = no_out taken plan old s new told ends;
      forgotten = at_70 taken plan old s new told ends;
      lost = at_72 taken plan old s new told ends;
    }

pub no_plan : OneCall → OneChecked → (words : List (List ℕ)) (old new : Outside) → new.out.text ≡ old.out.text → new.notes.text ≡ old.notes.text → (uncalled : Type 0) → uncalled → Checks words old 70 new uncalled
no_plan call once words old new out notes uncalled alone = checks call once words old 70 new uncalled (fault_plan faults.Memory [], inr refl, inr (inl (record { status = refl; out = out; notes = notes })), λ e. alone)
