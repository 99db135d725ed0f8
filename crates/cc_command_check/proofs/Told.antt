-- What each plan tells by its status.
use Rattle.std.proofs.Common.{◌≡◌, ◌≢◌, ◌⊎◌, inl, inr, ℕ, true, List, [], Option, refl, sym, ◌∙◌, subst, arith}
use Rattle.clap.specs.Words.{takes}
use Rattle.cc_outside.specs.Shelves.{Known, Counts}
use Rattle.cc_meaning.specs.declared.fault.DexFault.{DexFault}
use Rattle.cc_meaning.specs.declared.fault.DexFault.TheVariants as dex
use Rattle.cc_meaning.specs.declared.fault.InsnFault.{InsnFault}
use Rattle.cc_meaning.specs.declared.fault.InsnFault.TheVariants as insn
use Rattle.cc_meaning.specs.declared.fault.ProgramFault.{ProgramFault}
use Rattle.cc_meaning.specs.declared.fault.ProgramFault.TheVariants as program
use Rattle.cc_meaning.specs.declared.fault.VerifyFault.{VerifyFault}
use Rattle.cc_meaning.specs.declared.fault.VerifyFault.TheVariants as verify
use Rattle.cc_output.specs.declared.plan.Plan.{Plan}
use Rattle.cc_output.specs.declared.fault.Fault.TheVariants as faults
use Rattle.cc_output.specs.Faults.{fault_plan, line_of}
use Rattle.cc_check.specs.declared.fault.CheckFault.{CheckFault}
use Rattle.cc_check.specs.declared.fault.CheckFault.TheVariants as checks
use Rattle.cc_command_check.specs.Calls.{Call, check, help, version, faulty}
use Rattle.cc_command_check.specs.CheckLine.{check_app, CallsFor}
use Rattle.cc_command_check.specs.Texts as texts
use Rattle.cc_command_check.specs.Plans.{shown_plan, summary_line, fault_of, BytesPlan, accepted, refused, FilePlan, failed, absent, too_large, was_read, CallPlan, WordsPlan}

-- the status 64 is for words that aren't taken, a fault writes nothing on out, want of memory has one line, and no plan has the status of a sink that failed
pub record Told (taken : Type 0) (plan : Plan) : Type 0 where
  pub usage : plan.status ≡ 64 → taken → ⊥
  pub out : plan.status ≢ 0 → plan.out ≡ []
  pub memory : plan.status ≡ 70 → plan.notes ≡ line_of faults.Memory []
  pub sink : plan.status ≢ 72

module _ (taken : Type 0) where
  shown : (text : List ℕ) → Told taken (shown_plan text)
  shown text = record {
    usage = λ s t. omega (arith, s);
    out = λ n. absurd (n refl);
    memory = λ s. absurd (omega (arith, s));
    sink = λ s. omega (arith, s);
  }

  refusal : (plan : Plan) (status : ℕ) → plan.status ≡ status → (status ≡ 64 → ⊥) → (status ≡ 70 → ⊥) → (status ≡ 72 → ⊥) → plan.out ≡ [] → Told taken plan
  refusal plan status is usage memory sink out = record {
    usage = λ s t. usage (sym is ∙ s);
    out = λ n. out;
    memory = λ s. absurd (memory (sym is ∙ s));
    sink = λ s. sink (sym is ∙ s);
  }

  malformed : (plan : Plan) → plan.status ≡ 65 → plan.out ≡ [] → Told taken plan
  malformed plan is out = refusal plan 65 is (λ s. omega (arith, s)) (λ s. omega (arith, s)) (λ s. omega (arith, s)) out

  untyped : (plan : Plan) → plan.status ≡ 68 → plan.out ≡ [] → Told taken plan
  untyped plan is out = refusal plan 68 is (λ s. omega (arith, s)) (λ s. omega (arith, s)) (λ s. omega (arith, s)) out

  unread : (plan : Plan) → (plan.status ≡ 71) ⊎ ((plan.status ≡ 73) ⊎ (plan.status ≡ 74)) → plan.out ≡ [] → Told taken plan
  unread plan (inl is) out = refusal plan 71 is (λ s. omega (arith, s)) (λ s. omega (arith, s)) (λ s. omega (arith, s)) out
  unread plan (inr (inl is)) out = refusal plan 73 is (λ s. omega (arith, s)) (λ s. omega (arith, s)) (λ s. omega (arith, s)) out
  unread plan (inr (inr is)) out = refusal plan 74 is (λ s. omega (arith, s)) (λ s. omega (arith, s)) (λ s. omega (arith, s)) out

  forgot : (plan : Plan) → plan.status ≡ 70 → plan.out ≡ [] → plan.notes ≡ line_of faults.Memory [] → Told taken plan
  forgot plan is out notes = record {
    usage = λ s t. omega (arith, is, s);
    out = λ n. out;
    memory = λ s. notes;
    sink = λ s. omega (arith, is, s);
  }

  dex_told : (fault : DexFault) → Told taken (fault_plan (faults.Dex fault) [])
  dex_told dex.NotDex035 = malformed _ refl refl
  dex_told dex.BadSize = malformed _ refl refl
  dex_told (dex.BadChecksum stated found) = malformed _ refl refl
  dex_told dex.BadSignature = malformed _ refl refl
  dex_told (dex.OutOfFile at) = malformed _ refl refl
  dex_told (dex.BadIndex table row) = malformed _ refl refl
  dex_told (dex.BadText string) = malformed _ refl refl
  dex_told dex.TooLarge = malformed _ refl refl
  dex_told (dex.BadClassData class) = malformed _ refl refl
  dex_told (dex.BadCode method) = malformed _ refl refl
  dex_told (dex.BadTry method) = malformed _ refl refl
  dex_told (dex.BadValue class) = malformed _ refl refl
  dex_told dex.Memory = forgot _ refl refl refl

  insn_told : (method : List ℕ) (pc : ℕ) (fault : InsnFault) → Told taken (fault_plan (faults.Program (program.Insn method pc fault)) [])
  insn_told method pc insn.Float = malformed _ refl refl
  insn_told method pc insn.Unused = malformed _ refl refl
  insn_told method pc insn.CutOff = malformed _ refl refl
  insn_told method pc insn.BadPayload = malformed _ refl refl
  insn_told method pc insn.Memory = forgot _ refl refl refl

  program_told : (fault : ProgramFault) → Told taken (fault_plan (faults.Program fault) [])
  program_told (program.HierarchyCycle class) = malformed _ refl refl
  program_told (program.NoSuperclass class) = malformed _ refl refl
  program_told program.NoMain = malformed _ refl refl
  program_told (program.Duplicate class) = malformed _ refl refl
  program_told (program.FloatMember name) = malformed _ refl refl
  program_told (program.Insn method pc fault) = insn_told method pc fault
  program_told (program.BadIndex method pc) = malformed _ refl refl
  program_told program.Memory = forgot _ refl refl refl

  verify_told : (name : List ℕ) (fault : VerifyFault) → Told taken (fault_plan (faults.Verify name fault) [])
  verify_told name (verify.IllTyped method pc) = untyped _ refl refl
  verify_told name (verify.BadTarget method pc) = untyped _ refl refl
  verify_told name (verify.FallsOff method) = untyped _ refl refl
  verify_told name (verify.TooWide method) = untyped _ refl refl
  verify_told name (verify.UnknownMember method pc) = untyped _ refl refl
  verify_told name verify.Memory = forgot _ refl refl refl

  fault_told : (fault : CheckFault) → Told taken (fault_plan (fault_of fault) [])
  fault_told (checks.Dex fault) = dex_told fault
  fault_told (checks.Program fault) = program_told fault
  fault_told (checks.Verify name fault) = verify_told name fault
  fault_told checks.Memory = forgot _ refl refl refl

  bytes_told : (bytes : List ℕ) (main : Option (List ℕ)) (plan : Plan) → BytesPlan bytes main plan → Told taken plan
  bytes_told bytes main plan (accepted summary is e) = subst (Told taken) (sym e) (shown (summary_line summary))
  bytes_told bytes main plan (refused fault is e) = subst (Told taken) (sym e) (fault_told fault)

  file_told : (known : Known) (old : Counts) (name : List ℕ) (main : Option (List ℕ)) (new : Counts) (plan : Plan) → FilePlan known old name main new plan → Told taken plan
  file_told known old name main new plan (failed rose e) = subst (Told taken) (sym e) (unread (fault_plan faults.ReadFault name) (inl refl) refl)
  file_told known old name main new plan (absent none rose e) = subst (Told taken) (sym e) (unread (fault_plan faults.Absent name) (inr (inl refl)) refl)
  file_told known old name main new plan (too_large longer rose e) = subst (Told taken) (sym e) (unread (fault_plan faults.TooLarge name) (inr (inr refl)) refl)
  file_told known old name main new plan (was_read bytes is short comes) = bytes_told bytes main plan comes

usage_told : (taken : Type 0) → (taken → ⊥) → Told taken (fault_plan faults.Usage [])
usage_told taken none = record {
  usage = λ s t. none t;
  out = λ n. refl;
  memory = λ s. absurd (omega (arith, s));
  sink = λ s. omega (arith, s);
}

call_told : (words : List (List ℕ)) (call : Call) (known : Known) (old new : Counts) (plan : Plan) → CallsFor words call → CallPlan call known old new plan → Told (takes check_app words ≡ true) plan
call_told words (check file main) known old new plan calls comes = file_told (takes check_app words ≡ true) known old file main new plan comes
call_told words help known old new plan calls comes = subst (Told (takes check_app words ≡ true)) (sym comes.0) (shown (takes check_app words ≡ true) texts.check_help)
call_told words version known old new plan calls comes = subst (Told (takes check_app words ≡ true)) (sym comes.0) (shown (takes check_app words ≡ true) texts.version)
call_told words faulty known old new plan calls comes = subst (Told (takes check_app words ≡ true)) (sym comes.0) (usage_told (takes check_app words ≡ true) calls.untaken)

pub words_told : (words : List (List ℕ)) (known : Known) (old new : Counts) (plan : Plan) → WordsPlan words known old new plan → Told (takes check_app words ≡ true) plan
words_told words known old new plan (inl c) = call_told words c.call known old new plan c.calls c.comes
words_told words known old new plan (inr e) = subst (Told (takes check_app words ≡ true)) (sym e) (forgot (takes check_app words ≡ true) (fault_plan faults.Memory []) refl refl refl)
