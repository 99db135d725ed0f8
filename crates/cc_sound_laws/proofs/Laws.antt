-- The laws, from the soundness of each step.
use Rattle.cc_meaning.specs.declared.program.Program.{Program}
use Rattle.cc_meaning.specs.declared.script.Script.{Script}
use Rattle.cc_meaning_exec.specs.Eval.{Hook}
use Rattle.cc_meaning_fits.specs.Soundness.{EvalIsSound, RunHasReport, LocalHasReport}
use Rattle.cc_sound_laws.proofs.Evals.{eval_sound}
use Rattle.cc_sound_laws.proofs.Opening.{opening_world_fits}
use Rattle.cc_sound_laws.proofs.Runs.{run_sound, local_sound}
use Rattle.cc_sound_laws.proofs.Steps.{step_is_sound}

pub eval_is_sound : {T : Type 0} (hook : Hook T) (script : Script) (p : Program) → EvalIsSound hook script p
eval_is_sound hook script p = eval_sound step_is_sound hook script p

pub run_has_report : {T : Type 0} (hook : Hook T) (script : Script) (p : Program) → RunHasReport hook script p
run_has_report hook script p = run_sound step_is_sound opening_world_fits hook script p

pub local_has_report : LocalHasReport
local_has_report = local_sound step_is_sound opening_world_fits
