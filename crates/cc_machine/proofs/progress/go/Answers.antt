use Rattle.std.proofs.Common.{◌≡◌, ◌∙◌, sym, ap, rules, arith, Option, ◌+◌, ℕ, drop}
use Rattle.cc_machine.specs.declared.progress.Pause.{Pause}
use Rattle.cc_machine.specs.Going.{stepped_to, gone_on, goes}
use Rattle.cc_machine.proofs.Steps.{goes_step, goes_to_end}
use Rattle.cc_machine.proofs.progress.go.Goals as goal

pub returns-in-Some-clause-went : goal.returns-in-Some-clause-went
returns-in-Some-clause-went c =
    ap (λ (pause : Option Pause). gone_on (stepped_to pause c.step.new.progress) (goes c.args.plain.now.functions c.args.stops (drop (c.loop-progress.progress.next + 1) c.as_slice-insns.result.now))) (sym c.in-Some.is)
    ∙ goes_step c.args.plain.now.functions c.args.stops c.as_slice-insns.result.now c.loop-progress.progress c.step.new.progress _ c.in_ok-pause.field-0 _ c.loop-progress-test.true (search rules) c.in_ok-pause.ensures.does c.loop-progress.invariant.went

pub loop-progress-preserved : goal.loop-progress-preserved
loop-progress-preserved c =
    let next : c.step.new.progress.next ≡ c.loop-progress.progress.next + 1 = c.step.ensures.next in
    let goes_on = ap (λ (pause : Option Pause). gone_on (stepped_to pause c.step.new.progress) (goes c.args.plain.now.functions c.args.stops (drop (c.loop-progress.progress.next + 1) c.as_slice-insns.result.now))) (sym c.in_default.is)
    ∙ goes_step c.args.plain.now.functions c.args.stops c.as_slice-insns.result.now c.loop-progress.progress c.step.new.progress _ c.in_ok-pause.field-0 _ c.loop-progress-test.true (search rules) c.in_ok-pause.ensures.does c.loop-progress.invariant.went in
    record {
      went = ap (λ (n : ℕ). goes c.args.plain.now.functions c.args.stops (drop n c.as_slice-insns.result.now) c.step.new.progress) next ∙ goes_on;
      within = omega (arith, next, c.loop-progress-test.true);
    }

pub returns-clause-went : goal.returns-clause-went
returns-clause-went c =
    c.finish.ensures.does ∙ goes_to_end c.args.plain.now.functions c.args.stops c.as_slice-insns.result.now c.loop-progress.progress _ c.loop-progress-test.false c.loop-progress.invariant.went
