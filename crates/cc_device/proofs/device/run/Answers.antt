use Rattle.std.proofs.Common.{◌∙◌, ap, is_some, drop, Option, ℕ}
use Rattle.cc_machine.specs.Going.{goes}
use Rattle.cc_device.proofs.Pauses.{went_course, went_keeps}
use Rattle.cc_device.proofs.device.run.Goals as goal

pub returns-clause-course : goal.returns-clause-course
returns-clause-course c =
    went_course c.args.plain.now c.args.moved (is_some c.args.contact.now.end) c.args.machine.now c.run.new.self c.in_ok-pause.pause
    (c.in_ok-pause.ensures.went ∙ ap (λ (stops : Option ℕ). goes c.args.plain.now.functions stops (drop c.args.machine.now.next c.args.plain.now.main.insns) c.args.machine.now) c.stops_of-stops.ensures)

pub returns-clause-keeps : goal.returns-clause-keeps
returns-clause-keeps c =
    went_keeps c.args.plain.now c.args.moved (is_some c.args.contact.now.end) c.args.machine.now c.run.new.self c.in_ok-pause.pause
    (c.in_ok-pause.ensures.went ∙ ap (λ (stops : Option ℕ). goes c.args.plain.now.functions stops (drop c.args.machine.now.next c.args.plain.now.main.insns) c.args.machine.now) c.stops_of-stops.ensures)
