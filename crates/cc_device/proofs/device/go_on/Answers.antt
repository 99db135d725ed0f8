use Rattle.std.proofs.Common.{◌∙◌, is_some, arith}
use Rattle.cc_device.proofs.Pauses.{back_paused, back_on, paused_keeps, on_keeps, keeps_since, if_ok}
use Rattle.cc_device.proofs.device.go_on.Goals as goal

pub run-requires : goal.run-requires
run-requires c =
    let k = on_keeps c.args.to c.args.came c.args.machine.now c.requires.instructions c.requires.words c.finish_call.new.self c.in-None.ensures in
    omega (arith, k.2, c.requires.within)

pub returns-in-Some-clause-course : goal.returns-in-Some-clause-course
returns-in-Some-clause-course c =
    back_paused c.args.plain.now c.args.moved (is_some c.args.contact.now.end) c.args.to c.args.came c.args.machine.now c.in-Some.pause c.finish_call.new.self c.in-Some.ensures

pub returns-in-Some-clause-keeps : goal.returns-in-Some-clause-keeps
returns-in-Some-clause-keeps c = (paused_keeps c.args.to c.args.came c.args.machine.now c.requires.instructions c.requires.words c.in-Some.pause c.finish_call.new.self c.in-Some.ensures).0

pub returns-in-Some-clause-within : goal.returns-in-Some-clause-within
returns-in-Some-clause-within c =
    let k = paused_keeps c.args.to c.args.came c.args.machine.now c.requires.instructions c.requires.words c.in-Some.pause c.finish_call.new.self c.in-Some.ensures in
    omega (arith, k.1, c.requires.within)

pub returns-in-None-clause-course : goal.returns-in-None-clause-course
returns-in-None-clause-course c =
    let k = on_keeps c.args.to c.args.came c.args.machine.now c.requires.instructions c.requires.words c.finish_call.new.self c.in-None.ensures in
    if_ok c.run.result _ _ (λ pause goes t e. back_on c.args.plain.now c.args.moved (is_some c.args.contact.now.end) c.args.to c.args.came c.args.machine.now c.finish_call.new.self c.in-None.ensures k.2 t e ∙ goes t e) c.run.ensures.course

pub returns-in-None-clause-keeps : goal.returns-in-None-clause-keeps
returns-in-None-clause-keeps c =
    let k = on_keeps c.args.to c.args.came c.args.machine.now c.requires.instructions c.requires.words c.finish_call.new.self c.in-None.ensures in
    if_ok c.run.result _ _ (λ pause g. keeps_since c.args.machine.now c.finish_call.new.self c.run.new.machine pause k g) c.run.ensures.keeps
