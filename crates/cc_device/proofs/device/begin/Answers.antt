use Rattle.std.proofs.Common.{◌∙◌, arith}
use Rattle.cc_device.specs.Travelling.{moves_of}
use Rattle.cc_device.proofs.Pauses.{begun_paused, begun_on, begun_paused_keeps, begun_on_keeps, keeps_since, if_ok}
use Rattle.cc_device.proofs.device.begin.Goals as goal

pub run-requires : goal.run-requires
run-requires c =
    let k = begun_on_keeps c.args.machine.now c.begin.new.self c.in-None.ensures in
    omega (arith, k.2, c.requires)

pub returns-in-Some-clause-course : goal.returns-in-Some-clause-course
returns-in-Some-clause-course c =
    λ t e. begun_paused c.args.plain.now (moves_of c.args.plain.now c.args.moved) c.args.machine.now c.in-Some.pause c.begin.new.self c.in-Some.ensures t

pub returns-in-Some-clause-keeps : goal.returns-in-Some-clause-keeps
returns-in-Some-clause-keeps c = (begun_paused_keeps c.args.machine.now c.in-Some.pause c.begin.new.self c.in-Some.ensures).0

pub returns-in-Some-clause-within : goal.returns-in-Some-clause-within
returns-in-Some-clause-within c =
    let k = begun_paused_keeps c.args.machine.now c.in-Some.pause c.begin.new.self c.in-Some.ensures in
    omega (arith, k.1, c.requires)

pub returns-in-None-clause-course : goal.returns-in-None-clause-course
returns-in-None-clause-course c =
    if_ok c.run.result _ _ (λ pause goes t e. begun_on c.args.plain.now (moves_of c.args.plain.now c.args.moved) c.args.machine.now c.begin.new.self c.in-None.ensures t ∙ goes t e) c.run.ensures.course

pub returns-in-None-clause-keeps : goal.returns-in-None-clause-keeps
returns-in-None-clause-keeps c =
    let k = begun_on_keeps c.args.machine.now c.begin.new.self c.in-None.ensures in
    if_ok c.run.result _ _ (λ pause g. keeps_since c.args.machine.now c.begin.new.self c.run.new.machine pause k g) c.run.ensures.keeps
