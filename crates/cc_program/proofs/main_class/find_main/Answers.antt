use Rattle.std.proofs.Common.{◌≡◌, ℕ, length, sym, ◌∙◌, arith}
use Rattle.std.specs.Option.{option_copied}
use Rattle.cc_program.proofs.Mains.{one_further, to_the_end}
use Rattle.cc_program.proofs.main_class.find_main.Goals as goal

pub loop-definition-preserved : goal.loop-definition-preserved
loop-definition-preserved c = one_further c.args.ids.now c.args.classes.now (option_copied c.args.asked) c.loop-definition.definition c.loop-definition.invariant c.in_default.ensures

pub returns : goal.returns
returns c =
    let long = c.len-definition-end.ensures.value in
    let past = c.loop-definition-test.false in
    to_the_end c.args.ids.now c.args.classes.now (option_copied c.args.asked) c.loop-definition.definition (length c.args.ids.now.classes) (omega (arith, long, past)) c.loop-definition.invariant
