use Rattle.std.proofs.Common.{◌-◌, ◌+◌, ◌++◌, length, ap, arith}
use Rattle.std.specs.Prelude.{reverse}
use Rattle.std.proofs.lemmas.List.{take_all}
use Rattle.cc_owners.proofs.Reversing.{reversed_more, reversed_all}
use Rattle.cc_owners.proofs.search.push_reversed.Goals as goal

pub loop-back-init : goal.loop-back-init
loop-back-init c = ap (λ l. c.args.stack.now ++ reverse l) (take_all (length c.args.classes.now - 0) c.args.classes.now (omega arith))

pub loop-back-preserved : goal.loop-back-preserved
loop-back-preserved c =
    let classes = c.args.classes.now in
    let back = c.loop-back.back in
    reversed_more classes c.loop-back.stack c.push.new.self (c.args.stack.now ++ reverse classes) (length classes - 1 - back) (length classes - back) (length classes - (back + 1))
    (omega (arith, c.loop-back-test.true)) (omega (arith, c.loop-back-test.true)) (omega arith) c.in_ok-push.ensures.ok c.loop-back.invariant

pub returns : goal.returns
returns c =
    reversed_all c.args.classes.now c.loop-back.stack (c.args.stack.now ++ reverse c.args.classes.now) (length c.args.classes.now - c.loop-back.back) (omega (arith, c.loop-back-test.false)) c.loop-back.invariant
