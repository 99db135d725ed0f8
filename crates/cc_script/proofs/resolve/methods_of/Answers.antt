use Rattle.std.proofs.Common.{◌+◌}
use Rattle.cc_meaning_script.specs.Script.{method_at, methods_from}
use Rattle.cc_script.proofs.ClassLemmas.{gives_on}
use Rattle.cc_script.proofs.Each.{each_fault}
use Rattle.cc_script.proofs.resolve.methods_of.Goals as goal

pub returns-in-Err : goal.returns-in-Err
returns-in-Err c = λ n e.
    gives_on (method_at c.args.program.now c.args.class.now n (0 + c.loop-at.at) c.index-members-at.result) (methods_from c.args.program.now c.args.class.now n 0 c.args.members.now) c.in-Err.fault
    (λ f bad.
    each_fault (method_at c.args.program.now c.args.class.now n) 0 c.loop-at.at c.args.members.now c.loop-at.methods c.index-members-at.result f c.loop-at-test.true c.index-members-at.is
    (c.loop-at.invariant n e) bad)
    (c.in-Err.ensures n (0 + c.loop-at.at) e c.place_behind.ensures)
