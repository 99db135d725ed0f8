use Rattle.std.proofs.Common.{◌+◌, ◌∙◌}
use Rattle.cc_meaning_script.specs.Script.{given_at, givens_from}
use Rattle.cc_script.proofs.ClassLemmas.{gives_on}
use Rattle.cc_script.proofs.Each.{each_fault, each_more}
use Rattle.cc_script.proofs.resolve.givens_of.Goals as goal

pub returns-in-Err : goal.returns-in-Err
returns-in-Err c = λ n start e s.
    gives_on (given_at c.args.program.now c.args.class.now n (start + c.loop-at.at) c.index-pairs-at.result) (givens_from c.args.program.now c.args.class.now n start c.args.pairs.now) c.in-Err.fault
    (λ f bad.
    each_fault (given_at c.args.program.now c.args.class.now n) start c.loop-at.at c.args.pairs.now c.loop-at.givens c.index-pairs-at.result f c.loop-at-test.true c.index-pairs-at.is
    (c.loop-at.invariant n start e s) bad)
    (c.in-Err.ensures n (start + c.loop-at.at) e (c.place_behind.ensures ∙ s c.loop-at.at))

pub loop-at-preserved : goal.loop-at-preserved
loop-at-preserved c = λ n start e s.
    each_more (given_at c.args.program.now c.args.class.now n) start c.loop-at.at c.args.pairs.now c.loop-at.givens c.push.new.self c.index-pairs-at.result c.in-Ok.given c.loop-at-test.true c.index-pairs-at.is
    (c.in-Ok.ensures n (start + c.loop-at.at) e (c.place_behind.ensures ∙ s c.loop-at.at)) c.in_ok-push-in-Ok.ensures.ok (c.loop-at.invariant n start e s)
