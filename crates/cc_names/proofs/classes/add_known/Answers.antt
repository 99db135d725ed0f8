use Rattle.std.proofs.Common.{◌++◌, map, ◌∙◌, ap, arith}
use Rattle.std.proofs.lemmas.List.{take_all}
use Rattle.cc_names.specs.Candidates.{candidate_name}
use Rattle.cc_names.proofs.Candidacy.{known_more}
use Rattle.cc_names.proofs.classes.add_known.Goals as goal

pub loop-number-preserved : goal.loop-number-preserved
loop-number-preserved c = λ ids known few.
    rw c.in_ok-push.ensures.ok
    (known_more ids known (map (candidate_name ids known) c.args.all.now) c.loop-number.all c.loop-number.number (omega (arith, few, c.loop-number-test.true)) (c.loop-number.invariant ids known few))

pub returns : goal.returns
returns c = λ ids known same.
    c.loop-number.invariant ids known (omega (arith, same)) ∙ ap (λ names. map (candidate_name ids known) c.args.all.now ++ names) (take_all c.loop-number.number known (omega (arith, same, c.loop-number-test.false)))
