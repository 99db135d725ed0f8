use Rattle.cc_meaning_script.specs.Script.{method_at, given_at}
use Rattle.cc_script.proofs.ClassLemmas.{gives_on}
use Rattle.cc_script.proofs.Resolving.{given_fault}
use Rattle.cc_script.proofs.resolve.given_at.Goals as goal

pub returns-in-Err : goal.returns-in-Err
returns-in-Err c = λ number place e f.
    gives_on (method_at c.args.program.now c.args.class.now number place c.args.pair.now.member) (given_at c.args.program.now c.args.class.now number place c.args.pair.now) c.in-Err.fault
    (λ g bad. given_fault c.args.program.now c.args.class.now number place c.args.pair.now g bad)
    (c.in-Err.ensures number place e f)
