use Rattle.cc_cli.proofs.Planning.{plain_plan}
use Rattle.std.proofs.Common.{rules, arith}
use Rattle.cc_meaning_plain.specs.Laws.{AreBytes}
use Rattle.cc_cli.proofs.command.run_bytes.Goals as goal

pub returns-in-Some : goal.returns-in-Some
returns-in-Some c =
    let bytes : AreBytes c.args.file.now = λ i. omega (arith, c.type_inv.file i) in
    plain_plan c.args.name.now c.args.file.now c.in-Some.plain c.ran_plan.result c.law_plain_reports.ensures c.law_plain_returns.ensures bytes (search rules) c.ran_plan.ensures
