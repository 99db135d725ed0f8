use Rattle.std.proofs.Common.{subst, sym}
use Rattle.std.specs.Prelude.{All}
use Rattle.cc_meaning.specs.declared.program.Catch.{Catch}
use Rattle.cc_meaning_typing.specs.WellTyped.{Reaches}
use Rattle.cc_verify.specs.Reaching.{CanCome, IsSeen}
use Rattle.cc_verify.proofs.Reaching.{no_target, looked_true, successors_come, handlers_come, explored}
use Rattle.cc_verify.proofs.reach.go_on.Goals as goal

pub returns-in_default : goal.returns-in_default
returns-in_default c = record { at = c.args.at; reached = c.requires.here; nothing = no_target c.args.code.now c.args.at (sym c.in_default.ensures) }

pub come_to_all-requires-clause-comes : goal.come_to_all-requires-clause-comes
come_to_all-requires-clause-comes c = subst (λ z. All (CanCome c.args.code.now) z) (sym c.successors.ensures) (successors_come c.args.code.now c.args.at c.in-Some.placed.now c.requires.here (sym c.in-Some.ensures))

pub come_to_handlers-requires-clause-comes : goal.come_to_handlers-requires-clause-comes
come_to_handlers-requires-clause-comes c = subst (λ z. All (λ (catch : Catch). Reaches c.args.code.now catch.at) z) (sym c.handlers.ensures) (handlers_come c.args.code.now c.args.at c.in-Some.placed.now c.requires.here (sym c.in-Some.ensures))

pub returns : goal.returns
returns c =
    let code = c.args.code.now in
    let mid = c.come_to_all.new.frontier in
    let l = looked_true code c.args.frontier.now mid (All (IsSeen mid.seen) c.successors.result) c.in_ok-come_to_all.field-0 c.if-not-branch.false c.in_ok-come_to_all.ensures in
    explored code c.args.at c.in-Some.placed.now c.args.frontier.now mid c.come_to_handlers.new.frontier c.in_ok-stand.stand c.successors.result c.handlers.result.now (sym c.in-Some.ensures) c.successors.ensures c.handlers.ensures l.0 l.2 c.in_ok-stand.ensures
