use Rattle.std.proofs.Common.{subst}
use Rattle.std.specs.Prelude.{All}
use Rattle.std.proofs.lemmas.List.Elements.{All-head, All-tail}
use Rattle.cc_verify.specs.Reaching.{CanCome, IsSeen}
use Rattle.cc_verify.proofs.Reaching.{widens_further, looked_true, seen_next, seen_all}
use Rattle.cc_verify.proofs.reach.come_to_all.Goals as goal

pub come_to-requires-clause-comes : goal.come_to-requires-clause-comes
come_to-requires-clause-comes c = All-head (CanCome c.args.code.now) c.in-Some.address c.take_first.new.self (subst (λ z. All (CanCome c.args.code.now) z) c.in-Some.ensures c.loop-address.invariant.comes)

pub loop-address-preserved : goal.loop-address-preserved
loop-address-preserved c =
    let code = c.args.code.now in
    let old = c.loop-address.frontier in
    let new = c.come_to.new.frontier in
    let l = looked_true code old new (IsSeen new.seen c.in-Some.address) c.in_ok-come_to.field-0 c.if-not-branch.false c.in_ok-come_to.ensures in
    record {
      widens = widens_further c.args.frontier.now old new c.loop-address.invariant.widens l.0;
      reached = l.1;
      comes = All-tail (CanCome code) c.in-Some.address c.take_first.new.self (subst (λ z. All (CanCome code) z) c.in-Some.ensures c.loop-address.invariant.comes);
      seen = seen_next old.seen new.seen c.loop-address.rest c.take_first.new.self c.args.addresses c.in-Some.address c.loop-address.invariant.seen c.in-Some.ensures l.0.keeps l.2;
    }

pub returns : goal.returns
returns c = (c.loop-address.invariant.widens, c.loop-address.invariant.reached, seen_all c.loop-address.frontier.seen c.loop-address.rest c.args.addresses c.loop-address.invariant.seen c.in_default.ensures.0)
