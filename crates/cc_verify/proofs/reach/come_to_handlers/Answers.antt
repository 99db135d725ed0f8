use Rattle.std.proofs.Common.{◌≡◌, true, take, subst}
use Rattle.std.specs.Prelude.{All, None, Some}
use Rattle.std.proofs.lemmas.List.Elements.{All-more}
use Rattle.cc_meaning.specs.declared.program.Catch.{Catch}
use Rattle.cc_verify.specs.Reaching.{IsSeen, seen_at}
use Rattle.cc_verify.proofs.Tables.{take_all}
use Rattle.cc_verify.proofs.Reaching.{widens_further, looked_true, all_kept}
use Rattle.cc_verify.proofs.reach.come_to_handlers.Goals as goal

pub loop-catch-preserved : goal.loop-catch-preserved
loop-catch-preserved c =
    let code = c.args.code.now in
    let old = c.loop-catch.frontier in
    let new = c.come_to.new.frontier in
    let d : Catch = record { kind = None; at = 0 } in
    let l = looked_true code old new (IsSeen new.seen (Some c.from.result)) c.in_ok-come_to.field-0 c.if-not-branch.false c.in_ok-come_to.ensures in
    record {
      widens = widens_further c.args.frontier.now old new c.loop-catch.invariant.widens l.0;
      reached = l.1;
      seen = All-more (λ (catch : Catch). seen_at new.seen catch.at ≡ true) c.args.handlers.now c.loop-catch.catch-index d c.loop-catch-test.true
          (all_kept old.seen new.seen (take c.loop-catch.catch-index c.args.handlers.now) l.0.keeps c.loop-catch.invariant.seen)
          (subst (λ n. seen_at new.seen n ≡ true) c.from.ensures l.2);
    }

pub returns : goal.returns
returns c = (c.loop-catch.invariant.widens, c.loop-catch.invariant.reached, subst (λ z. All (λ (catch : Catch). seen_at c.loop-catch.frontier.seen catch.at ≡ true) z) (take_all c.args.handlers.now c.loop-catch.catch-index c.loop-catch-test.false) c.loop-catch.invariant.seen)
