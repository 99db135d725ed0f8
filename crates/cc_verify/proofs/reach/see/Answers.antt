use Rattle.cc_verify.proofs.Reaching.{widens_push, flag_get}
use Rattle.std.proofs.Common.{◌∙◌, ap, false}
use Rattle.std.specs.Prelude.{Some}
use Rattle.cc_verify.specs.declared.reach.Frontier.{Frontier}
use Rattle.cc_verify.proofs.reach.see.Goals as goal

pub returns-in_ok-push-clause-widens : goal.returns-in_ok-push-clause-widens
returns-in_ok-push-clause-widens c =
    let new : Frontier = record { seen = c.set.new.self; next = c.push.new.self } in
    widens_push c.args.frontier.now new c.args.at c.requires (flag_get c.args.frontier.now.seen c.args.at false (c.at.ensures.get ∙ ap Some c.if-not-at.true)) c.set.ensures c.in_ok-push.ensures.ok
