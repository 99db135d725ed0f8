use Rattle.std.proofs.Common.{rules, Ok, [], subst}
use Rattle.std.proofs.lemmas.List.{nil_from_length}
use Rattle.cc_meaning_nodes.specs.Talk.{Closed}
use Rattle.cc_meaning_clone.specs.Plain.{place_in}
use Rattle.cc_clone.specs.Node.{standing_at, Steps, StepsBy}
use Rattle.cc_clone.specs.declared.stream.Progress.{Progress}
use Rattle.cc_clone.proofs.Stepping.{steps-more, steps-end, steps-closed}
use Rattle.cc_clone.proofs.stream.feed.Goals as goal

pub returns-in-Closes-clause-ok : goal.returns-in-Closes-clause-ok
returns-in-Closes-clause-ok c =
    let s = standing_at (Ok (place_in c.args.job.now)) c.args.reader.now in
    let t = standing_at (Ok (place_in c.loop-rest.job)) c.loop-rest.reader in
    let old = c.args.replies.now.items in
    let mid = c.loop-rest.replies.items in
    let new = c.step.new.replies.items in
    let piece = c.args.piece.now in
    let rest = c.loop-rest.rest.now in
    let cause = c.in-Closes.cause in
    let closes : Steps mid t rest new (Closed cause) [] = subst (λ (progress : Progress). StepsBy mid t rest progress new c.step.new.job c.step.new.reader) c.in-Closes.is c.in_ok-count.ensures.ok in
    steps-closed old new piece [] s cause (steps-more old mid new s t (Closed cause) piece rest [] c.loop-rest.invariant.steps closes)

pub returns-clause-ok : goal.returns-clause-ok
returns-clause-ok c =
    let rest = c.loop-rest.rest.now in
    steps-end c.talk_steps.ensures.nothing c.nothing_more.ensures c.args.replies.now.items c.loop-rest.replies.items c.args.piece.now rest
    (standing_at (Ok (place_in c.args.job.now)) c.args.reader.now) (place_in c.loop-rest.job) c.loop-rest.reader c.loop-rest.invariant.held (nil_from_length rest (search rules)) c.loop-rest.invariant.steps
