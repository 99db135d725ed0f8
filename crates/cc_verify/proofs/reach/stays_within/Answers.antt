use Rattle.std.specs.Prelude.{Some}
use Rattle.cc_meaning_typing.specs.WellTyped.{first}
use Rattle.cc_verify.specs.declared.reach.Frontier.{Frontier}
use Rattle.cc_verify.specs.Reaching.{IsSeen, IsExplored}
use Rattle.cc_verify.proofs.Reaching.{looked_true, nothing_reached, follows_first, follows_next, last_reached, rest_reached, room_falls, stays}
use Rattle.cc_verify.proofs.reach.stays_within.Goals as goal

pub come_to-requires-clause-reached : goal.come_to-requires-clause-reached
come_to-requires-clause-reached c =
    let it : Frontier = record { seen = c.in_ok-seen.seen; next = c.new-next.result } in
    nothing_reached c.args.code.now c.units.result it c.in_ok-seen.ensures c.units.ensures.units

pub come_to-requires-clause-comes : goal.come_to-requires-clause-comes
come_to-requires-clause-comes c = first

pub loop-at-init : goal.loop-at-init
loop-at-init c =
    let code = c.args.code.now in
    let old : Frontier = record { seen = c.in_ok-seen.seen; next = c.new-next.result } in
    let new = c.come_to.new.frontier in
    let l = looked_true code old new (IsSeen new.seen (Some 0)) c.in_ok-come_to.field-0 c.if-not-branch.false c.in_ok-come_to.ensures in
    follows_first code c.units.result old new c.in_ok-seen.ensures c.new-next.ensures l.0 l.1 l.2

pub go_on-requires-clause-reached : goal.go_on-requires-clause-reached
go_on-requires-clause-reached c = rest_reached c.args.code.now c.loop-at.frontier.seen c.loop-at.frontier.next c.pop.new.self c.in-Some.at c.loop-at.invariant c.in-Some.ensures

pub go_on-requires-clause-here : goal.go_on-requires-clause-here
go_on-requires-clause-here c = last_reached c.args.code.now c.loop-at.frontier.seen c.loop-at.frontier.next c.pop.new.self c.in-Some.at c.loop-at.invariant c.in-Some.ensures

pub loop-at-smaller : goal.loop-at-smaller
loop-at-smaller c =
    let code = c.args.code.now in
    let old : Frontier = record { seen = c.loop-at.frontier.seen; next = c.pop.new.self } in
    let new = c.go_on.new.frontier in
    let l = looked_true code old new (IsExplored code new.seen c.in-Some.at) c.in_ok-go_on.field-0 c.if-not-branch-2.false c.in_ok-go_on.ensures in
    room_falls code c.loop-at.frontier.seen c.loop-at.frontier.next c.pop.new.self c.in-Some.at c.loop-at.invariant c.in-Some.ensures new l.0

pub loop-at-preserved : goal.loop-at-preserved
loop-at-preserved c =
    let code = c.args.code.now in
    let old : Frontier = record { seen = c.loop-at.frontier.seen; next = c.pop.new.self } in
    let new = c.go_on.new.frontier in
    let l = looked_true code old new (IsExplored code new.seen c.in-Some.at) c.in_ok-go_on.field-0 c.if-not-branch-2.false c.in_ok-go_on.ensures in
    follows_next code c.loop-at.frontier.seen c.loop-at.frontier.next c.pop.new.self c.in-Some.at c.loop-at.invariant c.in-Some.ensures new l.0 l.1 l.2

pub returns : goal.returns
returns c = stays c.args.code.now c.loop-at.frontier c.loop-at.invariant c.in_default.ensures.0
