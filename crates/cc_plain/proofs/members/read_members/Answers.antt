use Rattle.std.proofs.Common.{◌≡◌, length, arith}
use Rattle.cc_plain.proofs.NumberLemmas.{lists_more, lists_no_more, lists_all}
use Rattle.cc_plain.proofs.members.read_members.Goals as goal

pub returns-in_default : goal.returns-in_default
returns-in_default c = λ members rows h. c.in_default.ensures members h

pub returns-in_default-read_member : goal.returns-in_default-read_member
returns-in_default-read_member c = λ members rows h.
    let told = (c.in-Some.ensures members).0 h in
    lists_no_more c.args.file.now c.in-Some.start c.in-Some.count c.loop.place c.loop.row c.loop.counter c.loop.members c.loop.invariant.1 c.loop-test.true
    c.in_default-read_member.ensures members told.0 rows told.1

pub loop-preserved : goal.loop-preserved
loop-preserved c = (
  omega (arith, c.loop-test.true),
  lists_more c.args.file.now c.in-Some.start c.in-Some.count c.loop.place c.loop.row c.loop.counter c.in-Some-read_member.next c.loop.members c.push.new.self c.in-Some-read_member.member
      c.loop.invariant.1 c.loop-test.true c.in-Some-read_member.ensures.0 c.in-Some-read_member.ensures.1 c.in_ok-push.ensures.ok,
)

pub returns : goal.returns
returns c =
    let told = c.loop.invariant.1 in
    let counted : length c.loop.members ≡ c.in-Some.count = omega (arith, told.length_is, c.loop.invariant.0, c.loop-test.false) in
    (c.in-Some.ensures c.loop.members).1 (counted, lists_all c.args.file.now c.in-Some.start c.in-Some.count c.loop.place c.loop.row c.loop.counter c.loop.members told)
