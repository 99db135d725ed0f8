use Rattle.std.proofs.Common.{subst}
use Rattle.std.specs.Prelude.{List, Option}
use Rattle.cc_meaning.specs.declared.program.Placed.{Placed}
use Rattle.cc_bodies.specs.declared.uses.MemberUses.{MemberUses}
use Rattle.cc_bodies.specs.Gathering.{AddsUses, insns_of_classes}
use Rattle.cc_bodies.proofs.Gathering.{gathered}
use Rattle.cc_bodies.proofs.uses.member_uses.Goals as goal

pub returns : goal.returns
returns c =
    let start : MemberUses = record { methods = c.new.result; fields = c.new-2.result } in
    let added : AddsUses (insns_of_classes c.as_slice.result.now) start c.add_classes.new.uses = c.in_ok-add_classes.ensures in
    λ classes are. gathered classes c.args.bodies.now start c.add_classes.new.uses c.new.ensures c.new-2.ensures (subst (λ (bodies : List (List (Option (List Placed)))). AddsUses (insns_of_classes bodies) start c.add_classes.new.uses) c.as_slice.ensures added) are
