use Rattle.std.proofs.Common.{[], ◌∷◌, length, sym, ap, subst, ◌∙◌, arith}
use Rattle.cc_owners.proofs.Lists.{length_both}
use Rattle.cc_owners.proofs.Climbing.{Climbs, climbs_first, climbs_within, climbs_more, climbs_room}
use Rattle.cc_owners.proofs.climb.ancestors.Goals as goal

pub loop-next-init : goal.loop-next-init
loop-next-init c = climbs_first c.classes_have_ancestries.ensures c.args.linked.now c.args.class c.new-chain.result c.requires.known c.requires.class c.new-chain.ensures

pub at-requires : goal.at-requires
at-requires c =
    let within = climbs_within c.args.linked.now c.args.class c.loop-next.chain c.in-Some.current (subst (Climbs c.args.linked.now c.args.class c.loop-next.chain) c.in-Some.is c.loop-next.invariant) in
    omega (arith, within, c.requires.known.outlines.all)

pub loop-next-smaller : goal.loop-next-smaller
loop-next-smaller c =
    let room = climbs_room c.args.linked.now c.args.class c.loop-next.chain c.in-Some.current (subst (Climbs c.args.linked.now c.args.class c.loop-next.chain) c.in-Some.is c.loop-next.invariant) in
    let long = ap length c.in_ok-push.ensures.ok ∙ length_both c.loop-next.chain (c.in-Some.current ∷ []) in
    omega (arith, room, long)

pub loop-next-preserved : goal.loop-next-preserved
loop-next-preserved c =
    subst (λ chain. Climbs c.args.linked.now c.args.class chain c.at.result.now.superclass) (sym c.in_ok-push.ensures.ok)
    (climbs_more c.args.linked.now c.args.class c.loop-next.chain c.in-Some.current c.at.result.now c.requires.known c.at.ensures.get (subst (Climbs c.args.linked.now c.args.class c.loop-next.chain) c.in-Some.is c.loop-next.invariant))
