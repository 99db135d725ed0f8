use Rattle.std.proofs.Common.{◌≡◌, ◌<◌, arith, length, inl, inr, subst}
use Rattle.cc_types.proofs.Joined.{Joined, joined_start, joined_step, joined_end, joined_kept, joined_changed}
use Rattle.cc_types.proofs.states.join_into.Goals as goal
use Rattle.cc_types.proofs.states.join_into.Goals.{then-not-same_register, else-not-same_register}

pub loop-at-init : goal.loop-at-init
loop-at-init c = joined_start c.args.program.now c.args.registers.now c.args.other.now

pub loop-at-preserved : goal.loop-at-preserved
loop-at-preserved c =
    let l : c.loop-at.at < length c.args.registers.now = let a = c.loop-at.invariant.long in omega arith in
    joined_step c.args.program.now c.args.registers.now c.args.other.now c.loop-at.at c.loop-at.registers c.loop-at.unchanged c.register-known.result c.register.result c.join-joined.result c.set.new.registers c.if-not-same_register.unchanged c.same_register.result l c.loop-at.invariant c.register-known.ensures c.register.ensures c.join-joined.ensures c.set.ensures c.same_register.ensures
    (elim c.if-not-same_register.branch [
      | then-not-same_register w ↦ inl (w.if-not-same_register.true, w.unchanged-is)
      | else-not-same_register w ↦ inr (w.if-not-same_register.false, w.unchanged-is)
    ])

pub returns-clause-joined : goal.returns-clause-joined
returns-clause-joined c =
    let e : c.loop-at.at ≡ length c.args.registers.now = omega arith in
    let j = subst (λ i. Joined c.args.program.now c.args.registers.now c.args.other.now i c.loop-at.registers c.loop-at.unchanged) e c.loop-at.invariant in
    joined_end c.args.program.now c.args.registers.now c.args.other.now c.loop-at.registers c.loop-at.unchanged c.requires.as_many j

pub returns-clause-unchanged : goal.returns-clause-unchanged
returns-clause-unchanged c =
    let e : c.loop-at.at ≡ length c.args.registers.now = omega arith in
    let j = subst (λ i. Joined c.args.program.now c.args.registers.now c.args.other.now i c.loop-at.registers c.loop-at.unchanged) e c.loop-at.invariant in (
      joined_kept c.args.program.now c.args.registers.now c.args.other.now c.loop-at.registers c.loop-at.unchanged j,
      joined_changed c.args.program.now c.args.registers.now c.args.other.now c.loop-at.registers c.loop-at.unchanged j,
    )
