use Rattle.std.proofs.Common.{◌⊎◌, subst, arith}
use Rattle.std.specs.Prelude.{◌↔◌, Contains}
use Rattle.cc_hierarchy.proofs.Extending.{BySuperclass, ByInterface, interfaces_none, interfaces_more, next_above_iff}
use Rattle.cc_hierarchy.proofs.Searching.{taken_all}
use Rattle.cc_hierarchy.proofs.above.next_above.Goals as goal

pub loop-ty-init : goal.loop-ty-init
loop-ty-init c = interfaces_none c.args.ids.now c.args.stated.now.superclass c.in_ok-above.above c.in_ok-above.ensures

pub loop-ty-preserved : goal.loop-ty-preserved
loop-ty-preserved c =
    interfaces_more c.args.ids.now c.args.stated.now.superclass c.as_slice-ty-items.result.now c.loop-ty.ty-index c.loop-ty.above c.add_definition.new.above c.loop-ty-test.true c.loop-ty.invariant c.in_ok-add_definition.ensures

pub returns : goal.returns
returns c =
    next_above_iff c.args.ids.now c.args.stated.now c.loop-ty.above c.as_slice-ty-items.result.now c.as_slice-ty-items.ensures
    (λ number.
    subst (λ xs. Contains c.loop-ty.above number ↔ (BySuperclass c.args.ids.now c.args.stated.now.superclass number ⊎ ByInterface c.args.ids.now xs number))
    (taken_all c.as_slice-ty-items.result.now c.loop-ty.ty-index (omega arith) c.loop-ty-test.false) (c.loop-ty.invariant number))
