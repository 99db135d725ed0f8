use Rattle.std.proofs.Common.{sym, ◌∙◌}
use Rattle.cc_transfer.proofs.Elements.{array_holds, array_held}
use Rattle.cc_transfer.proofs.arrays.holds_array.Goals as goal

pub returns-in-Reference : goal.returns-in-Reference
returns-in-Reference c =
    let known = sym c.register.ensures ∙ c.in-Reference.is in (
      λ t. array_holds c.args.state.now c.args.array c.in-Reference.ty (λ _. Unit {0}) known (sym c.is_array.ensures ∙ t) tt,
      λ h. let held = array_held c.args.state.now c.args.array c.in-Reference.ty (λ _. Unit {0}) known h in c.is_array.ensures ∙ held.0,
    )
