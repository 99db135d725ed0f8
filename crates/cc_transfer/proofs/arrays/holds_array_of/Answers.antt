use Rattle.std.proofs.Common.{◌≡◌, sym, ◌∙◌}
use Rattle.cc_meaning.specs.declared.program.DexType.{DexType}
use Rattle.cc_meaning.specs.Kinds.{kind_of}
use Rattle.cc_transfer.proofs.Elements.{array_holds, array_held}
use Rattle.cc_transfer.proofs.arrays.holds_array_of.Goals as goal

pub returns-then-is_array : goal.returns-then-is_array
returns-then-is_array c =
    let Fits : DexType → Type 0 = λ type. kind_of type ≡ c.args.kind in
    let known = sym c.register.ensures ∙ c.in-Reference.is in
    let array = sym c.is_array.ensures ∙ c.if-is_array.true in (
      λ t. array_holds c.args.state.now c.args.array c.in-Reference.ty Fits known array (rw (← c.element_of.ensures) (rw (← c.kind_of.ensures) (c.same_kind.ensures.0 t))),
      λ h. let held = array_held c.args.state.now c.args.array c.in-Reference.ty Fits known h in c.same_kind.ensures.1 (rw c.kind_of.ensures (rw c.element_of.ensures held.1)),
    )

pub returns-else-is_array : goal.returns-else-is_array
returns-else-is_array c =
    let Fits : DexType → Type 0 = λ type. kind_of type ≡ c.args.kind in
    let known = sym c.register.ensures ∙ c.in-Reference.is in (
      λ t. absurd cc,
      λ h. let held = array_held c.args.state.now c.args.array c.in-Reference.ty Fits known h in c.is_array.ensures ∙ held.0,
    )
