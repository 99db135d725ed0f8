use Rattle.std.proofs.Common.{suc, List, drop, drop-cons, subst}
use Rattle.cc_meaning.specs.declared.program.Base.TheVariants as base
use Rattle.cc_meaning.specs.declared.program.DexType.{DexType}
use Rattle.cc_meaning_typing.specs.Rules.{Arguments}
use Rattle.cc_transfer.proofs.members.arguments.Goals as goal

pub returns-in-None : goal.returns-in-None
returns-in-None c =
    let none : DexType = record { dims = 0; base = base.Boolean } in
    let params = c.args.params.now in
    let at = c.loop-ty.ty-index in
    let Left : List DexType → Type 0 = λ types. Arguments c.args.program.now c.args.state.now types c.loop-ty.rest.now in (
      λ t. absurd cc,
      λ h. absurd (c.in-None.ensures (drop (suc at) params) (subst Left (drop-cons params at none c.loop-ty-test.true) (c.loop-ty.invariant.rest h))),
    )
