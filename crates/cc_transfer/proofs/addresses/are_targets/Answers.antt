use Rattle.std.proofs.Common.{◌≡◌, ℕ, Option, pos, slice_index_or, refl, sym, ap, ◌∙◌, subst, arith}
use Rattle.std.proofs.lemmas.Int.{to_z-of_z}
use Rattle.std.proofs.lemmas.List.{get_or_default}
use Rattle.std.proofs.lemmas.List.Elements.{All-map}
use Rattle.cc_meaning_typing.specs.Code.{address}
use Rattle.cc_meaning_typing.specs.WellTyped.{IsTarget}
use Rattle.cc_transfer.proofs.Targets.{one_of_all}
use Rattle.cc_transfer.proofs.addresses.are_targets.Goals as goal

pub returns : goal.returns
returns c =
    let targets = c.args.targets.now in
    let go = address c.args.at in
    let Stands : Option ℕ → Type 0 = λ to. IsTarget c.args.code.now to in (
      λ t. All-map Stands go targets (λ k d h. subst Stands (ap go (get_or_default targets k (pos 0) d h)) (c.loop-target.invariant k (omega arith))),
      λ all. refl,
    )

pub returns-then-not-is_target : goal.returns-then-not-is_target
returns-then-not-is_target c =
    let targets = c.args.targets.now in
    let k = c.loop-target.target-index in
    let Stands : Option ℕ → Type 0 = λ to. IsTarget c.args.code.now to in
    let e : c.address.result ≡ address c.args.at (slice_index_or targets k (pos 0)) = grind (arith, to_z-of_z) in (
      λ t. absurd cc,
      λ all. sym c.if-not-is_target.true ∙ c.is_target.ensures.1 (subst Stands (sym e) (one_of_all c.args.code.now c.args.at targets k all c.loop-target-test.true)),
    )
