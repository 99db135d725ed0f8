use Rattle.std.proofs.Common.{inl, inr, refl}
use Rattle.std.proofs.lemmas.Bool.Decides.{Decides-eqb}
use Rattle.std.proofs.lemmas.Slice.Eq.{slice_eq-Decides}
use Rattle.cc_meaning_clone.specs.Hello.{no_script}
use Rattle.cc_cli.proofs.Offloading.{on_plan, same_script, other_script}
use Rattle.cc_cli.proofs.offload.by_script.Goals as goal

pub returns-then-eq-clause-plan : goal.returns-then-eq-clause-plan
returns-then-eq-clause-plan g c =
    let is = same_script c.eq.result c.args.script.now no_script (slice_eq-Decides Decides-eqb c.args.script.now no_script c.eq.result c.eq.ensures) refl c.if-eq.true in
    on_plan c.with_partition.result _ _ (λ plan h. inr (is, h)) c.with_partition.ensures.plan

pub returns-else-eq-clause-plan : goal.returns-else-eq-clause-plan
returns-else-eq-clause-plan g c =
    let other = other_script c.eq.result c.args.script.now no_script (slice_eq-Decides Decides-eqb c.args.script.now no_script c.eq.result c.eq.ensures) refl c.if-eq.false in
    on_plan c.plan.result _ _ (λ plan h. inl (other, (h, refl, refl))) c.plan.ensures
