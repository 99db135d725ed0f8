use Rattle.std.proofs.Common.{inl, inr, refl, subst}
use Rattle.cc_meaning_plain.specs.Laws.{AreBytes}
use Rattle.cc_cli.proofs.Offloading.{on_plan, found_plain, found_none}
use Rattle.cc_cli.proofs.offload.by_file.Goals as goal

pub with_script-requires-clause-bytes : goal.with_script-requires-clause-bytes
with_script-requires-clause-bytes g c = subst AreBytes c.as_slice.ensures c.plain_of.ensures.bytes

pub with_script-requires-clause-plain : goal.with_script-requires-clause-plain
with_script-requires-clause-plain g c = found_plain c.as_slice.result.now c.args.file c.in_ok-plain.field-0 c.in-Some.plain c.as_slice.ensures c.in-Some.is c.in_ok-plain.ensures.plain

pub returns-in-Some-clause-plan : goal.returns-in-Some-clause-plan
returns-in-Some-clause-plan g c =
    let is = found_plain c.as_slice.result.now c.args.file c.in_ok-plain.field-0 c.in-Some.plain c.as_slice.ensures c.in-Some.is c.in_ok-plain.ensures.plain in
    on_plan c.with_script.result _ _ (λ plan h. inr (c.in-Some.plain, is, h)) c.with_script.ensures.plan

pub returns-in-None-clause-plan : goal.returns-in-None-clause-plan
returns-in-None-clause-plan g c =
    let no = found_none c.as_slice.result.now c.args.file c.in_ok-plain.field-0 c.as_slice.ensures c.in-None.is c.in_ok-plain.ensures.plain in
    on_plan c.plan.result _ _ (λ plan h. inl (no, (h, refl, refl))) c.plan.ensures
