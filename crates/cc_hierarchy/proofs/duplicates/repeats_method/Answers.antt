use Rattle.std.proofs.Common.{◌∙◌}
use Rattle.std.proofs.lemmas.Result.{IfOk-weaker}
use Rattle.cc_meaning_program.specs.Named.{method_member}
use Rattle.cc_hierarchy.specs.Members.{member_of}
use Rattle.cc_hierarchy.proofs.Duplicating.{mapped_iff}
use Rattle.cc_hierarchy.proofs.duplicates.repeats_method.Goals as goal

pub returns : goal.returns
unfolding member_of
returns c =
    IfOk-weaker c.has_repeats.result _ _ (λ found h. mapped_iff (method_member c.args.ids.now) (λ method. method.row) c.args.methods.now c.as_slice.result.now found (c.as_slice.ensures.value ∙ c.in_ok-rows.ensures) h) c.has_repeats.ensures
