use Rattle.cc_plain.proofs.DescriptorLemmas.{descriptor_is}
use Rattle.cc_plain.proofs.members.is_class_descriptor.Goals as goal

pub returns-then-has_name_units : goal.returns-then-has_name_units
returns-then-has_name_units c =
    let is = descriptor_is c.args.units.now c.if-units-lt3.false c.if-units-ne76.false c.if-units-last-ne59.false in (
      λ e. is.0 (c.has_name_units.ensures.0 c.if-has_name_units.true, c.is_paired.ensures.0 e),
      λ descriptor. c.is_paired.ensures.1 (is.1 descriptor).1,
    )

pub returns-else-has_name_units : goal.returns-else-has_name_units
returns-else-has_name_units c =
    let is = descriptor_is c.args.units.now c.if-units-lt3.false c.if-units-ne76.false c.if-units-last-ne59.false in
    (λ e. absurd (cc), λ descriptor. c.has_name_units.ensures.1 (is.1 descriptor).0)
