use Rattle.std.proofs.Common.{length, ap, ◌∙◌, arith}
use Rattle.cc_members.proofs.Listing.{few_classes}
use Rattle.cc_members.proofs.planned_built_in.Listings.array_table.Goals as goal

pub overflow_cast-result : goal.overflow_cast-result
overflow_cast-result c = let is = c.len.ensures.value ∙ ap length c.requires.classes in omega (arith, is, few_classes)

pub returns-clause-few : goal.returns-clause-few
returns-clause-few c = let is = c.len.ensures.value ∙ ap length c.requires.classes in omega (arith, is, few_classes)
