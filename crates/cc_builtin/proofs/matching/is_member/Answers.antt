use Rattle.std.proofs.Common.{◌∙◌}
use Rattle.cc_units.proofs.Matches.{whole_of}
use Rattle.cc_builtin.proofs.matching.is_member.Goals as goal

pub returns-in-Some : goal.returns-in-Some
returns-in-Some c = c.is_empty.ensures ∙ whole_of _ _ c.in-Some.rest.now c.in-Some.ensures
