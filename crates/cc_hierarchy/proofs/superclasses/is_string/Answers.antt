use Rattle.std.proofs.Common.{refl}
use Rattle.cc_meaning.specs.BuiltIn.{string_name}
use Rattle.cc_hierarchy.proofs.Extending.{spelled_iff}
use Rattle.cc_hierarchy.proofs.superclasses.is_string.Goals as goal

pub returns : goal.returns
unfolding string_name
returns c = spelled_iff c.args.name.now _ string_name c.spells.result c.spells.ensures refl
