use Rattle.std.proofs.Common.{refl}
use Rattle.cc_meaning.specs.BuiltIn.{string_builder_name}
use Rattle.cc_hierarchy.proofs.Extending.{spelled_iff}
use Rattle.cc_hierarchy.proofs.superclasses.is_string_builder.Goals as goal

pub returns : goal.returns
unfolding string_builder_name
returns c = spelled_iff c.args.name.now _ string_builder_name c.spells.result c.spells.ensures refl
