use Rattle.std.proofs.Common.{None, subst, ◌∙◌, refl}
use Rattle.cc_meaning.specs.BuiltIn.{print_stream_name, out_name}
use Rattle.cc_meaning_program.specs.TypeNames.{IsTypeOf}
use Rattle.cc_members.proofs.sources.Sources.out_field.Goals as goal

pub unreachable-requires : goal.unreachable-requires
unfolding print_stream_name
unreachable-requires c =
    let (ty, spells) = c.requires.typed in
    let gone : IsTypeOf c.args.self.now.names.now print_stream_name None = subst (IsTypeOf c.args.self.now.names.now print_stream_name) c.in_default.is c.in_ok-ty.ensures in
    gone ty spells

pub returns : goal.returns
unfolding print_stream_name out_name
returns c = record {
  class = refl;
  name = c.in_ok-name.ensures ∙ refl;
  ty = subst (IsTypeOf c.args.self.now.names.now print_stream_name) c.in-Some.is c.in_ok-ty.ensures;
  static = refl;
}
