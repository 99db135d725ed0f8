use Rattle.std.proofs.Common.{sym, ap, ◌∙◌, refl}
use Rattle.std.specs.Prelude.{not}
use Rattle.cc_built_in.specs.BuiltInMethods.{built_in_member}
use Rattle.cc_built_in.specs.Listed.{method_of}
use Rattle.cc_members.proofs.Spelling.{result_spelled}
use Rattle.cc_members.proofs.sources.Sources.method_of_listed.Goals as goal

pub spelled_types-requires-clause-spelled : goal.spelled_types-requires-clause-spelled
unfolding method_of
spelled_types-requires-clause-spelled c = let (class, stands) = c.requires.stands in stands.params

pub returns : goal.returns
unfolding method_of built_in_member
returns c = λ class.
    let (some, stands) = c.requires.stands in
    record {
      class = refl;
      name = c.in_ok-name.ensures;
      params = c.in_ok-params.ensures;
      result = result_spelled c.args.self.now.names.now c.args.listed.now.result.now c.in_ok-result.result c.in_ok-result.ensures stands.result;
      is = record { static = refl; virtual = c.ne.ensures ∙ ap not (sym stands.constructor); kind = refl };
    }
