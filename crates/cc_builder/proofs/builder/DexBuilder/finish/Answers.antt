use Rattle.std.proofs.Common.{List, subst}
use Rattle.std.specs.Prelude.{IfOk}
use Rattle.cc_meaning_builder.specs.declared.content.ListedClass.{ListedClass}
use Rattle.cc_meaning_builder.specs.Built.{Built}
use Rattle.cc_meaning_builder.specs.WellNamed.{WellNamed}
use Rattle.cc_builder.proofs.Finishing.{finished}
use Rattle.cc_builder.proofs.builder.DexBuilder.finish.Goals as goal

pub returns : goal.returns
returns c =
    subst (λ (content : List ListedClass). IfOk c.write_file.result (λ file. WellNamed content → Built content file)) c.self.view_is
    (finished c.written_is_read_again.ensures c.self.inside.classes c.in_ok-ids.ids c.in_ok-classes.classes c.in_ok-classes.outs c.write_file.result c.in_ok-ids.ensures.tables c.in_ok-classes.ensures.members c.in_ok-classes.ensures.outs c.in_ok-classes.ensures.count c.write_file.ensures)
