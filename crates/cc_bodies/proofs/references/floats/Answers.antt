use Rattle.std.proofs.Common.{◌↔◌, subst, sym}
use Rattle.std.specs.Prelude.{IsTrue}
use Rattle.cc_meaning_program.specs.declared.reference.Reference.{Reference}
use Rattle.cc_meaning_program.specs.References.{Floats}
use Rattle.cc_bodies.proofs.references.floats.Goals as goal

pub returns-in-Field : goal.returns-in-Field
returns-in-Field c = subst (λ (named : Reference). IsTrue c.field_floats.result ↔ Floats c.args.ids.now named) (sym c.in-Field.is) c.field_floats.ensures

pub returns-in-Method : goal.returns-in-Method
returns-in-Method c = subst (λ (named : Reference). IsTrue c.method_floats.result ↔ Floats c.args.ids.now named) (sym c.in-Method.is) c.method_floats.ensures
