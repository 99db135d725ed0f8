use Rattle.std.proofs.Common.{◌≡◌, Option, Some, None, refl, sym, ap, subst, ◌∙◌}
use Rattle.std.specs.Prelude.{is_some}
use Rattle.std.specs.Borrow.{Bor}
use Rattle.std.specs.Option.{option_copied}
use Rattle.cc_meaning.specs.declared.file.ClassRow.{ClassRow}
use Rattle.cc_meaning_program.specs.Ancestry.{is_defined, superclass_named, interfaces_named, superclass_by_kind, stated_interfaces}
use Rattle.cc_meaning_program.specs.Outlines.{IsNumberOf, AreNumbersOf}
use Rattle.cc_hierarchy.proofs.FirstDefining.{definition_fits}
use Rattle.cc_hierarchy.proofs.classes.outline.Goals as goal

some_copied : (o : Option (Bor ClassRow)) → is_some o ≡ is_some (option_copied o)
some_copied None = refl
some_copied (Some x) = refl

pub superclass_by_kind-requires-clause-fits : goal.superclass_by_kind-requires-clause-fits
superclass_by_kind-requires-clause-fits c = λ class is.
    definition_fits c.args.sources.now.ids.now c.args.name.now class c.requires.ready.tables (sym (c.stated-stated.ensures c.args.name.now c.definition-definition.ensures) ∙ is)

pub stated_interfaces-requires-clause-fits : goal.stated_interfaces-requires-clause-fits
stated_interfaces-requires-clause-fits c = λ class is.
    definition_fits c.args.sources.now.ids.now c.args.name.now class c.requires.ready.tables (sym (c.stated-stated.ensures c.args.name.now c.definition-definition.ensures) ∙ is)

pub returns : goal.returns
unfolding is_defined superclass_named interfaces_named
returns c =
    let ids = c.args.sources.now.ids.now in
    let names = c.args.sources.now.names.now in
    let name = c.args.name.now in
    let stated = c.stated-stated.ensures name c.definition-definition.ensures in
    let kind = c.kind_of_class-kind.ensures ids (c.is_some.ensures ∙ some_copied c.stated-stated.result ∙ ap is_some stated) in
    record {
      kind = kind;
      definition = c.definition-definition.ensures;
      superclass = subst (λ k. IsNumberOf names (superclass_by_kind ids name k) c.in_ok-superclass.superclass) kind c.in_ok-superclass.ensures;
      interfaces = subst (λ s. AreNumbersOf names (stated_interfaces ids s) c.in_ok-interfaces.interfaces) stated c.in_ok-interfaces.ensures;
    }
