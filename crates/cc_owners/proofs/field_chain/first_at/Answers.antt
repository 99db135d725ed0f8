use Rattle.std.proofs.Common.{[], get_or, subst, sym, ◌∙◌}
use Rattle.std.specs.Prelude.{Contains}
use Rattle.std.proofs.lemmas.Option.{slice_get-get_or}
use Rattle.cc_meaning_program.specs.Ancestry.{interfaces_named}
use Rattle.cc_meaning_program.specs.Searches.{First}
use Rattle.cc_meaning_program.specs.Outlines.{AreNumbersOf}
use Rattle.cc_owners.proofs.FieldChains.{at_class, at_interfaces}
use Rattle.cc_owners.proofs.Inheriting.{numbers_within}
use Rattle.cc_owners.proofs.Placing.{has, has_not}
use Rattle.cc_owners.proofs.field_chain.first_at.Goals as goal

pub returns-in-Some-clause-found : goal.returns-in-Some-clause-found
returns-in-Some-clause-found c = λ name named.
    let linked = c.args.linked.now in
    let placed = sym c.in-Some.is ∙ c.place_in.ensures name named in
    at_class c.interfaces_have_lists.ensures linked c.requires.known c.args.row c.args.marks.now c.args.search name (record { class = c.args.class; place = c.in-Some.place }) named
    (record { owner = name; there = named; first = First.here (has linked c.args.row c.in-Some.place name placed); placed = sym placed })

pub first_above-requires-clause-classes : goal.first_above-requires-clause-classes
first_above-requires-clause-classes c = λ class held.
    let linked = c.args.linked.now in
    let name = get_or linked.names.now c.args.class [] in
    let outline = c.requires.known.outlines.each c.args.class name c.at.result.now (slice_get-get_or linked.names.now c.args.class [] c.requires.class) c.at.ensures.get in
    numbers_within linked.names.now (interfaces_named linked.ids.now name) c.at.result.now.interfaces outline.interfaces class (subst (λ l. Contains l class) c.as_slice-above.ensures held)

pub returns-clause-found : goal.returns-clause-found
returns-clause-found c = λ name named.
    let linked = c.args.linked.now in
    let outline = c.requires.known.outlines.each c.args.class name c.at.result.now named c.at.ensures.get in
    at_interfaces linked c.args.row c.first_above.new.marks c.args.search name c.in_ok-found.found (has_not linked c.args.row name (sym c.in_default.is ∙ c.place_in.ensures name named))
    (c.in_ok-found.ensures.found (interfaces_named linked.ids.now name) (subst (AreNumbersOf linked.names.now (interfaces_named linked.ids.now name)) (sym c.as_slice-above.ensures) outline.interfaces))
