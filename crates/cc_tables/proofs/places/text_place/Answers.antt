use Rattle.std.proofs.Common.{[], Contains, sym, subst, ◌∙◌}
use Rattle.std.proofs.lemmas.List.Elements.{Contains-get_or}
use Rattle.cc_tables.specs.Places.{itself}
use Rattle.cc_tables.proofs.Placing.{placed_nowhere, text_found}
use Rattle.cc_tables.proofs.places.text_place.Goals as goal

pub returns-in-Some : goal.returns-in-Some
returns-in-Some c = sym (text_found c.args.ids.now.texts c.requires.rise c.args.units.now c.in-Some.place c.in-Some.ensures)

pub returns-in-None : goal.returns-in-None
returns-in-None c =
    let texts = c.args.ids.now.texts in
    c.len.ensures.value ∙ sym (placed_nowhere itself texts c.args.units.now [] (λ k within same. c.in-None.ensures (subst (Contains texts) same (Contains-get_or texts k [] within))))
