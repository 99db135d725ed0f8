use Rattle.std.proofs.Common.{◌≡◌, [], map, sym, ap, ◌∙◌}
use Rattle.cc_meaning.specs.declared.program.ClassKind.TheVariants.{BuiltIn, Array}
use Rattle.cc_built_in.specs.BuiltInMethods.{built_in_member, methods_of_class}
use Rattle.cc_built_in.specs.Listed.{members_listed}
use Rattle.cc_owners.proofs.Inheriting.{place_listed, of_class, of_array, nothing_listed}
use Rattle.cc_owners.proofs.Lists.{some_is}
use Rattle.cc_owners.proofs.beyond.listed_in.Goals as goal

pub returns-in-BuiltIn : goal.returns-in-BuiltIn
returns-in-BuiltIn c = λ name named.
    let linked = c.args.linked.now in
    let same : c.at-in-BuiltIn.result.now ≡ name = some_is c.at-in-BuiltIn.result.now name (sym c.at-in-BuiltIn.ensures.get ∙ named) in
    place_listed linked.ids.now name c.args.member.now BuiltIn (members_listed c.methods_of_class.result.now) c.place_among.result
    (sym c.in-BuiltIn.is ∙ (c.requires.known.outlines.each c.args.class name c.at.result.now named c.at.ensures.get).kind)
    (c.methods_of_class.ensures.members ∙ (ap (λ n. map built_in_member (methods_of_class n)) (c.as_slice-name.ensures ∙ same) ∙ ap (map built_in_member) (of_class name))) c.place_among.ensures

pub place_among-requires-in-Array : goal.place_among-requires-in-Array
place_among-requires-in-Array c = (c.array_methods.ensures []).few

pub returns-in-Array : goal.returns-in-Array
returns-in-Array c = λ name named.
    let linked = c.args.linked.now in
    place_listed linked.ids.now name c.args.member.now Array (members_listed c.array_methods.result.now) c.place_among-in-Array.result
    (sym c.in-Array.is ∙ (c.requires.known.outlines.each c.args.class name c.at.result.now named c.at.ensures.get).kind)
    ((c.array_methods.ensures name).members ∙ ap (map built_in_member) (of_array name)) c.place_among-in-Array.ensures

pub returns-in_default : goal.returns-in_default
returns-in_default c = λ name named.
    nothing_listed c.args.linked.now.ids.now name c.args.member.now c.at.result.now.kind (c.requires.known.outlines.each c.args.class name c.at.result.now named c.at.ensures.get).kind c.in_default.not-BuiltIn c.in_default.not-Array
