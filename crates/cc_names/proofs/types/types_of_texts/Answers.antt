use Rattle.std.proofs.Common.{◌≡◌, sym, subst, ◌∙◌}
use Rattle.cc_meaning_program.specs.Named.{text_of}
use Rattle.cc_meaning_program.specs.TypeNames.{IsTypeOf}
use Rattle.cc_names.proofs.TextRows.{text_there}
use Rattle.cc_names.proofs.Typing.{one_more}
use Rattle.cc_names.proofs.types.types_of_texts.Goals as goal

pub loop-text-preserved : goal.loop-text-preserved
loop-text-preserved c =
    let ids = c.args.ids.now in
    let place = c.loop-text.text-index in
    let item = c.text-item.result in
    let is = rw c.as_slice-text-items.ensures at c.text-item.is in
    let within = rw c.as_slice-text-items.ensures at c.loop-text-test.true in
    let named : c.as_slice.result.now ≡ text_of ids place = c.as_slice.ensures ∙ is ∙ sym (text_there ids place item within) in
    rw c.in_ok-push.ensures.ok (one_more c.args.names.now (text_of ids) c.loop-text.types place c.type_of.result c.loop-text.invariant
    (subst (λ name. IsTypeOf c.args.names.now name c.type_of.result) named c.type_of.ensures))
