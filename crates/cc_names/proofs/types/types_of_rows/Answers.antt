use Rattle.std.proofs.Common.{get_or}
use Rattle.std.proofs.lemmas.Option.{slice_get-get_or}
use Rattle.cc_meaning_program.specs.Named.{type_name}
use Rattle.cc_names.proofs.Typing.{one_more, type_of_row}
use Rattle.cc_names.proofs.types.types_of_rows.Goals as goal

pub loop-text-preserved : goal.loop-text-preserved
loop-text-preserved c =
    let ids = c.args.ids.now in
    let place = c.loop-text.text-index in
    let within = rw c.as_slice-text-items.ensures at c.loop-text-test.true in
    let there = slice_get-get_or ids.types place 0 within in
    let found = type_of_row c.spells_by_parts.ensures c.args.names.now ids c.in_ok-by_text.by_text place (get_or ids.types place 0) c.in_ok-by_text.ensures there in
    rw c.in_ok-push.ensures.ok (one_more c.args.names.now (type_name ids) c.loop-text.types place c.type_at.result c.loop-text.invariant
    (rw (c.type_at.ensures, c.as_slice.ensures, c.as_slice-text-items.ensures) found))
