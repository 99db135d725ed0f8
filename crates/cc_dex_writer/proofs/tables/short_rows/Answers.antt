use Rattle.std.proofs.Common.{length, refl, subst}
use Rattle.std.proofs.lemmas.List.{take_all}
use Rattle.std.proofs.lemmas.Option.{slice_get_read}
use Rattle.cc_meaning_dex.specs.Classes.{EachPair}
use Rattle.cc_dex_writer.specs.Items.{IsShortOf}
use Rattle.cc_dex_writer.proofs.Adding.{pair_more}
use Rattle.cc_dex_writer.proofs.tables.short_rows.Goals as goal

pub loop-proto-init : goal.loop-proto-init
loop-proto-init c = rw c.new-rows.ensures tt

pub loop-proto-preserved : goal.loop-proto-preserved
loop-proto-preserved c =
    let items = c.args.protos.now in
    let there = slice_get_read items (length items) c.loop-proto.proto-index c.proto-item.result refl c.loop-proto-test.true c.proto-item.is in
    rw c.in_ok-push.ensures.ok (pair_more (IsShortOf c.args.ids.now) c.loop-proto.rows items c.loop-proto.proto-index c.in_ok-row.row c.proto-item.result there c.loop-proto.invariant c.in_ok-row.ensures)

pub returns : goal.returns
returns c = subst (λ all. EachPair (IsShortOf c.args.ids.now) c.loop-proto.rows all) (take_all c.loop-proto.proto-index c.args.protos.now c.loop-proto-test.false) c.loop-proto.invariant
