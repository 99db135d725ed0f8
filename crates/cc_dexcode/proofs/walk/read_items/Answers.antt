use Rattle.std.proofs.lemmas.Result.{err_from_is_err_and}
use Rattle.cc_meaning_dex.specs.Sequences.{items_from}
use Rattle.cc_dexcode.proofs.Loop.{begins, goes_on, fails, is_done}
use Rattle.cc_dexcode.proofs.walk.read_items.Goals as goal

pub loop-init : goal.loop-init
loop-init g c = rw c.new-items.ensures (begins (g.R.ItemReader.item_at c.args.reader.now) c.args.count c.args.from)

pub returns-in_err-item : goal.returns-in_err-item
returns-in_err-item g c =
    let item_at = g.R.ItemReader.item_at c.args.reader.now in
    let p = err_from_is_err_and c.from_residual.result c.from_residual.ensures.1 in
    rw (p.1, p.2) (fails item_at c.in_err-item.field-0.0 c.loop.items c.args.count c.loop.counter c.loop.place (items_from item_at c.args.count c.args.from) c.loop-test.true c.in_err-item.ensures c.loop.invariant)

pub loop-preserved : goal.loop-preserved
loop-preserved g c =
    let item_at = g.R.ItemReader.item_at c.args.reader.now in
    rw c.in_ok-push.ensures.ok
    (goes_on item_at c.loop.items c.args.count c.loop.counter c.loop.place c.in_ok-item.item c.in_ok-item.next (items_from item_at c.args.count c.args.from) c.loop-test.true c.in_ok-item.ensures c.loop.invariant)

pub returns : goal.returns
returns g c =
    let item_at = g.R.ItemReader.item_at c.args.reader.now in
    is_done item_at c.loop.items c.args.count c.loop.counter c.loop.place (items_from item_at c.args.count c.args.from) c.loop-test.false c.loop.invariant
