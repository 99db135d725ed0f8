use Rattle.std.proofs.Common.{◌∙◌, arith}
use Rattle.std.proofs.lemmas.Result.{err_from_is_err_and}
use Rattle.cc_dexids.proofs.Walks.{each_none, each_more, first_none, first_more, first_here, same_count}
use Rattle.cc_dexids.proofs.walk.read_table.Goals as goal

pub loop-row-init : goal.loop-row-init
loop-row-init g c = rw c.new-rows.ensures (first_none (g.R.RowReader.fault c.args.reader.now), each_none (g.R.RowReader.spelled c.args.reader.now))

pub returns-in_err-read : goal.returns-in_err-read
returns-in_err-read g c =
    let p = err_from_is_err_and c.from_residual.result c.from_residual.ensures.1 in
    rw (p.1, p.2) (λ other. first_here (g.R.RowReader.fault c.args.reader.now) c.loop-row.row c.args.count c.in_err-read.field-0.0 c.loop-row.invariant.0 c.loop-row-test.true (c.in_err-read.ensures other))

pub loop-row-preserved : goal.loop-row-preserved
loop-row-preserved g c =
    let read = c.in_ok-read.ensures in
    let so_far = c.loop-row.invariant in
    rw c.in_ok-push.ensures.ok (
      first_more (g.R.RowReader.fault c.args.reader.now) c.loop-row.row so_far.0 ∙ read.0,
      each_more c.loop-row.rows c.loop-row.row c.in_ok-read.read (g.R.RowReader.spelled c.args.reader.now) so_far.1 read.1,
    )

pub returns : goal.returns
returns g c =
    same_count (g.R.RowReader.fault c.args.reader.now) (g.R.RowReader.spelled c.args.reader.now) c.loop-row.rows c.loop-row.row c.args.count (omega (arith, c.loop-row-test.false, c.loop-row.auto.row-end)) c.loop-row.invariant
