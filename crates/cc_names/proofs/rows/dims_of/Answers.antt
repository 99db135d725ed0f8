use Rattle.std.proofs.Common.{arith}
use Rattle.cc_names.proofs.Dims.{dims_more, dims_end, dims_all}
use Rattle.cc_names.proofs.rows.dims_of.Goals as goal

pub returns-then-unit-ne-ARRAY-clause-exact : goal.returns-then-unit-ne-ARRAY-clause-exact
returns-then-unit-ne-ARRAY-clause-exact c =
    let end = dims_end c.args.name.now c.loop-place.place c.loop-place-test.true c.if-unit-ne-ARRAY.true in
    omega (arith, end, c.loop-place.invariant)

pub loop-place-preserved : goal.loop-place-preserved
loop-place-preserved c =
    let more = dims_more c.args.name.now c.loop-place.place c.loop-place-test.true c.if-unit-ne-ARRAY.false in
    omega (arith, more, c.loop-place.invariant)

pub returns-clause-exact : goal.returns-clause-exact
returns-clause-exact c =
    let all = dims_all c.args.name.now c.loop-place.place c.loop-place-test.false in
    omega (arith, all, c.loop-place.invariant, c.loop-place-test.false, c.loop-place.auto.place-end)
