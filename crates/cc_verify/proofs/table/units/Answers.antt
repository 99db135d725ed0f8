use Rattle.std.proofs.Common.{◌∙◌, refl, ap, arith}
use Rattle.cc_meaning_typing.specs.Tries.{units_in, units_of}
use Rattle.cc_verify.proofs.Tables.{take_all, get_item}
use Rattle.cc_verify.proofs.table.units.Goals as goal

pub loop-placed-init : goal.loop-placed-init
unfolding units_in
loop-placed-init c = (refl, omega arith)

pub overflow_add-units : goal.overflow_add-units
overflow_add-units c =
    let laid = c.requires in
    let e = get_item c.as_slice-insns.result.now c.loop-placed.placed-index c.placed-item.result c.loop-placed-test.true c.placed-item.is in
    let g = rw c.as_slice-insns.ensures at e in
    let s = c.law_laid_out.ensures c.args.code.now laid in
    let h = s.starts c.loop-placed.placed-index c.placed-item.result g in
    let f = laid.fits c.loop-placed.placed-index c.placed-item.result g in
    let i = rw c.as_slice-insns.ensures at c.loop-placed.invariant.0 in
    omega arith

pub loop-placed-preserved : goal.loop-placed-preserved
loop-placed-preserved c =
    let laid = c.requires in
    let e = get_item c.as_slice-insns.result.now c.loop-placed.placed-index c.placed-item.result c.loop-placed-test.true c.placed-item.is in
    let g = rw c.as_slice-insns.ensures at e in
    let s = c.law_laid_out.ensures c.args.code.now laid in
    let h = s.starts c.loop-placed.placed-index c.placed-item.result g in
    let m = s.more c.loop-placed.placed-index c.placed-item.result g in
    let f = laid.fits c.loop-placed.placed-index c.placed-item.result g in
    let i = rw c.as_slice-insns.ensures at c.loop-placed.invariant.0 in
    rw c.as_slice-insns.ensures (omega arith, omega arith)

pub returns-clause-units : goal.returns-clause-units
unfolding units_of
returns-clause-units c = c.loop-placed.invariant.0 ∙ ap units_in (take_all c.as_slice-insns.result.now c.loop-placed.placed-index c.loop-placed-test.false ∙ c.as_slice-insns.ensures)
