use Rattle.std.proofs.Common.{length, take, refl, subst, arith, ◌∙◌}
use Rattle.std.proofs.lemmas.List.{take_all, length-take-le}
use Rattle.std.proofs.lemmas.Option.{slice_get_read}
use Rattle.cc_meaning_dex.specs.Classes.{EachPair}
use Rattle.cc_meaning_builder.specs.Written.{IsClassWritten, IsSameClass}
use Rattle.cc_dex_writer.proofs.Adding.{as_long, first_none, first_added, pair_more}
use Rattle.cc_dex_writer.proofs.Passing.{ClassPassesAt, class_told, none_told, one_told}
use Rattle.cc_dex_writer.proofs.classes.add_classes.Goals as goal

pub loop-number-init : goal.loop-number-init
loop-number-init c = record {
  same = rw c.new-rows.ensures tt;
  written = rw c.new-rows.ensures (first_none (λ file. IsClassWritten file c.args.ids.now) c.args.section.now c.args.classes.now);
  passed = none_told (ClassPassesAt c.args.classes.now c.args.outs.now) c.args.section.now c.new-rows.result c.new-rows.ensures;
}

pub loop-number-preserved : goal.loop-number-preserved
loop-number-preserved c =
    let items = c.args.definitions.now in
    let stated = c.index-definitions-number.result in
    let there = slice_get_read items (length items) c.loop-number.number stated refl c.loop-number-test.true c.index-definitions-number.is in
    let rows = c.loop-number.rows in
    let row = c.in_ok-row.row in
    let now = c.loop-number.section in
    let next = c.add_numbered.new.section in
    let count = as_long IsSameClass rows (take c.loop-number.number items) c.loop-number.invariant.same ∙ length-take-le c.loop-number.number items (omega (arith, c.loop-number-test.true)) in
    let own = class_told now next c.args.classes.now c.args.outs.now c.loop-number.number row c.passed.result.now c.passed.ensures (rw c.get-class.ensures.value at c.in_ok-row.ensures.passed) in
    rw c.in_ok-push.ensures.ok (record {
      same = pair_more IsSameClass c.loop-number.rows items c.loop-number.number c.in_ok-row.row stated there c.loop-number.invariant.same c.in_ok-row.ensures.same;
      written = first_added (λ file. IsClassWritten file c.args.ids.now) IsSameClass c.args.section.now c.loop-number.section c.add_numbered.new.section c.loop-number.rows items c.args.classes.now c.loop-number.number c.in_ok-row.row
          c.loop-number-test.true c.loop-number.invariant.same c.loop-number.invariant.written (rw c.get-class.ensures.value at c.in_ok-row.ensures.written);
      passed = one_told (ClassPassesAt c.args.classes.now c.args.outs.now) c.args.section.now now next rows c.loop-number.number row count c.loop-number.invariant.passed own;
    })

pub returns : goal.returns
returns c = record {
  same = subst (λ all. EachPair IsSameClass c.loop-number.rows all) (take_all c.loop-number.number c.args.definitions.now c.loop-number-test.false) c.loop-number.invariant.same;
  written = c.loop-number.invariant.written;
  passed = c.loop-number.invariant.passed;
}
