use Rattle.std.proofs.Common.{[], ◌∷◌, length, refl, subst, arith}
use Rattle.std.proofs.lemmas.List.{length-append}
use Rattle.std.proofs.lemmas.Option.{slice_get_read}
use Rattle.cc_meaning_builder.specs.Written.{CodePasses, IsMethodWritten}
use Rattle.cc_dex_writer.proofs.Adding.{none_yet, one_more, all_done, told}
use Rattle.cc_dex_writer.proofs.Passing.{MethodPassesAt, none_told, one_told}
use Rattle.cc_dex_writer.proofs.classes.add_methods.Goals as goal

pub loop-number-init : goal.loop-number-init
loop-number-init c = record {
  count = rw c.new-all.ensures refl;
  written = none_yet IsMethodWritten c.args.section.now c.new-all.result c.args.methods.now c.new-all.ensures;
  passed = none_told (MethodPassesAt c.args.outs.now) c.args.section.now c.new-all.result c.new-all.ensures;
}

pub loop-number-preserved : goal.loop-number-preserved
loop-number-preserved c =
    let items = c.args.methods.now in
    let method = c.index-methods-number.result in
    let stated = c.in_ok-stated.stated in
    let now = c.loop-number.section in
    let next = c.add_method.new.section in
    let there = slice_get_read items (length items) c.loop-number.number method refl c.loop-number-test.true c.index-methods-number.is in
    let own = told now next _ (λ file. MethodPassesAt c.args.outs.now file c.loop-number.number stated) c.in_ok-stated.ensures.passed (λ file states passed is.
    subst (λ n. CodePasses file stated.code_at n) (c.passed_by.ensures passed is) states) in
    rw c.in_ok-push.ensures.ok (record {
      count = omega (arith, length-append c.loop-number.all (stated ∷ []), c.loop-number.invariant.count);
      written = one_more IsMethodWritten c.args.section.now now next c.loop-number.all items c.loop-number.number stated method there c.loop-number.invariant.written c.in_ok-stated.ensures.written;
      passed = one_told (MethodPassesAt c.args.outs.now) c.args.section.now now next c.loop-number.all c.loop-number.number stated c.loop-number.invariant.count c.loop-number.invariant.passed own;
    })

pub returns : goal.returns
returns c = record {
  written = all_done IsMethodWritten c.args.section.now c.loop-number.section c.loop-number.all c.args.methods.now c.loop-number.number c.loop-number-test.false c.loop-number.invariant.written;
  passed = c.loop-number.invariant.passed;
}
