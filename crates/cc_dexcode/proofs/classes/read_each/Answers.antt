use Rattle.std.proofs.Common.{◌∙◌, sym, ap}
use Rattle.std.proofs.lemmas.Result.{err_from_is_err_and}
use Rattle.cc_meaning_dex.specs.Classes.{class_of, classes_from}
use Rattle.cc_dexcode.proofs.Parts.{without_front, classes_more, classes_fail, classes_done}
use Rattle.cc_dexcode.proofs.classes.read_each.Goals as goal

pub loop-number-init : goal.loop-number-init
loop-number-init c = rw c.new-classes.ensures (without_front (classes_from c.args.file.now c.args.ids.now 0 c.args.definitions.now))

pub returns-in_err-class : goal.returns-in_err-class
returns-in_err-class c =
    let file = c.args.file.now in
    let ids = c.args.ids.now in
    let stated = c.index-definitions-number.result in
    let p = err_from_is_err_and c.from_residual.result c.from_residual.ensures.1 in
    let here = rw c.index-definitions-number.is at c.in_err-class.ensures in
    rw (p.1, p.2) (classes_fail file ids c.loop-number.classes c.args.definitions.now c.loop-number.number stated c.in_err-class.field-0.0
    (classes_from file ids 0 c.args.definitions.now) c.loop-number-test.true here c.loop-number.invariant)

pub loop-number-preserved : goal.loop-number-preserved
loop-number-preserved c =
    let file = c.args.file.now in
    let ids = c.args.ids.now in
    let stated = c.index-definitions-number.result in
    let here = ap (class_of file ids c.loop-number.number) (sym c.index-definitions-number.is) ∙ c.in_ok-class.ensures in
    rw c.in_ok-push.ensures.ok (classes_more file ids c.loop-number.classes c.args.definitions.now c.loop-number.number stated c.in_ok-class.class
    (classes_from file ids 0 c.args.definitions.now) c.loop-number-test.true here c.loop-number.invariant)

pub returns : goal.returns
returns c = classes_done c.args.file.now c.args.ids.now c.loop-number.classes c.args.definitions.now c.loop-number.number (classes_from c.args.file.now c.args.ids.now 0 c.args.definitions.now) c.loop-number-test.false c.loop-number.invariant
