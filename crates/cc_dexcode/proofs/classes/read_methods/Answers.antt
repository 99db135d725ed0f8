use Rattle.std.proofs.Common.{false, get_or}
use Rattle.std.proofs.lemmas.Result.{err_from_is_err_and}
use Rattle.cc_meaning_dex.specs.Tries.{method_of}
use Rattle.cc_meaning_dex.specs.Classes.{methods_with_code}
use Rattle.cc_dexcode.proofs.Parts.{without_front, head_within, methods_more, methods_fail, methods_done}
use Rattle.cc_dexcode.proofs.classes.read_methods.Goals as goal

pub loop-stated-init : goal.loop-stated-init
loop-stated-init c = rw c.new-read.ensures (without_front (methods_with_code c.args.file.now c.args.ids.now c.args.methods.now))

pub read_method-requires : goal.read_method-requires
read_method-requires c =
    head_within c.args.file.now c.args.ids.now c.args.methods.now c.loop-stated.stated-index (record { row = 0; flags = 0; is_direct = false; code_at = 0 }) c.requires c.loop-stated-test.true

pub returns-in_err-method : goal.returns-in_err-method
returns-in_err-method c =
    let file = c.args.file.now in
    let ids = c.args.ids.now in
    let stated = get_or c.args.methods.now c.loop-stated.stated-index (record { row = 0; flags = 0; is_direct = false; code_at = 0 }) in
    let here = c.in_err-method.ensures (method_of file ids stated) c.read_method.ensures in
    let p = err_from_is_err_and c.from_residual.result c.from_residual.ensures.1 in
    rw (p.1, p.2) (methods_fail file ids c.loop-stated.read c.args.methods.now c.loop-stated.stated-index (record { row = 0; flags = 0; is_direct = false; code_at = 0 }) c.in_err-method.field-0.0
    (methods_with_code file ids c.args.methods.now) c.loop-stated-test.true here c.loop-stated.invariant)

pub loop-stated-preserved : goal.loop-stated-preserved
loop-stated-preserved c =
    let file = c.args.file.now in
    let ids = c.args.ids.now in
    let stated = get_or c.args.methods.now c.loop-stated.stated-index (record { row = 0; flags = 0; is_direct = false; code_at = 0 }) in
    let here = c.in_ok-method.ensures (method_of file ids stated) c.read_method.ensures in
    rw c.in_ok-push.ensures.ok (methods_more file ids c.loop-stated.read c.args.methods.now c.loop-stated.stated-index (record { row = 0; flags = 0; is_direct = false; code_at = 0 }) c.in_ok-method.method
    (methods_with_code file ids c.args.methods.now) c.loop-stated-test.true here c.loop-stated.invariant)

pub returns : goal.returns
returns c =
    methods_done c.args.file.now c.args.ids.now c.loop-stated.read c.args.methods.now c.loop-stated.stated-index (methods_with_code c.args.file.now c.args.ids.now c.args.methods.now) c.loop-stated-test.false c.loop-stated.invariant
