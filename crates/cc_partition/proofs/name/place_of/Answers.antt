use Rattle.std.proofs.Common.{◌≡◌, ◌≢◌, length, sym, ap, ◌∙◌, arith, true≢false}
use Rattle.std.proofs.lemmas.Option.{slice_get_within}
use Rattle.std.proofs.lemmas.Bool.Decides.{Decides-eqb}
use Rattle.std.proofs.lemmas.Slice.Eq.{slice_eq-Decides}
use Rattle.cc_partition.proofs.Naming.{stands_at, one_place_more}
use Rattle.cc_partition.proofs.name.place_of.Goals as goal

pub returns-then-eq : goal.returns-then-eq
returns-then-eq c =
    let functions = c.args.functions.now in
    let name = c.args.name.now in
    let function = c.function-item.result in
    let stands = stands_at c.as_slice-function-items.result.now functions c.loop-i.i function c.as_slice-function-items.ensures c.loop-i-test.true c.function-item.is in
    let same : function.name ≡ name = sym c.as_slice.ensures ∙ (slice_eq-Decides Decides-eqb c.as_slice.result.now name c.eq.result c.eq.ensures).0 c.if-eq.true in
    (function, stands, same)

pub loop-i-preserved : goal.loop-i-preserved
loop-i-preserved c =
    let functions = c.args.functions.now in
    let name = c.args.name.now in
    let function = c.function-item.result in
    let stands = stands_at c.as_slice-function-items.result.now functions c.loop-i.i function c.as_slice-function-items.ensures c.loop-i-test.true c.function-item.is in
    let decides = slice_eq-Decides Decides-eqb c.as_slice.result.now name c.eq.result c.eq.ensures in
    let other : function.name ≢ name = λ e. true≢false (sym (decides.1 (c.as_slice.ensures ∙ e)) ∙ c.if-eq.false) in
    one_place_more functions name c.loop-i.i function c.loop-i.invariant stands other

pub returns : goal.returns
returns c i function stands same =
    let within = slice_get_within c.args.functions.now i function stands in
    let whole : length c.as_slice-function-items.result.now ≡ length c.args.functions.now = ap length c.as_slice-function-items.ensures in
    c.loop-i.invariant i function (omega (arith, within, whole, c.loop-i-test.false)) stands same
