use Rattle.std.proofs.Common.{◌≡◌, ◌+◌, ◌-◌, ◌*◌, ◌<◌, true, false, length, get_or, sym, inl, inr, arith}
use Rattle.std.proofs.lemmas.Bool.Decides.{nat_tests}
use Rattle.cc_meaning_dex.specs.Mutf8.{goes_on}
use Rattle.cc_text.proofs.Fronts.{two_none, two_cut, two_stray, two_unit, two_low}
use Rattle.cc_text.proofs.forms.front_of_two.Goals as goal

pub returns-then-first-eq193 : goal.returns-then-first-eq193
returns-then-first-eq193 c = let none : length c.args.bytes.now ≡ 0 = grind (arith, nat_tests) in sym (two_none c.args.at c.args.first c.args.bytes.now none (omega arith))

pub returns-else-first-eq193 : goal.returns-else-first-eq193
returns-else-first-eq193 c = let none : length c.args.bytes.now ≡ 0 = grind (arith, nat_tests) in sym (two_cut c.args.at c.args.first c.args.bytes.now none (omega arith))

pub returns-then-not-goes_on : goal.returns-then-not-goes_on
returns-then-not-goes_on c =
    let some : 0 < length c.args.bytes.now = grind (arith, nat_tests) in
    let stray : goes_on (get_or c.args.bytes.now 0 0) ≡ false = grind arith in
    sym (two_stray c.args.at c.args.first c.args.bytes.now some stray)

pub returns-then-unit-ge128 : goal.returns-then-unit-ge128
returns-then-unit-ge128 c =
    let some : 0 < length c.args.bytes.now = grind (arith, nat_tests) in
    let ends : goes_on (get_or c.args.bytes.now 0 0) ≡ true = grind arith in
    let value : c.from.result * 64 + c.from-2.result ≡ (c.args.first - 192) * 64 + (get_or c.args.bytes.now 0 0 - 128) = omega arith in
    sym (two_unit c.args.at c.args.first (c.from.result * 64 + c.from-2.result) c.args.bytes.now some ends value (elim c.if-unit-ge128.either [ inl none ↦ inl none | inr more ↦ inr more.1 ]))

pub returns-else-unit-ge128 : goal.returns-else-unit-ge128
returns-else-unit-ge128 c =
    let some : 0 < length c.args.bytes.now = grind (arith, nat_tests) in
    let ends : goes_on (get_or c.args.bytes.now 0 0) ≡ true = grind arith in
    let value : c.from.result * 64 + c.from-2.result ≡ (c.args.first - 192) * 64 + (get_or c.args.bytes.now 0 0 - 128) = omega arith in
    sym (two_low c.args.at c.args.first (c.from.result * 64 + c.from-2.result) c.args.bytes.now some ends value c.if-unit-ge128.false.0 c.if-unit-ge128.false.1)
