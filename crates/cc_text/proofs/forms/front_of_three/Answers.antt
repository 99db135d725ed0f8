use Rattle.std.proofs.Common.{◌≡◌, ◌+◌, ◌-◌, ◌*◌, ◌<◌, true, false, length, get_or, sym, arith}
use Rattle.std.proofs.lemmas.Bool.Decides.{nat_tests}
use Rattle.cc_meaning_dex.specs.Mutf8.{goes_on, begins_three}
use Rattle.cc_text.proofs.Fronts.{three_none, three_stray, three_cut, three_bad_end, three_unit}
use Rattle.cc_text.proofs.forms.front_of_three.Goals as goal

pub returns-then-is_empty : goal.returns-then-is_empty
returns-then-is_empty c = let none : length c.args.bytes.now ≡ 0 = grind (arith, nat_tests) in sym (three_none c.args.at c.args.first c.args.bytes.now none)

pub returns-then-not-begins_three : goal.returns-then-not-begins_three
returns-then-not-begins_three c =
    let some : 0 < length c.args.bytes.now = grind (arith, nat_tests) in
    let stray : begins_three c.args.first (get_or c.args.bytes.now 0 0) ≡ false = grind arith in
    sym (three_stray c.args.at c.args.first c.args.bytes.now some stray)

pub returns-then-bytes-eq1 : goal.returns-then-bytes-eq1
returns-then-bytes-eq1 c =
    let begins : begins_three c.args.first (get_or c.args.bytes.now 0 0) ≡ true = grind arith in
    sym (three_cut c.args.at c.args.first c.args.bytes.now (omega arith) begins)

pub returns-then-not-goes_on : goal.returns-then-not-goes_on
returns-then-not-goes_on c =
    let some : 0 < length c.args.bytes.now = grind (arith, nat_tests) in
    let begins : begins_three c.args.first (get_or c.args.bytes.now 0 0) ≡ true = grind arith in
    let stray : goes_on (get_or c.args.bytes.now 1 0) ≡ false = grind arith in
    sym (three_bad_end c.args.at c.args.first c.args.bytes.now (omega arith) begins stray)

pub returns : goal.returns
returns c =
    let some : 0 < length c.args.bytes.now = grind (arith, nat_tests) in
    let begins : begins_three c.args.first (get_or c.args.bytes.now 0 0) ≡ true = grind arith in
    let ends : goes_on (get_or c.args.bytes.now 1 0) ≡ true = grind arith in
    let value : c.from.result * 4096 + c.from-2.result * 64 + c.from-3.result ≡ (c.args.first - 224) * 4096 + (get_or c.args.bytes.now 0 0 - 128) * 64 + (get_or c.args.bytes.now 1 0 - 128) = omega arith in
    sym (three_unit c.args.at c.args.first (c.from.result * 4096 + c.from-2.result * 64 + c.from-3.result) c.args.bytes.now (omega arith) begins ends value)
