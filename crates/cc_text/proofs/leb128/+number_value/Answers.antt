use Rattle.std.proofs.Common.{◌≡◌, ◌<◌, ◌≤◌, ◌^◌, length, drop, arith, sym, ap, ◌∙◌}
use Rattle.std.proofs.lemmas.Bool.Decides.{nat_tests}
use Rattle.std.proofs.lemmas.List.{length-drop, take_rest}
use Rattle.cc_meaning_dex.specs.Leb128.{leb_value}
use Rattle.cc_text.proofs.Leb.{leb_value-below, leb_value-first, leb_value-none}
use Rattle.cc_text.proofs.leb128.+number_value.Goals as goal

pub returns-then-is_empty : goal.returns-then-is_empty
returns-then-is_empty t c =
    let none : length c.args.bytes.now ≡ 0 = grind (arith, nat_tests) in
    sym (leb_value-none c.args.bytes.now none)

pub overflow_mul-result : goal.overflow_mul-result
overflow_mul-result t c =
    let rest = take_rest c.args.bytes.now 1 in
    let same : c.number_value.result ≡ leb_value (drop 1 c.args.bytes.now) = c.number_value.ensures ∙ ap leb_value rest in
    let short : length (drop 1 c.args.bytes.now) ≤ 4 = omega (arith, length-drop 1 c.args.bytes.now) in
    let small : leb_value (drop 1 c.args.bytes.now) < 128 ^ 4 = leb_value-below 4 (drop 1 c.args.bytes.now) short in
    omega arith

pub overflow_add-result : goal.overflow_add-result
overflow_add-result t c =
    let rest = take_rest c.args.bytes.now 1 in
    let same : c.number_value.result ≡ leb_value (drop 1 c.args.bytes.now) = c.number_value.ensures ∙ ap leb_value rest in
    let short : length (drop 1 c.args.bytes.now) ≤ 4 = omega (arith, length-drop 1 c.args.bytes.now) in
    let small : leb_value (drop 1 c.args.bytes.now) < 128 ^ 4 = leb_value-below 4 (drop 1 c.args.bytes.now) short in
    omega arith

pub returns : goal.returns
returns t c =
    let some : 0 < length c.args.bytes.now = grind (arith, nat_tests) in
    let rest = take_rest c.args.bytes.now 1 in
    let same : c.number_value.result ≡ leb_value (drop 1 c.args.bytes.now) = c.number_value.ensures ∙ ap leb_value rest in
    let first = leb_value-first c.args.bytes.now some in
    omega arith
