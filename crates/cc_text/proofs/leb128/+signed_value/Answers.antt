use Rattle.std.proofs.Common.{◌≡◌, ◌%◌, ◌<◌, ◌≤◌, length, drop, get_or, arith, ap, ◌∙◌}
use Rattle.std.proofs.lemmas.Int.{ints}
use Rattle.std.proofs.lemmas.List.{length-drop, take_rest}
use Rattle.cc_meaning_dex.specs.Leb128.{signed_leb_value}
use Rattle.cc_text.proofs.Signed.{signed_near, signed_more, signed_low, signed_high}
use Rattle.cc_text.proofs.leb128.+signed_value.Goals as goal

pub overflow_mul-result : goal.overflow_mul-result
overflow_mul-result t c =
    let same : c.signed_value.result ≡ signed_leb_value (drop 1 c.args.bytes.now) = c.signed_value.ensures ∙ ap signed_leb_value (take_rest c.args.bytes.now 1) in
    let short : length (drop 1 c.args.bytes.now) ≤ 4 = omega (arith, length-drop 1 c.args.bytes.now) in
    let near = signed_near 4 (drop 1 c.args.bytes.now) short in
    omega (arith, ints, same, near.above, near.below)

pub returns-then-bytes-gt1 : goal.returns-then-bytes-gt1
returns-then-bytes-gt1 t c =
    let same : c.signed_value.result ≡ signed_leb_value (drop 1 c.args.bytes.now) = c.signed_value.ensures ∙ ap signed_leb_value (take_rest c.args.bytes.now 1) in
    let short : length (drop 1 c.args.bytes.now) ≤ 4 = omega (arith, length-drop 1 c.args.bytes.now) in
    let near = signed_near 4 (drop 1 c.args.bytes.now) short in
    let more = signed_more c.args.bytes.now (omega arith) in
    omega (arith, ints, same, near.above, near.below, more)

pub returns-then-group-lt64 : goal.returns-then-group-lt64
returns-then-group-lt64 t c =
    let one : length c.args.bytes.now ≡ 1 = omega arith in
    let low : get_or c.args.bytes.now 0 0 % 128 < 64 = omega (arith, ints) in
    let value = signed_low c.args.bytes.now one low in
    omega (arith, ints, value)

pub returns-else-group-lt64 : goal.returns-else-group-lt64
returns-else-group-lt64 t c =
    let one : length c.args.bytes.now ≡ 1 = omega arith in
    let high : 64 ≤ get_or c.args.bytes.now 0 0 % 128 = omega (arith, ints) in
    let value = signed_high c.args.bytes.now one high in
    omega (arith, ints, value)
