use Rattle.std.proofs.Common.{◌≡◌, ◌<◌, ◌∙◌, length, get_or, sym, ap, refl, inl, inr, arith}
use Rattle.std.proofs.lemmas.Bool.Decides.{nat_tests}
use Rattle.std.proofs.lemmas.List.{take_rest}
use Rattle.cc_meaning_dex.specs.Mutf8.{front_of_two, front_of_three}
use Rattle.cc_text.proofs.Fronts.{front_none, front_zero, front_one, front_stray, front_two, front_three, front_high}
use Rattle.cc_text.proofs.forms.front.Goals as goal

pub returns-then-is_empty : goal.returns-then-is_empty
returns-then-is_empty c = let none : length c.args.bytes.now ≡ 0 = grind (arith, nat_tests) in sym (front_none c.args.at c.args.bytes.now none)

pub returns-then-first-eq0 : goal.returns-then-first-eq0
returns-then-first-eq0 c =
    let some : 0 < length c.args.bytes.now = grind (arith, nat_tests) in
    sym (front_zero c.args.at (get_or c.args.bytes.now 0 0) c.args.bytes.now some refl (omega arith))

pub returns-then-first-lt128 : goal.returns-then-first-lt128
returns-then-first-lt128 c =
    let some : 0 < length c.args.bytes.now = grind (arith, nat_tests) in
    sym (front_one c.args.at c.from.result c.args.bytes.now some (sym c.from.ensures) (omega arith) (omega arith))

pub returns-then-first-ge240 : goal.returns-then-first-ge240
returns-then-first-ge240 c =
    let some : 0 < length c.args.bytes.now = grind (arith, nat_tests) in
    let first = get_or c.args.bytes.now 0 0 in
    elim c.if-first-ge240.either [
      | inl stray ↦ sym (front_stray c.args.at first c.args.bytes.now some refl (omega arith) stray)
      | inr high ↦ sym (front_high c.args.at first c.args.bytes.now some refl high.1)
    ]

pub returns-then-first-lt224 : goal.returns-then-first-lt224
returns-then-first-lt224 c =
    let some : 0 < length c.args.bytes.now = grind (arith, nat_tests) in
    let first = get_or c.args.bytes.now 0 0 in
    c.front_of_two.ensures ∙ ap (front_of_two c.args.at first) (take_rest c.args.bytes.now 1)
    ∙ sym (front_two c.args.at first c.args.bytes.now some refl c.if-first-ge240.false.0 (omega arith))

pub returns-else-first-lt224 : goal.returns-else-first-lt224
returns-else-first-lt224 c =
    let some : 0 < length c.args.bytes.now = grind (arith, nat_tests) in
    let first = get_or c.args.bytes.now 0 0 in
    c.front_of_three.ensures ∙ ap (front_of_three c.args.at first) (take_rest c.args.bytes.now 1)
    ∙ sym (front_three c.args.at first c.args.bytes.now some refl (omega arith) c.if-first-ge240.false.1)
