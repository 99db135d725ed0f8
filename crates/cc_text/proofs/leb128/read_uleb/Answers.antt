use Rattle.std.proofs.Common.{◌+◌, take, sym, ap, ◌∙◌, Ok, arith}
use Rattle.std.proofs.lemmas.Result.{err_from_is_err_and}
use Rattle.cc_meaning_dex.specs.Leb128.{leb_size, leb_value}
use Rattle.cc_text.proofs.Leb.{uleb_at-Err, uleb_at-Ok, uleb_at-large, uleb_at-past}
use Rattle.cc_text.proofs.leb128.read_uleb.Goals as goal

pub returns-then-at-bytes : goal.returns-then-at-bytes
returns-then-at-bytes c = sym (uleb_at-past c.args.bytes.now c.args.at (omega arith))

pub returns-in_err-size : goal.returns-in_err-size
returns-in_err-size c =
    let p = err_from_is_err_and c.from_residual.result c.from_residual.ensures.1 in
    let found = ap (leb_size 5) (sym c.split_at.ensures.back) ∙ sym c.in_err-size.ensures.value in
    rw (p.1, p.2) (sym (uleb_at-Err c.args.bytes.now c.args.at c.in_err-size.field-0.0 found))

pub returns-then-value : goal.returns-then-value
returns-then-value c =
    let found = ap (leb_size 5) (sym c.split_at.ensures.back) ∙ sym c.in_ok-size.ensures.value in
    let value = c.number_value-value.ensures ∙ ap leb_value (c.split_at-2.ensures.front ∙ ap (take c.in_ok-size.size) c.split_at.ensures.back) in
    sym (uleb_at-Ok c.args.bytes.now c.args.at c.in_ok-size.size found (omega (arith, value))
    ∙ ap (λ v. Ok (v, c.args.at + c.in_ok-size.size)) (sym value))

pub returns-else-value : goal.returns-else-value
returns-else-value c =
    let found = ap (leb_size 5) (sym c.split_at.ensures.back) ∙ sym c.in_ok-size.ensures.value in
    let value = c.number_value-value.ensures ∙ ap leb_value (c.split_at-2.ensures.front ∙ ap (take c.in_ok-size.size) c.split_at.ensures.back) in
    sym (uleb_at-large c.args.bytes.now c.args.at c.in_ok-size.size found (omega (arith, value)))
