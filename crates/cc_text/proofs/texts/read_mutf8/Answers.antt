use Rattle.std.proofs.Common.{◌≡◌, ℕ, List, drop, Ok, Err, refl, sym, ap, ◌∙◌, arith}
use Rattle.std.proofs.lemmas.Result.{err_from_is_err_and, IfOk-at_ok}
use Rattle.cc_meaning_dex.specs.Mutf8.{text_of}
use Rattle.cc_text.proofs.Reading.{measured-Err, measured-Ok, mutf8_at-Err, mutf8_at-other, mutf8_at-same, mutf8_at-past, same_fault}
use Rattle.cc_text.proofs.texts.read_mutf8.Goals as goal

pub returns-then-at-bytes-clause-err : goal.returns-then-at-bytes-clause-err
returns-then-at-bytes-clause-err c = λ _. mutf8_at-past c.text_steps.ensures c.args.bytes.now c.args.at c.args.count (omega arith)

pub returns-in_err-length-clause-err : goal.returns-in_err-length-clause-err
returns-in_err-length-clause-err c =
    let p = err_from_is_err_and c.from_residual.result c.from_residual.ensures.1 in
    let fails = measured-Err (text_of c.args.at (drop c.args.at c.args.bytes.now)) c.in_err-length.field-0.0 c.in_err-length.ensures in
    rw (p.1, p.2) (λ _. mutf8_at-Err c.args.bytes.now c.args.at c.args.count c.in_err-length.field-0.0 fails)

pub returns-in_err-length-clause-memory : goal.returns-in_err-length-clause-memory
returns-in_err-length-clause-memory c =
    let p = err_from_is_err_and c.from_residual.result c.from_residual.ensures.1 in
    let fails = measured-Err (text_of c.args.at (drop c.args.at c.args.bytes.now)) c.in_err-length.field-0.0 c.in_err-length.ensures in
    rw (p.1, p.2) (λ memory. absurd (c.text_steps.ensures.faults c.args.at (drop c.args.at c.args.bytes.now) (fails ∙ ap Err (same_fault c.in_err-length.field-0.0 memory))))

pub returns-then-length-count-clause-err : goal.returns-then-length-count-clause-err
returns-then-length-count-clause-err c =
    let text = measured-Ok (text_of c.args.at (drop c.args.at c.args.bytes.now)) c.in_ok-length.length c.in_ok-length.next c.in_ok-length.ensures in
    λ _. mutf8_at-other c.args.bytes.now c.args.at c.args.count text.0 c.in_ok-length.next text.1 (λ same. c.if-length-count.true (sym text.2 ∙ same))

pub returns-in-Ok-clause-ok : goal.returns-in-Ok-clause-ok
returns-in-Ok-clause-ok c =
    let text = measured-Ok (text_of c.args.at (drop c.args.at c.args.bytes.now)) c.in_ok-length.length c.in_ok-length.next c.in_ok-length.ensures in
    let units : c.in-Ok.units.items ≡ text.0 = IfOk-at_ok (λ (read : List ℕ × ℕ). c.in-Ok.units.items ≡ read.0) text.1 c.in-Ok.ensures in
    mutf8_at-same c.args.bytes.now c.args.at c.args.count text.0 c.in_ok-length.next text.1 (text.2 ∙ c.if-length-count.false)
    ∙ ap (λ us. Ok (us, c.in_ok-length.next)) (sym units)

pub returns-in-Err-clause-memory : goal.returns-in-Err-clause-memory
returns-in-Err-clause-memory c =
    let text = measured-Ok (text_of c.args.at (drop c.args.at c.args.bytes.now)) c.in_ok-length.length c.in_ok-length.next c.in_ok-length.ensures in
    λ _. rw (mutf8_at-same c.args.bytes.now c.args.at c.args.count text.0 c.in_ok-length.next text.1 (text.2 ∙ c.if-length-count.false)) refl
