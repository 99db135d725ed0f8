use Rattle.std.proofs.lemmas.Result.{err_from_is_err_and}
use Rattle.cc_meaning_program.specs.Named.{method_text}
use Rattle.cc_meaning_program.specs.BodyFaults.{CodeFaulty}
use Rattle.cc_bodies.proofs.CodeLemmas.{insn_first, units_break, whole_units}
use Rattle.cc_bodies.proofs.bodies.read_code.Goals as goal

pub returns-in_err-judge_insns : goal.returns-in_err-judge_insns
returns-in_err-judge_insns c =
    let reading = c.in_ok-reading.reading in
    let stand = rw c.as_slice.ensures at c.in_ok-reading.ensures in
    let p = err_from_is_err_and c.from_residual-in_err-judge_insns.result c.from_residual-in_err-judge_insns.ensures.1 in
    rw (p.1, p.2) (λ real. insn_first c.args.ids.now (method_text c.args.ids.now c.args.method) c.args.code.now reading.insns reading.broken _ c.stand_to_end.ensures stand
    (rw c.as_slice-2.ensures at (c.in_err-judge_insns.ensures real)))

pub returns-in-Some : goal.returns-in-Some
returns-in-Some c =
    let reading = c.in_ok-reading.reading in
    let stand = rw c.as_slice.ensures at c.in_ok-reading.ensures in
    λ real. units_break c.args.ids.now (method_text c.args.ids.now c.args.method) c.in_ok-method.method c.args.code.now reading.insns reading.broken c.in-Some.broken stand c.in-Some.is
    (rw c.as_slice-2.ensures at c.in_ok-judge_insns.ensures) c.in_ok-method.ensures

pub returns-in_err-judge_tries : goal.returns-in_err-judge_tries
returns-in_err-judge_tries c =
    let reading = c.in_ok-reading.reading in
    let stand = rw c.as_slice.ensures at c.in_ok-reading.ensures in
    let p = err_from_is_err_and c.from_residual-in_err-judge_tries.result c.from_residual-in_err-judge_tries.ensures.1 in
    rw (p.1, p.2) (λ real. CodeFaulty.of_handler (whole_units c.args.code.now reading.insns reading.broken stand c.in_default.not-Some) (rw c.as_slice-2.ensures at c.in_ok-judge_insns.ensures)
    (rw c.as_slice-3.ensures at (c.in_err-judge_tries.ensures real)))

pub returns : goal.returns
returns c =
    let reading = c.in_ok-reading.reading in
    let stand = rw c.as_slice.ensures at c.in_ok-reading.ensures in
    let whole = whole_units c.args.code.now reading.insns reading.broken stand c.in_default.not-Some in (
      whole,
      λ fault. c.sound_code.ensures c.args.ids.now (method_text c.args.ids.now c.args.method) c.args.code.now reading.insns fault whole (rw c.as_slice-2.ensures at c.in_ok-judge_insns.ensures)
          (rw c.as_slice-3.ensures at c.in_ok-judge_tries.ensures),
    )
