use Rattle.std.proofs.Common.{◌≡◌, ◌==◌, false, true, not, sym, ap, ◌∙◌, arith, Bool}
use Rattle.std.proofs.lemmas.Bool.Decides.{nat_tests}
use Rattle.std.proofs.lemmas.Result.{err_from_is_err_and}
use Rattle.cc_meaning_images.specs.Reading.{has_frame, has_registers}
use Rattle.cc_meaning_plain.specs.Program.{program_of}
use Rattle.cc_wire.specs.Runs.{target_of}
use Rattle.cc_wire.proofs.Heads as heads
use Rattle.cc_wire.proofs.run.run_head.Goals as goal

pub returns-in_err-method-clause-reads : goal.returns-in_err-method-clause-reads
returns-in_err-method-clause-reads c =
    let p = err_from_is_err_and c.from_residual.result c.from_residual.ensures.1 in
    rw (p.1, p.2) (λ free. heads.no_method _ _ _ _ (c.in_err-method.ensures.reads free))

pub returns-in_default-clause-reads : goal.returns-in_default-clause-reads
returns-in_default-clause-reads c =
    rw c.not_allowed.ensures (λ free. heads.no_target _ _ _ _ _ _ c.in_ok-method.ensures.reads c.in_default.ensures)

pub returns-in_err-instructions-clause-reads : goal.returns-in_err-instructions-clause-reads
returns-in_err-instructions-clause-reads c =
    let p = err_from_is_err_and c.from_residual-in_err-instructions.result c.from_residual-in_err-instructions.ensures.1 in
    rw (p.1, p.2) (λ free. heads.no_instructions _ _ _ _ _ _ c.in_ok-method.ensures.reads _ c.in-Some.ensures _ (c.in_err-instructions.ensures.reads free))

pub returns-in_err-words-clause-reads : goal.returns-in_err-words-clause-reads
returns-in_err-words-clause-reads c =
    let p = err_from_is_err_and c.from_residual-in_err-words.result c.from_residual-in_err-words.ensures.1 in
    rw (p.1, p.2) (λ free. heads.no_words _ _ _ _ _ _ c.in_ok-method.ensures.reads _ c.in-Some.ensures _ _ _ c.in_ok-instructions.ensures.reads _ (c.in_err-words.ensures.reads free))

pub returns-in_err-depth-clause-reads : goal.returns-in_err-depth-clause-reads
returns-in_err-depth-clause-reads c =
    let p = err_from_is_err_and c.from_residual-in_err-depth.result c.from_residual-in_err-depth.ensures.1 in
    rw (p.1, p.2) (λ free. heads.no_depth _ _ _ _ _ _ c.in_ok-method.ensures.reads _ c.in-Some.ensures _ _ _ c.in_ok-instructions.ensures.reads _ _ _ c.in_ok-words.ensures.reads _ (c.in_err-depth.ensures.reads free))

pub returns-then-depth-eq-MOST_FRAMES-clause-reads :
    goal.returns-then-depth-eq-MOST_FRAMES-clause-reads
returns-then-depth-eq-MOST_FRAMES-clause-reads c =
    rw c.not_allowed-then-depth-eq-MOST_FRAMES.ensures
    (λ free. heads.bad_depth _ _ _ _ _ _ c.in_ok-method.ensures.reads _ c.in-Some.ensures _ _ _ c.in_ok-instructions.ensures.reads _ _ _ c.in_ok-words.ensures.reads _ _ _ c.in_ok-depth.ensures.reads
    c.if-depth-eq-MOST_FRAMES.true)

pub returns-in_err-registers-clause-reads : goal.returns-in_err-registers-clause-reads
returns-in_err-registers-clause-reads c =
    let p = err_from_is_err_and c.from_residual-in_err-registers.result c.from_residual-in_err-registers.ensures.1 in
    let fits : has_frame c.in_ok-depth.depth ≡ true = grind (arith, nat_tests, c.if-depth-eq-MOST_FRAMES.false) in
    rw (p.1, p.2) (λ free. heads.no_registers _ _ _ _ _ _ c.in_ok-method.ensures.reads _ c.in-Some.ensures _ _ _ c.in_ok-instructions.ensures.reads _ _ _ c.in_ok-words.ensures.reads _ _ _ c.in_ok-depth.ensures.reads
    fits _ (c.in_err-registers.ensures.reads free))

pub returns-then-not-has_registers-clause-reads : goal.returns-then-not-has_registers-clause-reads
returns-then-not-has_registers-clause-reads c =
    let fits : has_frame c.in_ok-depth.depth ≡ true = grind (arith, nat_tests, c.if-depth-eq-MOST_FRAMES.false) in
    rw c.not_allowed-then-not-has_registers.ensures
    (λ free. heads.bad_registers _ _ _ _ _ _ c.in_ok-method.ensures.reads _ c.in-Some.ensures _ _ _ c.in_ok-instructions.ensures.reads _ _ _ c.in_ok-words.ensures.reads _ _ _ c.in_ok-depth.ensures.reads
    fits _ _ _ c.in_ok-registers.ensures.reads (sym c.has_registers.ensures ∙ c.if-not-has_registers.true))

pub returns-clause-reads : goal.returns-clause-reads
returns-clause-reads c =
    let fits : has_frame c.in_ok-depth.depth ≡ true = grind (arith, nat_tests, c.if-depth-eq-MOST_FRAMES.false) in (
      c.in-Some.function.now,
      heads.good_head _ _ _ _ _ _ c.in_ok-method.ensures.reads _ c.in-Some.ensures _ _ _ c.in_ok-instructions.ensures.reads _ _ _ c.in_ok-words.ensures.reads _ _ _ c.in_ok-depth.ensures.reads
          fits _ _ _ c.in_ok-registers.ensures.reads (sym c.has_registers.ensures ∙ c.if-not-has_registers.false),
    )
