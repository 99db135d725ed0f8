use Rattle.std.proofs.Common.{rules, ◌≡◌, sym, ap, ◌∙◌, arith, ℤ, Ok, length}
use Rattle.std.specs.Int.{w32}
use Rattle.std.proofs.lemmas.Int.{to_z-of_z}
use Rattle.std.proofs.lemmas.Bool.Decides.{nat_tests}
use Rattle.std.proofs.lemmas.Result.{err_from_is_err_and}
use Rattle.cc_meaning_plain.specs.Program.{program_of}
use Rattle.cc_wire.specs.Runs.{image_of}
use Rattle.cc_wire.proofs.Wholes as wholes
use Rattle.cc_wire.proofs.run.decode_run.Goals as goal

pub returns-in_err-head : goal.returns-in_err-head
returns-in_err-head c =
    let p = err_from_is_err_and c.from_residual.result c.from_residual.ensures.1 in
    rw (p.1, p.2) (λ free. wholes.run_wrong_head (program_of c.args.plain.now) c.args.bytes.now _ (c.in_err-head.ensures.reads free))

pub returns-in_err-status : goal.returns-in_err-status
returns-in_err-status c =
    let p = err_from_is_err_and c.from_residual-in_err-status.result c.from_residual-in_err-status.ensures.1 in
    let h = c.in_ok-head.ensures.reads in
    rw (p.1, p.2) (λ free. wholes.run_wrong_behind (program_of c.args.plain.now) c.args.bytes.now _ _ _ h.1 _ (c.in_err-status.ensures c.args.plain.now h.0 c.in_ok-head.head free))

pub returns-then-not-is_empty : goal.returns-then-not-is_empty
returns-then-not-is_empty c =
    let h = c.in_ok-head.ensures.reads in
    λ free. wholes.run_trailing (program_of c.args.plain.now) c.args.bytes.now _ _ _ h.1 _ _ _ (c.in_ok-status.ensures c.args.plain.now h.0 c.in_ok-head.head)
    (λ none. grind (arith, nat_tests, c.is_empty.ensures, c.if-not-is_empty.true, none))

pub returns-then-not-fits : goal.returns-then-not-fits
returns-then-not-fits c =
    let h = c.in_ok-head.ensures.reads in
    let none : length c.run_behind.new.reader.rest.now ≡ 0 = grind (arith, nat_tests, c.is_empty.ensures, c.if-not-is_empty.false) in
    λ free. wholes.run_bad (program_of c.args.plain.now) c.args.bytes.now _ _ _ h.1 _ _ _ (c.in_ok-status.ensures c.args.plain.now h.0 c.in_ok-head.head) none
    (sym (c.fits.ensures c.args.plain.now h.0 c.in_ok-status.status c.in_ok-status.argument) ∙ c.if-not-fits.true)

pub returns : goal.returns
returns c =
    let h = c.in_ok-head.ensures.reads in
    let none : length c.run_behind.new.reader.rest.now ≡ 0 = grind (arith, nat_tests, c.is_empty.ensures, c.if-not-is_empty.false) in
    wholes.run_good (program_of c.args.plain.now) c.args.bytes.now _ _ _ h.1 _ _ _ (c.in_ok-status.ensures c.args.plain.now h.0 c.in_ok-head.head) none
    (sym (c.fits.ensures c.args.plain.now h.0 c.in_ok-status.status c.in_ok-status.argument) ∙ c.if-not-fits.false)
    ∙ ap (λ (n : ℤ). Ok (image_of c.args.plain.now h.0 c.in_ok-head.head c.in_ok-status.status n)) (sym (to_z-of_z w32 c.in_ok-status.argument (search rules)))
    ∙ ap Ok (sym (c.in_ok-image.ensures c.args.plain.now h.0))
