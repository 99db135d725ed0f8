use Rattle.std.proofs.Common.{◌≡◌, refl, sym, ap, ◌∙◌, arith, Ok, length}
use Rattle.std.proofs.lemmas.Bool.Decides.{nat_tests}
use Rattle.std.proofs.lemmas.Result.{err_from_is_err_and}
use Rattle.cc_meaning_plain.specs.Program.{program_of}
use Rattle.cc_wire.proofs.Entries.{gives_int, some_status, status_is}
use Rattle.cc_wire.proofs.Wholes as wholes
use Rattle.cc_wire.proofs.back.decode_back.Goals as goal

pub returns-in_err-head : goal.returns-in_err-head
returns-in_err-head c =
    let p = err_from_is_err_and c.from_residual.result c.from_residual.ensures.1 in
    let gives = gives_int c.runnable_is.ensures c.args.plain.now c.args.run.now c.requires.sent in
    rw (p.1, p.2) (λ free. wholes.back_wrong_head (program_of c.args.plain.now) c.args.run.now c.args.bytes.now _ gives _ refl _ (c.in_err-head.ensures.reads free))

pub at-requires : goal.at-requires
at-requires c = let one = some_status c.args.plain.now (c.form_is.ensures c.args.plain.now) c.args.run.now c.requires.sent in omega (arith, one)

pub returns-in_err-status : goal.returns-in_err-status
returns-in_err-status c =
    let p = err_from_is_err_and c.from_residual-in_err-status.result c.from_residual-in_err-status.ensures.1 in
    let gives = gives_int c.runnable_is.ensures c.args.plain.now c.args.run.now c.requires.sent in
    let status = status_is c.args.plain.now (c.form_is.ensures c.args.plain.now) c.args.run.now c.requires.sent c.at.result.now c.at.ensures.get in
    rw (p.1, p.2) (λ free. wholes.back_wrong_behind (program_of c.args.plain.now) c.args.run.now c.args.bytes.now _ gives _ status _ _ _ c.in_ok-head.ensures.reads _
    (c.in_err-status.ensures c.args.plain.now c.in_ok-head.head free))

pub returns-then-not-is_empty : goal.returns-then-not-is_empty
returns-then-not-is_empty c =
    let gives = gives_int c.runnable_is.ensures c.args.plain.now c.args.run.now c.requires.sent in
    let status = status_is c.args.plain.now (c.form_is.ensures c.args.plain.now) c.args.run.now c.requires.sent c.at.result.now c.at.ensures.get in
    λ free. wholes.back_trailing (program_of c.args.plain.now) c.args.run.now c.args.bytes.now _ gives _ status _ _ _ c.in_ok-head.ensures.reads _ _ _
    (c.in_ok-status.ensures c.args.plain.now c.in_ok-head.head) (λ none. grind (arith, nat_tests, c.is_empty.ensures, c.if-not-is_empty.true, none))

pub returns-then-not-fits : goal.returns-then-not-fits
returns-then-not-fits c =
    let gives = gives_int c.runnable_is.ensures c.args.plain.now c.args.run.now c.requires.sent in
    let status = status_is c.args.plain.now (c.form_is.ensures c.args.plain.now) c.args.run.now c.requires.sent c.at.result.now c.at.ensures.get in
    let none : length c.back_behind.new.reader.rest.now ≡ 0 = grind (arith, nat_tests, c.is_empty.ensures, c.if-not-is_empty.false) in
    λ free. wholes.back_bad (program_of c.args.plain.now) c.args.run.now c.args.bytes.now _ gives _ status _ _ _ c.in_ok-head.ensures.reads _ _ _
    (c.in_ok-status.ensures c.args.plain.now c.in_ok-head.head) none (sym (c.fits.ensures c.in_ok-status.status) ∙ c.if-not-fits.true)

pub returns : goal.returns
returns c =
    let gives = gives_int c.runnable_is.ensures c.args.plain.now c.args.run.now c.requires.sent in
    let status = status_is c.args.plain.now (c.form_is.ensures c.args.plain.now) c.args.run.now c.requires.sent c.at.result.now c.at.ensures.get in
    let none : length c.back_behind.new.reader.rest.now ≡ 0 = grind (arith, nat_tests, c.is_empty.ensures, c.if-not-is_empty.false) in
    wholes.back_good (program_of c.args.plain.now) c.args.run.now c.args.bytes.now _ gives _ status _ _ _ c.in_ok-head.ensures.reads _ _ _
    (c.in_ok-status.ensures c.args.plain.now c.in_ok-head.head) none (sym (c.fits.ensures c.in_ok-status.status) ∙ c.if-not-fits.false)
    ∙ ap Ok (sym c.in_ok-image.ensures)
