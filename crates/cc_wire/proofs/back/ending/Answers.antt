use Rattle.std.proofs.Common.{rules, ℤ, Some, sym, ap, ◌∙◌, arith}
use Rattle.std.specs.Int.{w32}
use Rattle.std.proofs.lemmas.Int.{to_z-of_z}
use Rattle.std.proofs.lemmas.Result.{err_from_is_err_and}
use Rattle.cc_wire.proofs.Ends as ends
use Rattle.cc_meaning.specs.declared.value.Value.TheVariants as value
use Rattle.cc_meaning.specs.declared.report.CallEnd.TheVariants as end
use Rattle.cc_meaning_images.specs.Reading.{got}
use Rattle.cc_wire.proofs.back.ending.Goals as goal

pub returns-in_err-byte-clause-reads : goal.returns-in_err-byte-clause-reads
returns-in_err-byte-clause-reads c =
    let p = err_from_is_err_and c.from_residual.result c.from_residual.ensures.1 in
    rw (p.1, p.2) (λ free. ends.no_ending _ _ _ (c.in_err-byte.ensures.reads free))

pub returns-in_err-argument-in-0-clause-reads : goal.returns-in_err-argument-in-0-clause-reads
returns-in_err-argument-in-0-clause-reads c =
    let p = err_from_is_err_and c.from_residual-in_err-argument-in-0.result c.from_residual-in_err-argument-in-0.ensures.1 in
    rw (p.1, p.2) (λ free. ends.bad_number _ _ _ _ _ c.in_ok-byte.ensures.reads _ c.in-0.is (c.in_err-argument-in-0.ensures.reads free))

pub returns-in_ok-argument-in-0-clause-reads : goal.returns-in_ok-argument-in-0-clause-reads
returns-in_ok-argument-in-0-clause-reads c =
    ends.returned _ _ _ _ _ c.in_ok-byte.ensures.reads c.in_ok-argument-in-0.field-0 _ _ c.in-0.is c.in_ok-argument-in-0.ensures.reads
    ∙ ap (λ (n : ℤ). got (end.Returned (Some (value.Int n))) c.argument.new.reader.at c.argument.new.reader.rest.now) (sym (to_z-of_z w32 c.in_ok-argument-in-0.field-0 (search rules)))

pub returns-in-2-clause-reads : goal.returns-in-2-clause-reads
returns-in-2-clause-reads c = ends.out_of_instructions _ _ _ _ _ c.in_ok-byte.ensures.reads c.in-2.is

pub returns-in-3-clause-reads : goal.returns-in-3-clause-reads
returns-in-3-clause-reads c = ends.out_of_words _ _ _ _ _ c.in_ok-byte.ensures.reads c.in-3.is

pub returns-in_default-clause-reads : goal.returns-in_default-clause-reads
returns-in_default-clause-reads c =
    rw c.not_allowed.ensures (λ free. ends.no_such_end _ _ _ _ _ c.in_ok-byte.ensures.reads (λ z. search rules) (λ z. search rules) (λ z. search rules))
