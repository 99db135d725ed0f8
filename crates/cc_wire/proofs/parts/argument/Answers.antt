use Rattle.std.proofs.Common.{rules, ◌≡◌, ap, ◌∙◌, ℤ, [], ◌∷◌, sym}
use Rattle.std.specs.Int.{w32, cast_signed, cast_unsigned}
use Rattle.std.proofs.lemmas.Int.{of_z-to_z}
use Rattle.std.proofs.lemmas.Result.{err_from_is_err_and}
use Rattle.cc_meaning.specs.declared.value.Value.TheVariants as value
use Rattle.cc_meaning_images.specs.Reading.{got}
use Rattle.cc_wire.proofs.Chains.{argument_wrong, argument_good}
use Rattle.cc_wire.proofs.parts.argument.Goals as goal

pub returns-in_err-number-clause-reads : goal.returns-in_err-number-clause-reads
returns-in_err-number-clause-reads c =
    let p = err_from_is_err_and c.from_residual.result c.from_residual.ensures.1 in
    rw (p.1, p.2) (λ free. argument_wrong _ _ _ (c.in_err-number.ensures.reads free))

pub returns-clause-reads : goal.returns-clause-reads
returns-clause-reads c =
    let again : cast_signed w32 c.in_ok-number.number ≡ cast_signed w32 (cast_unsigned w32 c.cast_signed.result) =
    ap (cast_signed w32) (sym (ap (cast_unsigned w32) c.cast_signed.ensures ∙ of_z-to_z w32 c.in_ok-number.number (search rules))) in
    argument_good _ _ c.in_ok-number.number _ _ c.in_ok-number.ensures.reads
    ∙ ap (λ (n : ℤ). got (value.Int n ∷ []) c.four.new.self.at c.four.new.self.rest.now) again
