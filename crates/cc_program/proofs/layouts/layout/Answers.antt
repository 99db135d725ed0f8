use Rattle.std.proofs.Common.{◌≡◌, Some, length, slice_get, refl, ap, ◌∙◌, ◌++◌, arith}
use Rattle.std.proofs.lemmas.Option.{slice_get_read}
use Rattle.cc_program.proofs.Settling.{laid_out}
use Rattle.cc_program.proofs.layouts.layout.Goals as goal

pub returns : goal.returns
returns c =
    let own = c.args.own.now in
    let there : slice_get own c.args.class ≡ Some c.index-own-class.result = slice_get_read own (length own) c.args.class c.index-own-class.result refl (omega (arith, c.requires.own, c.requires.there)) c.index-own-class.is in
    laid_out c.args.outlines.now own c.args.layouts.now c.args.class c.in_ok-fields.fields c.index-own-class.result c.extend_from_slice.new.self c.requires.right c.in_ok-fields.ensures.top c.in_ok-fields.ensures.below there
    (c.in_ok-extend_from_slice.ensures.ok ∙ ap (λ xs. c.in_ok-fields.fields ++ xs) c.as_slice.ensures)
