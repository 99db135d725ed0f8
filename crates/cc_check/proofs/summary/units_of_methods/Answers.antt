use Rattle.std.proofs.Common.{◌≡◌, Some, List, sym, ap, ◌∙◌, subst}
use Rattle.std.specs.Prelude.{slice_get}
use Rattle.std.proofs.lemmas.Option.{slice_get-get_or}
use Rattle.cc_meaning.specs.declared.program.Method.{Method}
use Rattle.cc_check.proofs.summary.units_of_methods.Goals as goal

pub units_of_kind-units-requires : goal.units_of_kind-units-requires
units_of_kind-units-requires c = λ code coded.
    let within = c.loop-method-test.true in
    let there = slice_get-get_or c.as_slice-methods.result.now c.loop-method.method-index c.method-item.result within ∙ ap Some (sym c.method-item.is) in
    c.requires.well_formed.laid_out c.loop-method.method-index c.method-item.result code
    (subst (λ (xs : List Method). slice_get xs c.loop-method.method-index ≡ Some c.method-item.result) c.as_slice-methods.ensures there) coded
