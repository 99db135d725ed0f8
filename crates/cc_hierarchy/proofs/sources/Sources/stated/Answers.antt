use Rattle.std.proofs.Common.{Option, slice_get, sym, ap, ◌∙◌}
use Rattle.std.specs.Borrow.{Bor}
use Rattle.std.specs.Prelude.{option_and_then}
use Rattle.std.specs.Option.{option_copied}
use Rattle.cc_meaning.specs.declared.file.ClassRow.{ClassRow}
use Rattle.cc_hierarchy.proofs.FirstDefining.{definition_placed}
use Rattle.cc_hierarchy.proofs.sources.Sources.stated.Goals as goal

pub returns-in_err-number : goal.returns-in_err-number
returns-in_err-number c = λ name is.
    ap (λ (o : Option (Bor ClassRow)). option_copied o) c.from_residual.ensures
    ∙ sym (definition_placed c.args.self.now.ids.now name ∙ ap (option_and_then (slice_get c.args.self.now.ids.now.classes)) (sym is ∙ c.in_err-number.was))

pub returns : goal.returns
returns c = λ name is.
    c.get.ensures.value ∙ sym (definition_placed c.args.self.now.ids.now name ∙ ap (option_and_then (slice_get c.args.self.now.ids.now.classes)) (sym is ∙ c.in_ok-number.was))
