use Rattle.std.proofs.Common.{ℕ, List, get_or, Option, ap, subst}
use Rattle.std.specs.Prelude.{Contains}
use Rattle.std.specs.Borrow.{Bor}
use Rattle.std.specs.Option.{option_copied}
use Rattle.std.proofs.lemmas.List.Elements.{Contains-get_or}
use Rattle.cc_meaning.specs.declared.file.ClassRow.{ClassRow}
use Rattle.cc_hierarchy.proofs.classes.stated_interfaces.Goals as goal

pub number_of_type-requires-clause-row : goal.number_of_type-requires-clause-row
number_of_type-requires-clause-row c =
    let items = c.as_slice-row-items.result.now in
    let row : ℕ = get_or items c.loop-row.row-index 0 in
    (c.requires.fits c.in-Some.stated.now (ap (λ (o : Option (Bor ClassRow)). option_copied o) c.in-Some.is)).interfaces row
    (subst (λ (rows : List ℕ). Contains rows row) c.as_slice-row-items.ensures (Contains-get_or items c.loop-row.row-index 0 c.loop-row-test.true))
