use Rattle.std.proofs.Common.{Option, ap}
use Rattle.std.specs.Borrow.{Bor}
use Rattle.std.specs.Option.{option_copied}
use Rattle.cc_meaning.specs.declared.file.ClassRow.{ClassRow}
use Rattle.cc_hierarchy.proofs.classes.stated_superclass.Goals as goal

pub number_of_type-requires-clause-row : goal.number_of_type-requires-clause-row
number_of_type-requires-clause-row c = (c.requires.fits c.in_ok-stated.field-0.now (ap (λ (o : Option (Bor ClassRow)). option_copied o) c.in_ok-stated.was)).superclass c.in_ok-row.row c.in_ok-row.was
