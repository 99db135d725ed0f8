use Rattle.std.proofs.Common.{refl}
use Rattle.std.specs.Prelude.{map}
use Rattle.std.specs.List.{flat_map}
use Rattle.cc_meaning.specs.declared.listing.Mark.{Mark}
use Rattle.cc_meaning_builder.specs.Named.{try_names}
use Rattle.cc_builder.proofs.KnownNames.{left, right}
use Rattle.cc_builder.proofs.code.raw_code.Goals as goal

pub returns : goal.returns
returns c = λ known.
    let ids = c.args.ids.now in
    let listing = c.args.listing.now in
    let marks = map (λ (mark : Mark). mark.row) listing.marks in
    let tries = flat_map try_names listing.tries in
    let put = rw (c.as_slice.ensures, c.in_ok-units.ensures) at c.in_ok-put_rows.ensures in
    let made = rw c.as_slice-2.ensures at c.in_ok-tries.ensures in
    record { registers = refl; ins = c.argument_registers.ensures; units = put (left ids marks tries known); tries = made (right ids marks tries known) }
