use Rattle.std.proofs.Common.{map}
use Rattle.cc_meaning_program.specs.Named.{type_name}
use Rattle.cc_tables.proofs.Compared.{first_type, next_found}
use Rattle.cc_tables.proofs.prototypes.next_type.Goals as goal

pub returns-in_err-row : goal.returns-in_err-row
returns-in_err-row c types after are =
    let ids = c.args.ids.now in
    let (more, form, rest) = c.in_ok-param.ensures.next (map (type_name ids) types) after are.params in
    let first = first_type ids types after c.args.units.now c.in_ok-param.param.now c.in_ok-param.behind.now more are form rest in
    absurd (c.in_err-row.ensures.named first.some first.type (first.within, first.named))

pub returns : goal.returns
returns c types after are =
    let ids = c.args.ids.now in
    let (more, form, rest) = c.in_ok-param.ensures.next (map (type_name ids) types) after are.params in
    let first = first_type ids types after c.args.units.now c.in_ok-param.param.now c.in_ok-param.behind.now more are form rest in
    next_found ids c.requires types after c.in_ok-param.param.now c.in_ok-param.behind.now c.in_ok-row.row first (c.in_ok-row.ensures.named first.some).1
