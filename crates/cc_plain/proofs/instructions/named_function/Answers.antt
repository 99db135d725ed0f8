use Rattle.cc_plain.specs.Code.{scope_in}
use Rattle.cc_plain.proofs.InsnLemmas.{named_there}
use Rattle.cc_plain.proofs.instructions.named_function.Goals as goal

pub returns-in_default : goal.returns-in_default
returns-in_default c =
    let none = rw (c.in_default.is, c.from.ensures, c.as_slice.ensures) at c.in_ok-name.ensures in
    λ place h. none h.name h.named

pub returns : goal.returns
returns c =
    let named = rw (c.in-Some.is, c.from.ensures, c.as_slice.ensures) at c.in_ok-name.ensures in
    let place = rw (c.as_slice-2.ensures, c.as_slice-3.ensures) at c.place_of.ensures in
    named_there c.law_name_once.ensures c.args.file.now (scope_in c.args.known.now) c.args.row c.in-Some.name c.place_of.result named place
