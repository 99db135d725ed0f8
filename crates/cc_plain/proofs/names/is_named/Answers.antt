use Rattle.std.proofs.lemmas.Slice.Eq.{slice_eq-Decides}
use Rattle.std.proofs.lemmas.Bool.Decides.{Decides-eqb}
use Rattle.cc_plain.proofs.TextLemmas.{named_is}
use Rattle.cc_plain.proofs.names.is_named.Goals as goal

pub returns-in_default : goal.returns-in_default
returns-in_default c =
    let none = rw c.in_default.is at c.in_ok-found.ensures in
    (λ e. absurd (cc), λ type. absurd (none c.args.name.now type))

pub returns : goal.returns
returns c =
    let type = rw c.in-Some.is at c.in_ok-found.ensures in
    let same = rw c.as_slice.ensures at (slice_eq-Decides Decides-eqb c.as_slice.result.now c.args.name.now c.eq.result c.eq.ensures) in
    named_is c.law_type_once.ensures c.args.file.now c.args.row c.in-Some.found c.args.name.now c.eq.result type same
