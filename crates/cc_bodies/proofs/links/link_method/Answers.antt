use Rattle.std.proofs.Common.{◌≡◌, Some, slice_get, rules}
use Rattle.cc_bodies.specs.Linked.{MethodLinked}
use Rattle.cc_bodies.proofs.Rows.{method_stays}
use Rattle.cc_bodies.proofs.links.link_method.Goals as goal

pub returns-in-Some-Some : goal.returns-in-Some-Some
returns-in-Some-Some c =
    let there : slice_get c.args.links.now.methods c.in-Row.row ≡ Some (Some c.in-Some-Some.link) = search rules in
    rw c.in-Row.is (MethodLinked.of_row there)

pub returns-in_default : goal.returns-in_default
returns-in_default c = method_stays c.args.links.now c.args.named c.in_default.not-Row
