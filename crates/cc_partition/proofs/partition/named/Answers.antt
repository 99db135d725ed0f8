use Rattle.std.proofs.Common.{◌∙◌, ◌≡◌, List, ℕ, subst, ◌++◌}
use Rattle.std.specs.Prelude.{codes}
use Rattle.cc_partition.specs.Partition.{units_of}
use Rattle.cc_partition.proofs.Reading.{named_place}
use Rattle.cc_partition.proofs.partition.named.Goals as goal

pub returns : goal.returns
returns c =
    let plain = c.args.plain.now in
    let name = c.in-Some.name.now in
    let units = c.deref.result.now in
    let same : units ≡ units_of c.args.text.now = c.deref.ensures.value ∙ c.in_ok-units.ensures in
    let behind : units ≡ plain.class ++ (codes "->" ++ name) = subst (λ (class : List ℕ). units ≡ class ++ (codes "->" ++ name)) c.as_slice.ensures c.in-Some.ensures in
    named_place plain c.args.text.now units name same behind c.place_of.result c.place_of.ensures
