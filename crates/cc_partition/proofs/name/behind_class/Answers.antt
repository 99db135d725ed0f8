use Rattle.std.proofs.Common.{◌++◌, List, ℕ, Some, None}
use Rattle.std.specs.Prelude.{codes}
use Rattle.std.proofs.lemmas.Bool.Decides.{Decides-eqb}
use Rattle.std.proofs.lemmas.Slice.Eq.{strip_prefix_is}
use Rattle.cc_partition.proofs.Naming.{no_front, in_front}
use Rattle.cc_partition.proofs.name.behind_class.Goals as goal

abbrev arrow : List ℕ
arrow = codes "->"

abbrev behind_arrow : List ℕ → List ℕ
behind_arrow name = arrow ++ name

pub returns-in-Some : goal.returns-in-Some
returns-in-Some c =
    let units = c.args.units.now in
    let class = c.args.class.now in
    let rest = c.in-Some.rest in
    let second = strip_prefix_is Decides-eqb rest.now arrow c.strip_prefix-in-Some.result c.strip_prefix-in-Some.ensures.cases in
    in_front units class behind_arrow rest.now (strip_prefix_is Decides-eqb units class (Some rest) c.in-Some.ensures.cases) c.strip_prefix-in-Some.result second

pub returns-in-None : goal.returns-in-None
returns-in-None c =
    let units = c.args.units.now in
    let class = c.args.class.now in
    no_front units class behind_arrow (strip_prefix_is Decides-eqb units class None c.in-None.ensures.cases)
