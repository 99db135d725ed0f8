use Rattle.std.proofs.Common.{◌++◌, List, ℕ, Some}
use Rattle.std.proofs.lemmas.Bool.Decides.{Decides-eqb}
use Rattle.std.proofs.lemmas.Slice.Eq.{strip_prefix_is, strip_suffix_is}
use Rattle.cc_partition.specs.Partition.{opening, closing}
use Rattle.cc_partition.proofs.Naming.{in_front}
use Rattle.cc_partition.proofs.partition.quoted.Goals as goal

abbrev before_end : List ℕ → List ℕ
before_end name = name ++ closing

pub returns-in-Some : goal.returns-in-Some
returns-in-Some c =
    let text = c.args.text.now in
    let rest = c.in-Some.rest in
    let second = strip_suffix_is Decides-eqb rest.now closing c.strip_suffix.result c.strip_suffix.ensures.cases in
    in_front text opening before_end rest.now (strip_prefix_is Decides-eqb text opening (Some rest) c.in-Some.ensures.cases) c.strip_suffix.result second
