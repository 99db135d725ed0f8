use Rattle.std.proofs.Common.{length, take, drop}
use Rattle.std.proofs.lemmas.List.{take_rest}
use Rattle.std.proofs.lemmas.Slice.Eq.{slice_eq-Decides}
use Rattle.std.proofs.lemmas.Bool.Decides.{Decides-eqb}
use Rattle.cc_plain.proofs.header.begins.Goals as goal

pub returns : goal.returns
returns c =
    let file = c.args.file.now in
    let part = c.args.part.now in
    let e = rw (take_rest file c.args.at) at c.eq.ensures in
    slice_eq-Decides Decides-eqb (take (length part) (drop c.args.at file)) part c.eq.result e
