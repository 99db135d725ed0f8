use Rattle.std.proofs.Common.{sym, arith}
use Rattle.std.proofs.lemmas.Grind.{same_number_lists}
use Rattle.std.proofs.lemmas.Slice.Eq.{bytes_eq-Decides}
use Rattle.cc_program_names.proofs.names.is_ascii.Goals as goal

pub returns : goal.returns
returns c =
    let units = c.args.units.now in
    let text = c.args.text.now in
    sym ((bytes_eq-Decides units text).1 (same_number_lists units text (omega arith) (λ k h. c.loop-at.invariant k (omega arith))))
