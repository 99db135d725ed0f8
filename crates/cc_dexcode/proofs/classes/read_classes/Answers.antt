use Rattle.std.proofs.Common.{arith}
use Rattle.cc_dexcode.proofs.Counts.{few_classes}
use Rattle.cc_dexcode.proofs.classes.read_classes.Goals as goal

pub read_each-requires : goal.read_each-requires
read_each-requires c = rw c.as_slice.ensures (few_classes c.args.file.now c.args.ids.now c.requires (λ i. omega (arith, c.type_inv.file i)))
