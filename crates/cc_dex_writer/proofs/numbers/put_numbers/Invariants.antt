use Rattle.std.proofs.Common.{◌≡◌, ◌++◌, take}
use Rattle.std.specs.List.{flat_map}
use Rattle.cc_meaning_builder.specs.Forms.{u32_form}
use Rattle.cc_dex_writer.proofs.numbers.put_numbers.Given as goal

abbrev pub invariant-loop-n : goal.invariant-loop-n
invariant-loop-n l = l.out ≡ l.fn.out ++ flat_map u32_form (take l.n-index l.numbers)
