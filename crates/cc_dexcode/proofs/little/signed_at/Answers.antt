use Rattle.std.proofs.Common.{◌≡◌, to_z, of_z, w64, ap, ◌∙◌, arith}
use Rattle.std.proofs.lemmas.Int.{ints}
use Rattle.cc_meaning_dex.specs.Values.{sign_extended}
use Rattle.cc_dexcode.proofs.Bytes.{little_read}
use Rattle.cc_dexcode.proofs.little.signed_at.Goals as goal

pub returns : goal.returns
returns c =
    let same : to_z w64 (of_z w64 c.read_int.result) ≡ c.read_int.result = omega (arith, ints) in
    same ∙ c.read_int.ensures ∙ ap (sign_extended c.args.size) (little_read c.args.file.now c.args.at c.args.size)
