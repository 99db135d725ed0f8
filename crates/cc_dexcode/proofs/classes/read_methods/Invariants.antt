use Rattle.std.proofs.Common.{◌≡◌, drop}
use Rattle.cc_meaning_dex.specs.Classes.{methods_with_code}
use Rattle.cc_dexcode.proofs.Parts.{with_front}
use Rattle.cc_dexcode.proofs.classes.read_methods.Given as goal

abbrev pub invariant-loop-stated : goal.invariant-loop-stated
invariant-loop-stated l = with_front l.read (methods_with_code l.file l.ids (drop l.stated-index l.methods)) ≡ methods_with_code l.file l.ids l.methods
