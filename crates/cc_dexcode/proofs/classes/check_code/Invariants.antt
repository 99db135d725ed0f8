use Rattle.std.proofs.Common.{◌≡◌, drop}
use Rattle.cc_meaning_dex.specs.Classes.{code_fault}
use Rattle.cc_dexcode.proofs.classes.check_code.Given as goal

abbrev pub invariant-loop-method : goal.invariant-loop-method
invariant-loop-method l = code_fault l.file l.ids (drop l.method-index l.methods) ≡ code_fault l.file l.ids l.methods
