use Rattle.std.proofs.Common.{◌≡◌, map, take}
use Rattle.cc_meaning.specs.Names.{method_name}
use Rattle.cc_program_names.proofs.methods.method_names.Given as goal

abbrev pub invariant-loop-method : goal.invariant-loop-method
invariant-loop-method l = l.names ≡ map (method_name l.program) (take l.method-index l.program.methods)
