use Rattle.std.proofs.Common.{refl, arith}
use Rattle.cc_meaning.specs.BuiltIn.{object_name}
use Rattle.cc_built_in.specs.BuiltInMethods.{array_methods, built_in_member}
use Rattle.cc_built_in.specs.Listed.{method_of}
use Rattle.cc_built_in.proofs.table.array_methods.Goals as goal

pub returns : goal.returns
unfolding array_methods built_in_member method_of object_name
returns c = λ class. record { methods = refl; members = refl; few = omega arith }
