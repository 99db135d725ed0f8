use Rattle.std.proofs.Common.{◌≡◌, Some}
use Rattle.cc_meaning.specs.BuiltIn.{string_index_out_of_bounds_exception_name}
use Rattle.cc_meaning.specs.Lookup.{class_named}
use Rattle.cc_builtin.proofs.Ending.{class_ends}
use Rattle.cc_builtin.proofs.argument.throw_string_index.Goals as goal

pub returns-in-Some-clause-ok : goal.returns-in-Some-clause-ok
returns-in-Some-clause-ok c =
    let some : Some c.in-Some.class ≡ class_named string_index_out_of_bounds_exception_name c.args.program.now = rw c.in-Some.is at c.in_ok-class.ensures in
    class_ends c.throw.result c.args.program.now string_index_out_of_bounds_exception_name c.in-Some.class c.args.world.now _ some c.throw.ensures.ok
