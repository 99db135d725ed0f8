use Rattle.std.proofs.Common.{refl}
use Rattle.cc_meaning.specs.BuiltIn.{out_name, print_stream_name}
use Rattle.cc_meaning_program.specs.Members.{out_member}
use Rattle.cc_members.proofs.planned_built_in.name_of_out.Goals as goal

pub returns : goal.returns
unfolding out_member out_name print_stream_name
returns c = rw (c.in_ok-push.ensures.ok, c.new-names.ensures, c.in_ok-out.ensures) refl
