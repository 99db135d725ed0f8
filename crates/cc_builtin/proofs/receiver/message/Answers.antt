use Rattle.std.proofs.Common.{refl}
use Rattle.cc_meaning_builtin.specs.Acts.{run_act}
use Rattle.cc_meaning_builtin.specs.Calls.{returns}
use Rattle.cc_builtin.proofs.Ending.{message_ends, no_message_ends}
use Rattle.cc_builtin.proofs.receiver.message.Goals as goal

pub returns-in-Some : goal.returns-in-Some
unfolding run_act returns
returns-in-Some c = message_ends c.args.id returns c.args.world.now _ _ c.in-Some.value c.in-Some.ensures (refl, refl)

pub returns-in-None : goal.returns-in-None
returns-in-None c = no_message_ends c.args.id returns c.args.world.now _ _ c.in-None.ensures
