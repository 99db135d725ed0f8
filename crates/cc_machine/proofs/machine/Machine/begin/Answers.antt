use Rattle.std.proofs.Common.{sym}
use Rattle.cc_machine.proofs.Steps.{begins_without, begins_with}
use Rattle.cc_machine.proofs.machine.Machine.begin.Goals as goal

pub returns-then-self-lt2 : goal.returns-then-self-lt2
returns-then-self-lt2 c = begins_without c.args.self.now c.self.inside.progress (sym c.self.view_is) c.if-self-lt2.true

pub returns : goal.returns
returns c = begins_with c.args.self.now c.self.inside.progress (sym c.self.view_is) c.if-self-lt2.false
