use Rattle.cc_alike_laws.proofs.Laws.{built_in_calls_are_alike}
use Rattle.cc_alike_laws.proofs.built_in_calls_are_alike.Goals as goal

pub returns : goal.returns
returns c p f m args1 args2 u vs = built_in_calls_are_alike p f m args1 args2 u vs
