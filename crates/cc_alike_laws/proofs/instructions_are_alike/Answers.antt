use Rattle.cc_alike_laws.proofs.Laws.{instructions_are_alike}
use Rattle.cc_alike_laws.proofs.instructions_are_alike.Goals as goal

pub returns : goal.returns
returns c p f m pc l1 l2 u l = instructions_are_alike p f m pc l1 l2 u l
