use Rattle.cc_meaning_alike.specs.Laws.{held, everything}
use Rattle.cc_alike_laws.proofs.Evals.{faithful}
use Rattle.cc_alike_laws.proofs.Glue.{migrating_fits}
use Rattle.cc_alike_laws.proofs.migrated_calls_change_nothing.Goals as goal

pub returns : goal.returns
returns g c ok fine holds K hook look script p keeps looks h =
    faithful ok fine (held holds) everything hook look script p keeps looks (migrating_fits ok fine (held holds) K hook look script p looks h)
