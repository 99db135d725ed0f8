use Rattle.cc_meaning_alike.specs.Laws.{held, everything}
use Rattle.cc_alike_laws.proofs.Reports.{report_is_local}
use Rattle.cc_alike_laws.proofs.Glue.{migrating_fits}
use Rattle.cc_alike_laws.proofs.migrated_calls_change_no_report.Goals as goal

pub returns : goal.returns
returns g c ok fine holds K hook look script p keeps looks h texts limits t u hd o o' =
    report_is_local ok fine (held holds) everything hook look script p keeps looks (migrating_fits ok fine (held holds) K hook look script p looks h) texts limits t u hd o o'
