use Rattle.cc_meaning_dex.proofs.ListLaws as lists
use Rattle.cc_meaning_dex.proofs.table_laws.types_listed.Goals as goal

pub returns : goal.returns
returns c = lists.types_listed
