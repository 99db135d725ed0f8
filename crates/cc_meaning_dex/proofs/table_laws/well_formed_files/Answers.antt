use Rattle.cc_meaning_dex.proofs.RowLaws as rows
use Rattle.cc_meaning_dex.proofs.table_laws.well_formed_files.Goals as goal

pub returns : goal.returns
returns c = rows.well_formed_files c.text_agrees.ensures c.texts_judged.ensures c.pairs_agree.ensures c.descriptors_agree.ensures c.types_listed.ensures c.sound_files.ensures
