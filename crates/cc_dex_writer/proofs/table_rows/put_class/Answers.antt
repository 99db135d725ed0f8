use Rattle.cc_dex_writer.proofs.table_rows.put_class.Goals as goal

pub returns-clause-wide : goal.returns-clause-wide
returns-clause-wide c = record { flags = c.put_numbers.ensures.wide 1; members_at = c.put_numbers.ensures.wide 6; values_at = c.put_numbers.ensures.wide 7 }
