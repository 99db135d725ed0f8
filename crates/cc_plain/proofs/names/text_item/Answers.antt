use Rattle.cc_plain.proofs.names.text_item.Goals as goal

pub returns-in_default : goal.returns-in_default
returns-in_default c = c.in-Err.ensures.refused c.in_default.not-Memory
