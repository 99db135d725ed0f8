use Rattle.std.proofs.Common.{sym, ap, ◌∙◌, Err}
use Rattle.cc_meaning_dex.specs.Mutf8.{mutf8_at}
use Rattle.cc_text.proofs.Reading.{same_fault}
use Rattle.cc_text.proofs.Items.{item_counted, item_cut, item_big, text_from_item, text_found}
use Rattle.cc_text.proofs.texts.read_text.Goals as goal

pub returns-in-Ok-mutf8-clause-ok : goal.returns-in-Ok-mutf8-clause-ok
returns-in-Ok-mutf8-clause-ok c =
    text_from_item c.args.bytes.now c.args.at c.in-Ok-mutf8.units.items c.in-Ok-mutf8.field-0-1
    (item_counted c.args.bytes.now c.args.at c.in-Ok.count c.in-Ok.place c.in-Ok.ensures.exact ∙ c.in-Ok-mutf8.ensures.ok)

pub returns-in-Err-clause-err : goal.returns-in-Err-clause-err
returns-in-Err-clause-err c =
    λ n. item_counted c.args.bytes.now c.args.at c.in-Ok.count c.in-Ok.place c.in-Ok.ensures.exact ∙ c.in-Err.ensures.err n

pub returns-in-Err-clause-memory : goal.returns-in-Err-clause-memory
returns-in-Err-clause-memory c =
    λ memory. text_found c.args.bytes.now c.args.at (mutf8_at c.args.bytes.now c.in-Ok.place c.in-Ok.count)
    (item_counted c.args.bytes.now c.args.at c.in-Ok.count c.in-Ok.place c.in-Ok.ensures.exact)
    (c.in-Err.ensures.memory (ap Err (same_fault c.in-Err.fault memory)))

pub returns-in-Err-CutOff-clause-err : goal.returns-in-Err-CutOff-clause-err
returns-in-Err-CutOff-clause-err c = λ _. item_cut c.args.bytes.now c.args.at (sym (ap Err c.in-Err-CutOff.field-0-is) ∙ c.in-Err-CutOff.ensures.exact)

pub returns-in-Err-TooBig-clause-err : goal.returns-in-Err-TooBig-clause-err
returns-in-Err-TooBig-clause-err c = λ _. item_big c.args.bytes.now c.args.at (sym (ap Err c.in-Err-TooBig.field-0-is) ∙ c.in-Err-TooBig.ensures.exact)
