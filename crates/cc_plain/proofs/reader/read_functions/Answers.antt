use Rattle.std.proofs.Common.{◌+◌, ap, ◌∙◌}
use Rattle.cc_meaning_dex.specs.Numbers.{u32_at}
use Rattle.cc_plain.proofs.ReaderLemmas.{no_data, no_methods, no_order}
use Rattle.cc_plain.proofs.reader.read_functions.Goals as goal

pub returns-in_default : goal.returns-in_default
returns-in_default c =
    let file = c.args.file.now in
    let place = c.u32_at-data.ensures ∙ ap (λ at. u32_at file (at + 24)) c.row_at.ensures.exact in
    no_data file c.args.class c.u32_at-data.result place (rw c.in_default.is at c.in_ok-members.ensures)

pub returns-in_default-2 : goal.returns-in_default-2
returns-in_default-2 c =
    let file = c.args.file.now in
    let place = c.u32_at-data.ensures ∙ ap (λ at. u32_at file (at + 24)) c.row_at.ensures.exact in
    let stand = rw c.in-Some.is at c.in_ok-members.ensures in
    no_methods c.law_data_once.ensures file c.args.class c.u32_at-data.result c.in-Some.members place stand (rw (c.in_default-2.is, c.as_slice.ensures) at c.in_ok-methods.ensures)

pub returns-in_default-3 : goal.returns-in_default-3
returns-in_default-3 c =
    let file = c.args.file.now in
    let place = c.u32_at-data.ensures ∙ ap (λ at. u32_at file (at + 24)) c.row_at.ensures.exact in
    let stand = rw c.in-Some.is at c.in_ok-members.ensures in
    no_order c.law_data_once.ensures c.law_methods_once.ensures file c.args.class c.u32_at-data.result c.in-Some.members c.in-Some-2.methods.main c.in-Some-2.methods.functions place stand
    (rw (c.in-Some-2.is, c.as_slice.ensures) at c.in_ok-methods.ensures) (rw c.in_default-3.is at c.in_ok-functions.ensures)
