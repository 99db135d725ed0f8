use Rattle.std.proofs.Common.{ap, ◌∙◌}
use Rattle.cc_meaning_dex.specs.Numbers.{u32_at}
use Rattle.cc_plain.proofs.ReaderLemmas.{no_class, no_descriptor}
use Rattle.cc_plain.proofs.reader.read_class.Goals as goal

pub returns-in_default : goal.returns-in_default
returns-in_default c =
    let file = c.args.file.now in
    let row = c.u32_at-row.ensures ∙ ap (λ at. u32_at file at) c.row_at.ensures.exact in
    no_class file c.u32_at-row.result row (rw c.in_default.is at c.in_ok-name.ensures)

pub returns-then-not-is_class_descriptor : goal.returns-then-not-is_class_descriptor
returns-then-not-is_class_descriptor c =
    let file = c.args.file.now in
    let row = c.u32_at-row.ensures ∙ ap (λ at. u32_at file at) c.row_at.ensures.exact in
    let class = rw c.in-Some.is at c.in_ok-name.ensures in
    no_descriptor c.law_type_once.ensures file c.u32_at-row.result c.in-Some.name c.is_class_descriptor.result row class
    (rw c.as_slice.ensures at c.is_class_descriptor.ensures) c.if-not-is_class_descriptor.true
