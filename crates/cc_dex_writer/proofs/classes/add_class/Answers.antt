use Rattle.std.proofs.Common.{◌≡◌}
use Rattle.std.proofs.lemmas.Result.{IfOk-weaker}
use Rattle.cc_meaning.specs.declared.file.ClassRow.{ClassRow}
use Rattle.cc_meaning_builder.specs.Written.{ClassPasses}
use Rattle.cc_dex_writer.specs.Section.{Adds}
use Rattle.cc_dex_writer.proofs.Passing.{class_added}
use Rattle.cc_dex_writer.proofs.classes.add_class.Goals as goal

pub returns-clause-passed : goal.returns-clause-passed
returns-clause-passed c =
    let class = c.args.class.now in
    let outs = c.args.outs.now in
    let at = c.in_ok-members_at.members_at in
    let written = rw c.as_slice.ensures at c.in_ok-methods.ensures.written in
    let members = rw c.as_slice-2.ensures at c.in_ok-members_at.ensures in
    IfOk-weaker c.placed.result (λ (row : ClassRow). row.members_at ≡ at) (λ row. Adds c.args.section.now c.add_values.new.self (λ file. ClassPasses file row class outs))
    (λ row same. class_added c.args.section.now c.add_methods.new.section c.add_members.new.self c.add_values.new.self row class c.in_ok-methods.methods outs at same
    written c.in_ok-methods.ensures.passed members c.in_ok-values_at.ensures.grown)
    c.placed.ensures.members
