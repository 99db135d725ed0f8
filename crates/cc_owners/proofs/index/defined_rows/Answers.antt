use Rattle.std.proofs.Common.{map, subst, ap, ◌∙◌}
use Rattle.cc_names.specs.InOrder.{AreInOrder}
use Rattle.cc_owners.specs.declared.index.Entry.{Entry}
use Rattle.cc_owners.specs.Members.{member_of}
use Rattle.cc_owners.proofs.Indexing.{rows_sorted}
use Rattle.cc_owners.proofs.index.defined_rows.Goals as goal

pub returns : goal.returns
returns c = λ classes are.
    let given = c.from_vec.ensures ∙ (c.in_ok-rows.ensures ∙ ap (map (λ (entry : Entry). entry.row)) c.as_slice.ensures) in
    rows_sorted c.args.ids.now classes c.args.table c.args.entries.now c.in_ok-sorted.sorted are (subst (λ l. AreInOrder (member_of c.args.ids.now c.args.table) l c.in_ok-sorted.sorted) given c.in_ok-sorted.ensures)
