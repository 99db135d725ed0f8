use Rattle.std.proofs.Common.{◌∙◌, ap, ◌++◌}
use Rattle.cc_meaning_images.specs.Spelling.{u2, u4, u8, counted, spelled_values, spelled_made, spelled_run}
use Rattle.cc_wire.proofs.Pieces.{and_then}
use Rattle.cc_wire.proofs.spell.entry.RunImageSpell.put.Goals as goal

pub returns : goal.returns
unfolding spelled_run
returns c =
    let image = c.args.self.now in
    and_then _ c.args.bytes.now.items (u4 image.method) _ _ c.in_ok-put.ensures
    (and_then _ c.put.new.bytes.items (u8 image.instructions) _ _ c.in_ok-put-2.ensures
    (and_then _ c.put-2.new.bytes.items (u4 image.words) _ _ c.in_ok-put-3.ensures
    (and_then _ c.put-3.new.bytes.items (u2 image.depth) _ _ c.in_ok-put-4.ensures
    (and_then _ c.put-4.new.bytes.items (u4 image.registers) _ _ c.in_ok-put-5.ensures
    (and_then _ c.put-5.new.bytes.items image.statuses _ _ (c.in_ok-extend_from_slice.ensures.items ∙ ap (λ x. c.put-5.new.bytes.items ++ x) c.as_slice.ensures)
    (and_then _ c.extend_from_slice.new.self.items (spelled_values image.args) _ _ c.in_ok-put_all.ensures
    (and_then _ c.put_all.new.bytes.items (spelled_values image.statics) _ _ c.in_ok-put_all-2.ensures
    (and_then _ c.put_all-2.new.bytes.items (counted spelled_made image.literals) _ _ c.in_ok-put_counted.ensures
    (and_then _ c.put_counted.new.bytes.items (counted spelled_made image.constants) _ _ c.in_ok-put_counted-2.ensures c.put_all-3.ensures)))))))))
