use Rattle.std.proofs.Common.{◌∙◌, ap, ◌++◌}
use Rattle.std.specs.List.{flat_map}
use Rattle.cc_meaning_images.specs.Spelling.{u4, u8, counted, spelled_end, spelled_values, spelled_made, spelled_call, spelled_contents, spelled_back}
use Rattle.cc_wire.proofs.Pieces.{and_then}
use Rattle.cc_wire.proofs.spell.end.BackImageSpell.put.Goals as goal

pub returns : goal.returns
unfolding spelled_back
returns c =
    let image = c.args.self.now in
    and_then _ c.args.bytes.now.items (spelled_end image.ending) _ _ c.in_ok-put.ensures
    (and_then _ c.put.new.bytes.items (u8 image.instructions) _ _ c.in_ok-put-2.ensures
    (and_then _ c.put-2.new.bytes.items (u4 image.words) _ _ c.in_ok-put-3.ensures
    (and_then _ c.put-3.new.bytes.items image.statuses _ _ (c.in_ok-extend_from_slice.ensures.items ∙ ap (λ x. c.put-3.new.bytes.items ++ x) c.as_slice.ensures)
    (and_then _ c.extend_from_slice.new.self.items (spelled_values image.statics) _ _ c.in_ok-put_all.ensures
    (and_then _ c.put_all.new.bytes.items (counted spelled_made image.literals) _ _ c.in_ok-put_counted.ensures
    (and_then _ c.put_counted.new.bytes.items (counted spelled_made image.constants) _ _ c.in_ok-put_counted-2.ensures
    (and_then _ c.put_counted-2.new.bytes.items (counted spelled_call image.events) _ _ c.in_ok-put_counted-3.ensures
    (and_then _ c.put_counted-3.new.bytes.items (flat_map spelled_contents image.old) _ _ c.in_ok-put_all-2.ensures c.put_all-3.ensures))))))))
