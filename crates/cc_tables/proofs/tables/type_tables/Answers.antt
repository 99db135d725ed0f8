use Rattle.std.proofs.Common.{◌≡◌, ◌<◌, ◌^◌, ℕ, List, length, map, ap, sym, subst, ◌∙◌}
use Rattle.cc_meaning.specs.declared.file.Ids.{Ids}
use Rattle.cc_names.specs.InOrder.{AreInOrder}
use Rattle.cc_tables.specs.Made.{IsTextTable}
use Rattle.cc_tables.specs.Needs.{texts_of}
use Rattle.cc_tables.specs.Places.{alone, text_place}
use Rattle.cc_tables.proofs.tables.type_tables.Goals as goal

pub returns : goal.returns
returns c =
    let needs = c.args.needs.now in
    let given = c.only_texts-ids.result in
    let texts : given.texts ≡ c.in_ok-text_table.field-0 = ap (λ (ids : Ids). ids.texts) c.only_texts-ids.ensures in
    let rows = c.in_ok-rows.ensures ∙ ap (map (text_place given)) (c.as_slice.ensures ∙ c.in_ok-descriptors.ensures) in
    record {
      few = c.in_ok-text_table.ensures.all_few;
      few_texts = subst (λ (table : List (List ℕ)). length table < 2 ^ 32) (sym texts) c.in_ok-text_table.ensures.few;
      texts = subst (IsTextTable (texts_of needs)) (sym texts) c.in_ok-text_table.ensures.table;
      types = subst (λ given. AreInOrder alone given c.in_ok-ids.field-0) rows c.in_ok-ids.ensures;
    }
