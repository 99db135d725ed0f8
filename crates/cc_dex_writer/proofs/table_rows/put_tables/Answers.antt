use Rattle.std.proofs.Common.{◌++◌, subst}
use Rattle.std.specs.List.{flat_map}
use Rattle.cc_meaning_builder.specs.Forms.{u32_form}
use Rattle.cc_dex_writer.specs.Rows.{numbered_form, text_row_form, proto_row_form, field_row_form, method_row_form, class_row_form, tables_form}
use Rattle.cc_dex_writer.specs.Whole.{AreWideClasses}
use Rattle.cc_dex_writer.proofs.Parts.{put_same, put_both}
use Rattle.cc_dex_writer.proofs.table_rows.put_tables.Goals as goal

pub returns-clause-added : goal.returns-clause-added
unfolding tables_form
returns-clause-added c =
    let ids = c.args.ids.now in
    let offsets = c.args.offsets.now in
    let first = c.args.out.now in
    let second = c.put_texts.new.out in
    let third = c.put_numbers.new.out in
    let fourth = c.put_protos.new.out in
    let fifth = c.put_fields.new.out in
    let sixth = c.put_methods.new.out in
    let last = c.put_classes.new.out in
    let texts = numbered_form (text_row_form offsets) 0 ids.texts in
    let types = flat_map u32_form ids.types in
    let protos = numbered_form (proto_row_form offsets) 0 ids.protos in
    let fields = flat_map field_row_form ids.fields in
    let methods = flat_map method_row_form ids.methods in
    let classes = numbered_form (class_row_form offsets) 0 ids.classes in
    let put_texts = put_same first second (numbered_form (text_row_form offsets) 0) _ ids.texts c.in_ok-put_texts.ensures c.as_slice.ensures in
    let put_types = put_same second third (flat_map u32_form) _ ids.types c.in_ok-put_numbers.ensures.added c.as_slice-2.ensures in
    let put_protos = put_same third fourth (numbered_form (proto_row_form offsets) 0) _ ids.protos c.in_ok-put_protos.ensures c.as_slice-3.ensures in
    let put_fields = put_same fourth fifth (flat_map field_row_form) _ ids.fields c.in_ok-put_fields.ensures c.as_slice-4.ensures in
    let put_methods = put_same fifth sixth (flat_map method_row_form) _ ids.methods c.in_ok-put_methods.ensures c.as_slice-5.ensures in
    let put_classes = put_same sixth last (numbered_form (class_row_form offsets) 0) _ ids.classes c.in_ok-put_classes.ensures.added c.as_slice-6.ensures in
    put_both first second last texts (types ++ (protos ++ (fields ++ (methods ++ classes)))) put_texts
    (put_both second third last types (protos ++ (fields ++ (methods ++ classes))) put_types
    (put_both third fourth last protos (fields ++ (methods ++ classes)) put_protos
    (put_both fourth fifth last fields (methods ++ classes) put_fields
    (put_both fifth sixth last methods classes put_methods put_classes))))

pub returns-clause-wide : goal.returns-clause-wide
returns-clause-wide c = subst AreWideClasses c.as_slice-6.ensures c.in_ok-put_classes.ensures.wide
