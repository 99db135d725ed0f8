use Rattle.std.proofs.Common.{◌+◌, refl, arith, length}
use Rattle.cc_dex_writer.specs.Layout.{texts_at, types_at, protos_at, fields_at, methods_at, classes_at, data_start_of, header_numbers}
use Rattle.cc_dex_writer.proofs.Parts.{cons_same, counted, placed}
use Rattle.cc_dex_writer.proofs.header.header_numbers.Goals as goal

pub returns-clause-exact : goal.returns-clause-exact
unfolding header_numbers
returns-clause-exact c fits =
    let ids = c.args.ids.now in
    let file = counted _ _ (data_start_of ids + c.args.size) c.number.ensures (omega (arith, c.file_size.ensures, fits)) fits in
    let texts = counted _ _ (length ids.texts) c.number-2.ensures c.len.ensures.value (omega (arith, fits)) in
    let texts_place = placed _ _ (length ids.texts) _ texts_at c.stated_place.ensures c.len-2.ensures.value refl (omega (arith)) in
    let types = counted _ _ (length ids.types) c.number-3.ensures c.len-3.ensures.value (omega (arith, fits)) in
    let types_place = placed _ _ (length ids.types) _ (types_at ids) c.stated_place-2.ensures c.len-4.ensures.value (omega (arith, c.types_at.ensures, fits)) (omega (arith, fits)) in
    let protos = counted _ _ (length ids.protos) c.number-4.ensures c.len-5.ensures.value (omega (arith, fits)) in
    let protos_place = placed _ _ (length ids.protos) _ (protos_at ids) c.stated_place-3.ensures c.len-6.ensures.value (omega (arith, c.protos_at.ensures, fits)) (omega (arith, fits)) in
    let fields = counted _ _ (length ids.fields) c.number-5.ensures c.len-7.ensures.value (omega (arith, fits)) in
    let fields_place = placed _ _ (length ids.fields) _ (fields_at ids) c.stated_place-4.ensures c.len-8.ensures.value (omega (arith, c.fields_at.ensures, fits)) (omega (arith, fits)) in
    let methods = counted _ _ (length ids.methods) c.number-6.ensures c.len-9.ensures.value (omega (arith, fits)) in
    let methods_place = placed _ _ (length ids.methods) _ (methods_at ids) c.stated_place-5.ensures c.len-10.ensures.value (omega (arith, c.methods_at.ensures, fits)) (omega (arith, fits)) in
    let classes = counted _ _ (length ids.classes) c.number-7.ensures c.len-11.ensures.value (omega (arith, fits)) in
    let classes_place = placed _ _ (length ids.classes) _ (classes_at ids) c.stated_place-6.ensures c.len-12.ensures.value (omega (arith, c.classes_at.ensures, fits)) (omega (arith, fits)) in
    let size = counted _ _ c.args.size c.number-8.ensures refl (omega (arith, fits)) in
    let start = counted _ _ (data_start_of ids) c.number-9.ensures (omega (arith, c.data_start.ensures, fits)) (omega (arith, fits)) in
    cons_same _ _ _ _ file (cons_same _ _ _ _ refl (cons_same _ _ _ _ refl (cons_same _ _ _ _ refl (cons_same _ _ _ _ refl (cons_same _ _ _ _ refl
    (cons_same _ _ _ _ texts (cons_same _ _ _ _ texts_place
    (cons_same _ _ _ _ types (cons_same _ _ _ _ types_place
    (cons_same _ _ _ _ protos (cons_same _ _ _ _ protos_place
    (cons_same _ _ _ _ fields (cons_same _ _ _ _ fields_place
    (cons_same _ _ _ _ methods (cons_same _ _ _ _ methods_place
    (cons_same _ _ _ _ classes (cons_same _ _ _ _ classes_place
    (cons_same _ _ _ _ size (cons_same _ _ _ _ start refl)))))))))))))))))))
