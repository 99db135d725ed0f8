use Rattle.std.proofs.Common.{◌≡◌, ◌<◌, List, Some, length, sym, ap, ◌∙◌, subst, slice_index_or}
use Rattle.std.specs.Prelude.{Contains, slice_get}
use Rattle.cc_meaning.specs.declared.file.ClassRow.{ClassRow}
use Rattle.cc_meaning_program.specs.Named.{type_name}
use Rattle.cc_program.proofs.Assembly.{some_same}
use Rattle.cc_program.proofs.Building.{defined_is_class, row_at}
use Rattle.cc_program.proofs.build.class_of.Goals as goal

pub unreachable-requires : goal.unreachable-requires
unreachable-requires c =
    let within = subst (λ (xs : List ClassRow). c.args.definition < length xs) (sym c.as_slice.ensures) c.requires.there in
    let there = subst (λ (xs : List ClassRow). slice_get xs c.args.definition ≡ Some c.index-as_slice-definition.result) c.as_slice.ensures (row_at c.as_slice.result.now c.args.definition c.index-as_slice-definition.result within c.index-as_slice-definition.is) in
    c.in-None.ensures (subst (λ name. Contains c.args.names.now name) (sym c.type_name.ensures) (defined_is_class c.args.ids.now c.requires.tables c.args.names.now c.requires.names c.args.definition c.index-as_slice-definition.result there))

pub returns : goal.returns
returns c stated e =
    let within = subst (λ (xs : List ClassRow). c.args.definition < length xs) (sym c.as_slice.ensures) c.requires.there in
    let there = subst (λ (xs : List ClassRow). slice_get xs c.args.definition ≡ Some c.index-as_slice-definition.result) c.as_slice.ensures (row_at c.as_slice.result.now c.args.definition c.index-as_slice-definition.result within c.index-as_slice-definition.is) in
    let same = some_same c.index-as_slice-definition.result stated (sym there ∙ e) in
    c.in-Some.ensures ∙ ap Some (c.type_name.ensures ∙ ap (λ (row : ClassRow). type_name c.args.ids.now row.class) same)
