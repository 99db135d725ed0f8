use Rattle.std.proofs.Common.{◌≡◌, ◌+◌, true, None, ap, subst, ◌∙◌}
use Rattle.cc_meaning_dex.specs.Numbers.{u32_at}
use Rattle.cc_meaning_dex.specs.Faults.{list_fault, interfaces_at, class_fits}
use Rattle.cc_meaning_dex.specs.Ids.{ListsTypes, RowStated}
use Rattle.cc_dexids.proofs.Spelling.{class_row}
use Rattle.cc_dexids.proofs.readers.ClassReaderRowReader.read_row.Goals as goal

pub returns : goal.returns
returns c =
    let file = c.args.self.now.known.file.now in
    let at = c.row_at-at.ensures.exact in
    let place : c.u32_at.result ≡ interfaces_at file c.args.row = c.u32_at.ensures ∙ ap (λ p. u32_at file (p + 12)) at in
    let read = c.in_ok-interfaces.ensures in
    let stands : list_fault file (interfaces_at file c.args.row) ≡ None = subst (λ p. list_fault file p ≡ None) place read.0 in
    let test = c.fits_class.ensures in
    let slice = c.as_slice.ensures in
    let yes = c.if-not-fits_class.false in
    let listed = read.1 in
    let class = c.u32_at-class.ensures ∙ ap (u32_at file) at in
    let superclass = c.u32_at-superclass.ensures ∙ ap (λ p. u32_at file (p + 8)) at in
    let fits : class_fits file c.args.row ≡ true = cc in (
      class_row file c.args.row stands fits,
      record {
        class = c.u32_at-class.ensures ∙ ap (u32_at file) at;
        flags = c.u32_at-2.ensures ∙ ap (λ p. u32_at file (p + 4)) at;
        superclass = subst (λ stated. RowStated c.stated_row.result stated) (c.u32_at-superclass.ensures ∙ ap (λ p. u32_at file (p + 8)) at) c.stated_row.ensures;
        interfaces = subst (λ p. ListsTypes file p c.in_ok-interfaces.interfaces) place ((c.types_listed.ensures file c.u32_at.result c.in_ok-interfaces.interfaces).0 read);
        members_at = c.u32_at-3.ensures ∙ ap (λ p. u32_at file (p + 24)) at;
        values_at = c.u32_at-4.ensures ∙ ap (λ p. u32_at file (p + 28)) at;
      },
    )
