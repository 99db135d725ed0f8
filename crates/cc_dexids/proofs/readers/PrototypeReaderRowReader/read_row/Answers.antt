use Rattle.std.proofs.Common.{◌≡◌, ◌+◌, true, None, ap, subst, ◌∙◌}
use Rattle.cc_meaning_dex.specs.Numbers.{u32_at}
use Rattle.cc_meaning_dex.specs.Faults.{list_fault, params_at, prototype_fits}
use Rattle.cc_meaning_dex.specs.Ids.{ListsTypes}
use Rattle.cc_dexids.proofs.Spelling.{prototype_row}
use Rattle.cc_dexids.proofs.readers.PrototypeReaderRowReader.read_row.Goals as goal

pub returns-then-fits_prototype : goal.returns-then-fits_prototype
returns-then-fits_prototype c =
    let file = c.args.self.now.known.file.now in
    let at = c.row_at-at.ensures.exact in
    let gives = c.u32_at-result.ensures ∙ ap (λ p. u32_at file (p + 4)) at in
    let place : c.u32_at.result ≡ params_at file c.args.row = c.u32_at.ensures ∙ ap (λ p. u32_at file (p + 8)) at in
    let read = c.in_ok-params.ensures in
    let stands : list_fault file (params_at file c.args.row) ≡ None = subst (λ p. list_fault file p ≡ None) place read.0 in
    let test = c.fits_prototype.ensures in
    let slice = c.as_slice.ensures in
    let yes = c.if-fits_prototype.true in
    let listed = read.1 in
    let fits : prototype_fits file c.args.row ≡ true = cc in (
      prototype_row file c.args.row stands fits,
      record {
        result = gives;
        params = subst (λ p. ListsTypes file p c.in_ok-params.params) place ((c.types_listed.ensures file c.u32_at.result c.in_ok-params.params).0 read);
      },
    )
