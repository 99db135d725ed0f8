use Rattle.std.proofs.Common.{◌≡◌, List, ℕ, ◌++◌, sym, ap, subst, ◌∙◌}
use Rattle.std.proofs.lemmas.Result.{IfOk-weaker}
use Rattle.cc_meaning_builder.specs.Forms.{u32_form}
use Rattle.cc_meaning_dex.specs.Adler32.{adler32_of}
use Rattle.cc_meaning_dex.specs.Tables.{magic}
use Rattle.cc_dex_writer.specs.Whole.{IsWhole, signed_form}
use Rattle.cc_dex_writer.proofs.file.whole_file.Goals as goal

pub returns : goal.returns
returns c =
    let body = c.in_ok-body.body in
    let signed : c.as_slice-2.result.now ≡ signed_form body = c.as_slice-2.ensures ∙ c.in_ok-signed.ensures ∙ ap signed_form c.as_slice.ensures in
    let whole = c.built_is_whole.ensures c.args.ids.now c.args.offsets.now c.args.data.now body c.in_ok-body.ensures in
    IfOk-weaker c.summed.result (λ (file : List ℕ). file ≡ magic ++ (u32_form (adler32_of c.as_slice-2.result.now) ++ c.as_slice-2.result.now)) (IsWhole c.args.ids.now c.args.offsets.now c.args.data.now)
    (λ file is. subst (IsWhole c.args.ids.now c.args.offsets.now c.args.data.now) (sym (is ∙ ap (λ (s : List ℕ). magic ++ (u32_form (adler32_of s) ++ s)) signed)) whole) c.summed.ensures
