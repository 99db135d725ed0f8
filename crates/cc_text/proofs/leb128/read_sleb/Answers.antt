use Rattle.std.proofs.Common.{◌≡◌, ◌+◌, ◌^◌, take, ◌⊎◌, ◌<ℤ◌, ◌≤ℤ◌, neg_ℤ, to_z, of_z, w32, w64, sym, ap, ◌∙◌, inl, inr, Ok, pos, arith}
use Rattle.std.proofs.lemmas.Int.{ints}
use Rattle.std.proofs.lemmas.Result.{err_from_is_err_and}
use Rattle.cc_meaning_dex.specs.Leb128.{FitsI32, leb_size, signed_leb_value}
use Rattle.cc_text.proofs.Signed.{sleb_at-Err, sleb_at-Ok, sleb_at-big, sleb_at-past}
use Rattle.cc_text.proofs.leb128.read_sleb.Goals as goal
use Rattle.cc_text.proofs.leb128.read_sleb.Goals.{else-value-from-via-then-value-from+else-value-from-2, else-value-from-via-else-value-from}

pub returns-then-at-bytes : goal.returns-then-at-bytes
returns-then-at-bytes c = sym (sleb_at-past c.args.bytes.now c.args.at (omega arith))

pub returns-in_err-size : goal.returns-in_err-size
returns-in_err-size c =
    let p = err_from_is_err_and c.from_residual.result c.from_residual.ensures.1 in
    let found = ap (leb_size 5) (sym c.split_at.ensures.back) ∙ sym c.in_err-size.ensures.value in
    rw (p.1, p.2) (sym (sleb_at-Err c.args.bytes.now c.args.at c.in_err-size.field-0.0 found))

pub returns-then-value-from-2 : goal.returns-then-value-from-2
returns-then-value-from-2 c =
    let found = ap (leb_size 5) (sym c.split_at.ensures.back) ∙ sym c.in_ok-size.ensures.value in
    let value = c.signed_value-value.ensures ∙ ap signed_leb_value (c.split_at-2.ensures.front ∙ ap (take c.in_ok-size.size) c.split_at.ensures.back) in
    let fits : FitsI32 c.signed_value-value.result = (omega (arith, ints), omega (arith, ints)) in
    let same : to_z w32 (of_z w32 (to_z w64 (of_z w64 c.signed_value-value.result))) ≡ c.signed_value-value.result = omega (arith, ints) in
    ap (λ v. Ok (v, c.args.at + c.in_ok-size.size)) same ∙ sym (sleb_at-Ok c.args.bytes.now c.args.at c.in_ok-size.size c.signed_value-value.result found value fits)

pub returns-else-value-from : goal.returns-else-value-from
returns-else-value-from c =
    let found = ap (leb_size 5) (sym c.split_at.ensures.back) ∙ sym c.in_ok-size.ensures.value in
    let value = c.signed_value-value.ensures ∙ ap signed_leb_value (c.split_at-2.ensures.front ∙ ap (take c.in_ok-size.size) c.split_at.ensures.back) in
    let outside : (c.signed_value-value.result <ℤ neg_ℤ (pos (2 ^ 31))) ⊎ (pos (2 ^ 31) ≤ℤ c.signed_value-value.result) =
    elim c.else-value-from.branch [ else-value-from-via-then-value-from+else-value-from-2 w ↦ inr (omega (arith, ints)) | else-value-from-via-else-value-from w ↦ inl (omega (arith, ints)) ] in
    sym (sleb_at-big c.args.bytes.now c.args.at c.in_ok-size.size c.signed_value-value.result found value outside)
